-- no path is in conflict with those before it
use Rattle.std.proofs.Common.{◌≡◌, ◌+◌, ◌<◌, ◌≤◌, ℕ, zero, suc, List, [], ◌∷◌, take, take_all, map, length, slice_index_or, Bor, true, refl, ap, sym, subst, ◌∙◌, arith}
use Rattle.std.specs.Prelude.{get_or}
use Rattle.std.proofs.lemmas.List.{length-map}
use Rattle.std.proofs.lemmas.List.Sums.{fold_more}
use Rattle.bcd.proofs.Tables.{at_each}
use Rattle.matchit.specs.Rows.{RowsOf}
use Rattle.matchit.specs.Router.{RouteOf}
use Rattle.matchit.proofs.OnLiterals.{matchit_on_literals}
use Rattle.http_messages.specs.declared.routes.Path.{Path}
use Rattle.http_messages.specs.declared.routes.Route.{Route}
use Rattle.http_messages.specs.declared.routes.Route.TheVariants.{Queue}
use Rattle.http_messages.specs.Paths.{get, is_free, path_of, paths, routed, with_path}

-- the path after so many
abbrev pub path_at : ℕ → List ℕ × Path
path_at place = get_or paths place ([], get Queue)

pub free_at : (place : ℕ) → place < length paths → is_free (routed (take place paths)) (path_at place).0 ≡ true
unfolding matchit_on_literals
free_at = at_each (λ place. is_free (routed (take place paths)) (path_at place).0) (length paths) refl

-- the rows with the path after so many
pub with_next : (place : ℕ) → place < length paths → routed (take (place + 1) paths) ≡ with_path (routed (take place paths)) (path_at place)
with_next place few = fold_more with_path [] paths place ([], get Queue) few

entry_at : (table : List (Bor (List ℕ) × Path)) (place : ℕ) (other : Bor (List ℕ) × Path) → place < length table → path_of (slice_index_or table place other) ≡ get_or (map path_of table) place ([], get Queue)
entry_at [] place other few = absurd (omega arith)
entry_at (entry ∷ table) zero other few = refl
entry_at (entry ∷ table) (suc place) other few = entry_at table place other (omega arith)

module _ (table : List (Bor (List ℕ) × Path)) (same : map path_of table ≡ paths) (place : ℕ) (few : place < length table) (other : Bor (List ℕ) × Path) where
  long : length table ≡ length paths
  long = omega (arith, length-map table path_of, ap length same)

  at : path_of (slice_index_or table place other) ≡ path_at place
  at = entry_at table place other few ∙ ap (λ (all : List (List ℕ × Path)). get_or all place ([], get Queue)) same

  pub next_free : (rows : RowsOf (RouteOf Path)) → rows ≡ routed (take place paths) → is_free rows (slice_index_or table place other).0.now ≡ true
  next_free rows is =
      subst (λ (r : RowsOf (RouteOf Path)). is_free r (slice_index_or table place other).0.now ≡ true) (sym is)
      (subst (λ (path : List ℕ × Path). is_free (routed (take place paths)) path.0 ≡ true) (sym at) (free_at place (omega (arith, long))))

  pub next_rows : (rows new : RowsOf (RouteOf Path)) → rows ≡ routed (take place paths) → new ≡ with_path rows (path_of (slice_index_or table place other)) → new ≡ routed (take (place + 1) paths)
  next_rows rows new is gives =
      gives
      ∙ ap (λ (r : RowsOf (RouteOf Path)). with_path r (path_of (slice_index_or table place other))) is
      ∙ ap (with_path (routed (take place paths))) at
      ∙ sym (with_next place (omega (arith, long)))

-- once all of a table's paths are in, the rows are those of all paths
pub all_rows : (table : List (Bor (List ℕ) × Path)) → map path_of table ≡ paths → (place : ℕ) → length table ≤ place → (rows : RowsOf (RouteOf Path)) → rows ≡ routed (take place paths) → rows ≡ routed paths
all_rows table same place all rows is =
    let long : length table ≡ length paths = omega (arith, length-map table path_of, ap length same) in
    is ∙ ap routed (take_all place paths (omega (arith, long)))

-- paths are the same by their methods and their routes
pub same_path : (path other : Path) → path.method ≡ other.method → path.route ≡ other.route → path ≡ other
same_path path other method route =
    ap (λ (m : List ℕ). record { method = m; route = path.route }) method
    ∙ ap (λ (r : Route). record { method = other.method; route = r }) route
