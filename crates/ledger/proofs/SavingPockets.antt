-- The pockets of cards that are inserted after others, and the one chosen for the next card.
use Rattle.std.proofs.Common.{◌≡◌, ℕ, zero, ◌+◌, ◌<◌, ◌≤◌, ◌==◌, Bool, true, false, if◌then◌else◌, List, [], ◌∷◌, ◌++◌, length, length-append, take, slice_index_or, Option, Some, None, refl, sym, ap, subst, ◌∙◌, arith, append_assoc}
use Rattle.std.specs.Option.{option_map}
use Rattle.std.proofs.Math.Path.{fun_ext}
use Rattle.std.proofs.lemmas.Bool.Decides.{nat_tests}
use Rattle.std.proofs.lemmas.List.{length-take-le, take_more}
use Rattle.sqlite.specs.Effect.{Database}
use Rattle.units.specs.declared.pockets.Pocket.{Pocket}
use Rattle.units.specs.declared.punch.Punched.{Punched}
use Rattle.ledger_rows.specs.Pockets.{pocket_cell, pocket_rows_from, pocket_rows_of}
use Rattle.ledger_tables.specs.Cells.{Pockets}
use Rattle.ledger_tables.specs.Tables.{Tables, Holds, at_job, at_place, choosing, with_chosen, with_pocket, with_pockets}
use Rattle.ledger_tables.specs.declared.rows.ProfileRow.{ProfileRow}
use Rattle.ledger.proofs.SavingLemmas.{at_job_again, at_job_here, at_job_same}

-- no card before it has the next place
none_behind : (first : ℕ) (cards : List Punched) (place : ℕ) → first + length cards ≤ place → pocket_rows_from first cards place ≡ None
none_behind first [] place past = refl
none_behind first (c ∷ cards) place past = go (none_behind (first + 1) cards place (omega (arith, past))) (first == place) refl
  where
    go : pocket_rows_from (first + 1) cards place ≡ None → (b : Bool) → first == place ≡ b → (if b then pocket_cell c.pocket else pocket_rows_from (first + 1) cards place) ≡ None
    go rest true same = absurd (grind (arith, nat_tests))
    go rest false other = rest

-- the rows with those of one card more, behind the others
one_behind : (first : ℕ) (cards : List Punched) (c : Punched) (place : ℕ) → pocket_rows_from first (cards ++ c ∷ []) place ≡ at_place (first + length cards) (pocket_cell c.pocket) (pocket_rows_from first cards) place
one_behind first [] c place = ap (λ n. if n == place then pocket_cell c.pocket else None) (let same : first ≡ first + zero = omega arith in same)
one_behind first (d ∷ cards) c place = go (one_behind (first + 1) cards c place) (first == place) refl (first + length (d ∷ cards) == place) refl
  where
    on : first + 1 + length cards ≡ first + length (d ∷ cards)
    on = omega arith

    go : pocket_rows_from (first + 1) (cards ++ c ∷ []) place ≡ at_place (first + 1 + length cards) (pocket_cell c.pocket) (pocket_rows_from (first + 1) cards) place
        → (b : Bool) → first == place ≡ b → (e : Bool) → first + length (d ∷ cards) == place ≡ e
        → (if b then pocket_cell d.pocket else pocket_rows_from (first + 1) (cards ++ c ∷ []) place) ≡ (if e then pocket_cell c.pocket else (if b then pocket_cell d.pocket else pocket_rows_from (first + 1) cards place))
    go rest true same true last = absurd (grind (arith, nat_tests))
    go rest true same false last = refl
    go rest false other e last =
        rest ∙ ap (λ n. if n == place then pocket_cell c.pocket else pocket_rows_from (first + 1) cards place) on
        ∙ ap (λ b. if b then pocket_cell c.pocket else pocket_rows_from (first + 1) cards place) last

pub pockets_still : (db : Database) (t : Tables) (customer : List ℕ) (number : ℕ) (pockets : Pockets) → Holds db t → t.pockets customer number ≡ pockets → Holds db (with_pockets customer number pockets t)
pockets_still db t customer number pockets holds is = subst (λ all. Holds db (record t { pockets = all })) (sym (at_job_same customer number pockets t.pockets is)) holds

-- a card in the normal pocket has no row
pub no_pocket_put : (db : Database) (t : Tables) (customer : List ℕ) (number place : ℕ) (pocket : Pocket) → pocket_cell pocket ≡ None → t.pockets customer number place ≡ None → Holds db t → Holds db (with_pocket customer number place (pocket_cell pocket) t)
no_pocket_put db t customer number place pocket normal free holds =
    subst (λ all. Holds db (record t { pockets = all })) (sym (at_job_same customer number (at_place place (pocket_cell pocket) (t.pockets customer number)) t.pockets (sym same))) holds
  where
    same : at_place place (pocket_cell pocket) (t.pockets customer number) ≡ t.pockets customer number
    same = fun_ext (λ k. go k (place == k) refl)
      where
        go : (k : ℕ) (b : Bool) → place == k ≡ b → (if b then pocket_cell pocket else t.pockets customer number k) ≡ t.pockets customer number k
        go k true here = let at : place ≡ k = grind (arith, nat_tests) in normal ∙ sym free ∙ ap (t.pockets customer number) at
        go k false other = refl

module _ (t : Tables) (customer : List ℕ) (number : ℕ) (earlier cards : List Punched) (before i : ℕ) (count : before ≡ length earlier) (within : i < length cards) where
  abbrev pushed : List Punched
  pushed = earlier ++ take i cards

  many : length pushed ≡ before + i
  many = length-append earlier (take i cards) ∙ omega (arith, count, length-take-le i cards (omega (arith, within)))

  -- the next card's pocket has no row
  pub pocket_free : (with_pockets customer number (pocket_rows_of pushed) t).pockets customer number (before + i + 1) ≡ None
  pocket_free =
      ap (λ (p : Pockets). p (before + i + 1)) (at_job_here customer number (pocket_rows_of pushed) t.pockets)
      ∙ none_behind 1 pushed (before + i + 1) (omega (arith, many))

  -- with the next card's pocket put to them they are those of one card more
  pub pocket_pushed : (db : Database) (c : Punched) → c ≡ slice_index_or cards i c → Holds db (with_pocket customer number (before + i + 1) (pocket_cell c.pocket) (with_pockets customer number (pocket_rows_of pushed) t))
      → Holds db (with_pockets customer number (pocket_rows_of (earlier ++ take (i + 1) cards)) t)
  pocket_pushed db c is = subst (λ all. Holds db (record t { pockets = all })) (
      at_job_again customer number _ (pocket_rows_of pushed) t.pockets
      ∙ ap (λ (p : Pockets). at_job customer number (at_place (before + i + 1) (pocket_cell c.pocket) p) t.pockets) (at_job_here customer number (pocket_rows_of pushed) t.pockets)
      ∙ ap (λ (p : Pockets). at_job customer number p t.pockets) (sym more)
      )
    where
      all : earlier ++ take (i + 1) cards ≡ pushed ++ c ∷ []
      all = ap (λ (xs : List Punched). earlier ++ xs) (take_more cards i c within ∙ ap (λ (x : Punched). take i cards ++ x ∷ []) (sym is)) ∙ sym (append_assoc earlier (take i cards) (c ∷ []))

      place : 1 + length pushed ≡ before + i + 1
      place = omega (arith, many)

      more : pocket_rows_of (earlier ++ take (i + 1) cards) ≡ at_place (before + i + 1) (pocket_cell c.pocket) (pocket_rows_of pushed)
      more = fun_ext (λ k. ap (λ xs. pocket_rows_of xs k) all ∙ one_behind 1 pushed c k ∙ ap (λ n. at_place n (pocket_cell c.pocket) (pocket_rows_of pushed) k) place)

-- the pocket that is chosen already
pub choice_stays : (db : Database) (t : Tables) (customer : List ℕ) (number chosen : ℕ) → option_map (λ (p : ProfileRow). p.chosen) (t.profiles customer number) ≡ Some chosen → Holds db t → Holds db (with_chosen customer number chosen t)
choice_stays db t customer number chosen has holds =
    subst (λ all. Holds db (record t { profiles = all })) (sym (at_job_same customer number (option_map (choosing chosen) (t.profiles customer number)) t.profiles (sym (same (t.profiles customer number) has)))) holds
  where
    same : (o : Option ProfileRow) → option_map (λ (p : ProfileRow). p.chosen) o ≡ Some chosen → option_map (choosing chosen) o ≡ o
    same None is = refl
    same (Some p) is =
        let it : p.chosen ≡ chosen = cc in
        ap (λ (n : ℕ). let q : Option ProfileRow = Some (record p { chosen = n }) in q) (sym it)
