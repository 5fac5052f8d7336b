-- What the UPDATE of a page does.
use Rattle.std.proofs.Common.{◌≡◌, ℕ, List, [], ◌∷◌, map, filter, cond, Bool, true, false, ◌&&◌, ◌==◌, bytes_eq, Option, Some, None, IsSome, Ok, refl, sym, ap, subst, ◌∙◌, true≢false}
use Rattle.std.specs.List.{AllByRecursion}
use Rattle.std.specs.List.Sorted.{IsPermutation}
use Rattle.std.specs.Option.{option_to_list}
use Rattle.sqlite.specs.declared.types.Value.TheVariants.{Int, Blob}
use Rattle.sqlite.specs.Order.{Row}
use Rattle.sqlite.specs.Tree.{put_row, without_rowid}
use Rattle.sqlite.specs.View.{IsShaped}
use Rattle.sqlite.specs.Rowids.TheVariants.{Given}
use Rattle.sqlite.specs.Edit.{edit_of, edited}
use Rattle.sqlite.specs.State.{State, ExecutesInside}
use Rattle.sqlite.proofs.Callers.{one_permutation}
use Rattle.sqlite_rules.specs.Calls.{ids_of}
use Rattle.sqlite_trees.specs.declared.store.Shape.TheVariants.{Table as Rising}
use Rattle.sqlite_trees.proofs.TreeLemmas.{IsShaped-put_row, IsShaped-filter}
use Rattle.ledger_tables.specs.Cells.{Pages}
use Rattle.ledger_tables.specs.Schema.{pages}
use Rattle.ledger_tables.specs.Tables.{Beside, ByJob, Tables, HoldsAs, IsOfPages, IsOne, at_job, at_page, cells, is_row_at, page_row, schema_beside, with_page}
use Rattle.ledger_tables.proofs.InsertStatement.{cast_int}
use Rattle.ledger_tables.proofs.LookupStatement.{passes, show, plain_answer}
use Rattle.ledger_tables.proofs.PageTables.{by_place, each_yes, of_page, page_found, page_named, page_passes, pages_alone, pages_there}
use Rattle.ledger_tables.proofs.ReadTexts.{is_place, new_page_terms, update_page, update_page_is}
use Rattle.ledger_tables.proofs.Texts.{place_of_pages}
use Rattle.ledger_tables.proofs.UpdateRows.{renewed, in_place, only_row, filter_renewed}
use Rattle.ledger_tables.proofs.UpdateStatements.{blind_place, idle_beside, some_one, updates}

module _ (customer : List ℕ) (number page : ℕ) (storage : List ℕ) where
  -- the parameters are the page's row
  abbrev fresh : Row
  fresh = page_row customer number page storage

  abbrev is_its : Row → Bool
  is_its = of_page customer number page (Blob storage ∷ [])

  -- the row in the place of the page's has the same name
  same_name : (c : List ℕ) (n k : ℕ) (row : Row) → IsOne page_row row → is_its row ≡ true → is_row_at c n k row ≡ is_row_at c n k fresh
  same_name c n k row it is =
      let name = page_named customer number page (Blob storage ∷ []) row it is in
      rw (it.4, name.0, name.1, name.2)

  same_names : (c : List ℕ) (n k : ℕ) (rows : List Row) → AllByRecursion (IsOne page_row) rows → AllByRecursion (λ row. is_its row ≡ true → is_row_at c n k row ≡ is_row_at c n k fresh) rows
  same_names c n k [] named = tt
  same_names c n k (row ∷ rows) named = (same_name c n k row named.0, same_names c n k rows named.1)

  still_pages : (rows : List Row) → AllByRecursion (IsOne page_row) rows → AllByRecursion (IsOne page_row) (renewed is_its fresh rows)
  still_pages [] named = tt
  still_pages (row ∷ rows) named = (elim (is_its row) as (λ b. IsOne page_row (cond b fresh row)) [ true ↦ (customer, number, page, storage, refl) | false ↦ named.0 ], still_pages rows named.1)

  own_row : (before : List ℕ) → is_its (page_row customer number page before) ≡ true
  own_row before =
      page_passes customer number page (Blob storage ∷ []) (page_row customer number page before) (customer, number, page, before, refl)
      ∙ each_yes customer customer number number page page refl refl refl

  other_row : (c : List ℕ) (n k : ℕ) → (bytes_eq customer c && ((number == n) && (page == k))) ≡ false → (o : Option (List ℕ)) → renewed is_its fresh (map (page_row c n k) (option_to_list o)) ≡ map (page_row c n k) (option_to_list o)
  other_row c n k other None = refl
  other_row c n k other (Some bytes) = go (is_its (page_row c n k bytes)) refl
    where
      go : (b : Bool) → is_its (page_row c n k bytes) ≡ b → renewed is_its fresh (page_row c n k bytes ∷ []) ≡ page_row c n k bytes ∷ []
      go true is =
          let name = page_named customer number page (Blob storage ∷ []) (page_row c n k bytes) (c, n, k, bytes, refl) is in
          absurd (true≢false (sym (each_yes customer c number n page k (sym name.0) (sym name.1) (sym name.2)) ∙ other))
      go false is = rw is

  -- the rows of the pages with these bytes in the row of this one
  one_anew : (rows news : List Row) (all : ByJob Pages) (before : List ℕ) → IsOfPages rows all → all customer number page ≡ Some before → cells news ≡ renewed is_its fresh (cells rows) → IsShaped Rising news
      → IsOfPages news (at_job customer number (at_page page (Some storage) (all customer number)) all)
  one_anew rows news all before is was are shaped =
      let here : renewed is_its fresh (map (page_row customer number page) (option_to_list (all customer number page))) ≡ fresh ∷ [] =
      ap (λ (o : Option (List ℕ)). renewed is_its fresh (map (page_row customer number page) (option_to_list o))) was ∙ rw (own_row before) in
      record {
        each = λ c n k. ap (filter (is_row_at c n k)) are ∙ filter_renewed is_its fresh (is_row_at c n k) (cells rows) (same_names c n k (cells rows) is.named) ∙ ap (renewed is_its fresh) (is.each c n k)
            ∙ by_place customer number page (Some storage) all (λ c n k o. renewed is_its fresh (map (page_row c n k) (option_to_list (all c n k))) ≡ map (page_row c n k) (option_to_list o)) here (λ c n k other. other_row c n k other (all c n k)) c n k;
        named = subst (AllByRecursion (IsOne page_row)) (sym are) (still_pages (cells rows) is.named);
        rise = shaped;
      }

  pub page_replaced : (old new : State) (count : ℕ) → ExecutesInside 0 update_page (page_row customer number page storage) old new (Ok count)
      → (there : Beside) (version : ℕ) (t : Tables) → HoldsAs there version old.now t → IsSome (t.pages customer number page) → HoldsAs there version new.now (with_page customer number page (Some storage) t)
  page_replaced old new count h there version t holds some =
      let was = some_one (t.pages customer number page) some in
      let db = old.now.trees in
      let old_row = page_row customer number page was.0 in
      let did = updates (schema_beside there) update_page (place_of_pages there) (record pages { tree = 13 }) is_place new_page_terms (update_page_is there) (pages_there there) (idle_beside there 13) old new fresh count holds.schema h.0 in
      let found : cells (filter (passes is_place fresh) (db 13)) ≡ old_row ∷ [] =
      page_found customer number page (Blob storage ∷ []) db t.pages holds.pages ∙ ap (λ (o : Option (List ℕ)). map (page_row customer number page) (option_to_list o)) was.1 in
      let at = only_row (filter (passes is_place fresh) (db 13)) old_row (IsShaped-filter Rising (passes is_place fresh) (db 13) holds.pages.rise) found in
      let shown : Row = Int at.0 ∷ Int at.0 ∷ fresh in
      let sure = plain_answer 13 is_place new_page_terms fresh db did.0 refl did.1.answer in
      let one : did.0 ≡ shown ∷ [] = one_permutation shown did.0 (subst (λ rs. IsPermutation (map (show new_page_terms fresh) rs) did.0) at.1 sure) in
      let new_row : Row = Int at.0 ∷ fresh in
      let edit : edited db (edit_of db (record pages { tree = 13 }) (ids_of (shown ∷ [])) Given 1 (shown ∷ [])) ≡ put_row new_row (without_rowid at.0 (db 13)) =
      simp cast_int in
      let whole : new.now.trees 13 ≡ put_row new_row (without_rowid at.0 (db 13)) = did.3 ∙ ap (λ rs. edited db (edit_of db (record pages { tree = 13 }) (ids_of rs) Given 1 rs)) one ∙ edit in
      let are = ap cells whole ∙ in_place (passes is_place fresh) is_its (blind_place fresh) fresh at.0 old_row (db 13) holds.pages.rise at.1 in
      let shaped = subst (IsShaped Rising) (sym whole) (IsShaped-put_row new_row (without_rowid at.0 (db 13)) refl (IsShaped-filter Rising _ (db 13) holds.pages.rise)) in
      pages_alone there version old.now new.now t _ holds did.2 did.5 did.4 (one_anew (db 13) (new.now.trees 13) t.pages was.0 holds.pages was.1 are shaped)
