-- The names of the jobs, as they are read.
use Rattle.std.proofs.Common.{◌≡◌, inl, inr, List, ℕ, [], ◌∷◌, map, drop, get_or, codes, false, IsTrue, Option, Some, None, refl, sym, ap, subst, ◌∙◌}
use Rattle.sqlite.specs.Listing.{understood}
use Rattle.sqlite.specs.Order.{Row, column}
use Rattle.sqlite.specs.Effect.{Database}
use Rattle.sqlite.specs.State.{State, HasCleanDisk, IsUnchanged, Shown, ShowsRows, Survives}
use Rattle.sqlite.specs.Tree.{Trees}
use Rattle.sqlite_resolve.specs.declared.compiled.Compiled.{Compiled}
use Rattle.sqlite_schema.specs.declared.command.Returning.{Returning}
use Rattle.sqlite.specs.Term.{col}
use Rattle.sqlite_tied.specs.Compute.{everything}
use Rattle.ledger_tables.specs.Tables.{cells, job_row}
use Rattle.ledger_tables.proofs.LookupAnswers.{looks}
use Rattle.ledger_tables.proofs.LookupKeys.{columns}
use Rattle.ledger_tables.proofs.LookupStatement.{ordered_query, show}
use Rattle.ledger_tables.proofs.ReadTexts.{Selects}
use Rattle.office.specs.Office.{Office}
use Rattle.ledger.specs.Adopting.{IsUntouched}
use Rattle.office_tables.specs.Standing.{LeftAs, Rows, Stands, StandsIn, named}
use Rattle.ledger.proofs.BureauTransactions.{left_as}
use Rattle.job_checks.proofs.TableAnswers.{whole_in_order}
use Rattle.job_checks.proofs.WidthLemmas.{upto}
use Rattle.job_archives.specs.Names.{name_row}

abbrev pub select_names : List ℕ
select_names = codes "SELECT customer, number FROM jobs ORDER BY rowid"

pub select_names_is : Selects select_names (ordered_query 1 [] (columns (upto 0 2)) (col 1 0)) (codes "customer" ∷ codes "number" ∷ [])
unfolding understood everything
select_names_is = ((refl, (refl, refl)), refl)

-- the columns of a row with its rowid are those of the row without it
first_two : (row : Row) → (let r : Row = column row 1 ∷ column row 2 ∷ [] in r) ≡ column (drop 1 row) 0 ∷ column (drop 1 row) 1 ∷ []
first_two [] = refl
first_two (x ∷ row) = refl

shown_names : (rows : List Row) (office : Office) → cells rows ≡ map job_row (map named office) → map (show (columns (upto 0 2)) []) rows ≡ map name_row office
shown_names [] [] is = refl
shown_names [] (e ∷ office) is = absurd (let x = is in cc)
shown_names (r ∷ rows) [] is = absurd (let x = is in cc)
shown_names (r ∷ rows) (e ∷ office) is =
    let head : drop 1 r ≡ job_row (named e) = ap (λ (xs : List Row). get_or xs 0 []) is in
    let first : show (columns (upto 0 2)) [] r ≡ name_row e = first_two r ∙ ap (λ (row : Row). let two : Row = column row 0 ∷ column row 1 ∷ [] in two) head in
    ap (λ (x : Row). let xs : List Row = x ∷ map (show (columns (upto 0 2)) []) rows in xs) first ∙ ap (λ (xs : List Row). let ys : List Row = name_row e ∷ xs in ys) (shown_names rows office (ap (drop 1) is))

pub names_read : (old new : State) (rows : List Row) (office : Office) → Shown select_names [] old new rows → StandsIn old office → IsUnchanged old new × (rows ≡ map name_row office)
names_read old new rows office shown s =
    let did = looks select_names _ _ select_names_is old new [] rows s.tables.schema shown in
    (did.0, whole_in_order 1 (columns (upto 0 2)) old.now.trees rows refl s.tables.shared.jobs_rise did.1 ∙ shown_names (old.now.trees 1) office s.tables.shared.jobs)

pub still_stands : (old end : State) (office : Office) → IsUntouched old end → StandsIn old office → Stands old office → Stands end office
still_stands old end office all seen s = record {
  outside = all.mode ∙ s.outside;
  now = λ opened. subst (λ db. Rows db office) (sym (all.now opened)) seen;
  left = λ db may. s.left db (all.left db may);
}

-- ---- the connection that is asked

shown_by : (old new : State) (sql : List ℕ) (c : Compiled) (params : Row) (rows : List Row) (returning : Option Returning) → ShowsRows old new sql c params rows returning → IsTrue old.is_open
shown_by old new sql c params rows None it = it.3.0.was_open
shown_by old new sql c params rows (Some what) it = it.1.shown.was_open

-- rows are shown by an open connection alone
pub open_if_shown : (sql : List ℕ) (params : Row) (old new : State) (rows : List Row) → Shown sql params old new rows → IsTrue old.is_open
unfolding Shown
open_if_shown sql params old new rows it = shown_by old new sql it.0 _ rows it.0.returning it.2

-- outside a transaction, a crash leaves what the connection sees
pub stands_settled : (s : State) (office : Office) → s.in_transaction ≡ false → s.now ≡ s.committed → ((db : Trees) → s.may_leave db → db ≡ s.committed.trees) → StandsIn s office → Stands s office
stands_settled s office outside settled left seen = record {
  outside = outside;
  now = λ opened. seen;
  left = λ db may. subst (λ d. LeftAs d office) (sym (left db may ∙ sym (ap (λ (d : Database). d.trees) settled))) (left_as s.now office seen);
}

-- after two calls that commit nothing a crash leaves nothing new
pub left_before : (old mid new : State) → Survives old mid (λ _. ⊥) → Survives mid new (λ _. ⊥) → HasCleanDisk mid → HasCleanDisk new → (db : Trees) → new.may_leave db → old.may_leave db
left_before old mid new one two early late db may = elim (two.crash late db may) [
  | inr none ↦ absurd none
  | inl before ↦ elim (one.crash early db before) [ inl first ↦ first | inr none ↦ absurd none ]
]
