-- the list of a bureau's jobs, as the operator is shown it
use Rattle.std.specs.Prelude.{◌≡◌, ℕ, Bool, true, List, [], ◌∷◌, ◌++◌, length, bytes_eq, codes, decimal, filter, flat_map, map, Option, Some, None, Result, IfOk, Vec}
use Rattle.std.specs.declared.alloc.Global.{Global}
use Rattle.sqlite.specs.Held.{Held, state}
use Rattle.sqlite.specs.State.{HasCleanDisk}
use Rattle.sqlite.specs.Tree.{Trees}
use Rattle.sqlite.specs.View.{IsClean}
use Rattle.sqlite_trees.specs.declared.store.Store.{Ghosts}
use Rattle.ledger_tables.specs.Tables.{AreDistinct}
use Rattle.ledger_tables.specs.declared.faults.Fault.{Fault}
use Rattle.ledger_tables.specs.declared.openings.OpenFault.{OpenFault}
use Rattle.ledger.specs.Listed.{IsIts}
use Rattle.office_tables.specs.Standing.{LeftAs, Stands, StandsIn, named}
use Rattle.job_checks.specs.Texts.{summary_words}
use Rattle.office.specs.Kept.{kept_of, summary_of}
use Rattle.office.specs.Office.{Entry, Office}
use Rattle.office.specs.declared.summaries.Summary.{Summary}

-- the line of a job with this name and this summary
unfoldable pub listed_line : List ℕ → ℕ → Summary → List ℕ
listed_line customer number summary =
    customer ++ codes " " ++ decimal number ++ codes " " ++ summary_words summary ++ codes "\n"

-- whether a customer is the one who is named, or nobody is named
abbrev pub is_of : Option (List ℕ) → List ℕ → Bool
is_of None customer = true
is_of (Some named) customer = bytes_eq customer named

-- the jobs that are asked for: those of the customer who is named, or all if nobody is named
abbrev pub asked_for : Option (List ℕ) → Office → Office
asked_for asked = filter (λ e. is_of asked e.customer)

-- the line of an entry's job
unfoldable pub entry_line : Entry → List ℕ
entry_line e = listed_line e.customer e.number (summary_of (kept_of e.job))

-- the last line of a list: how many jobs it has
unfoldable pub count_line : ℕ → List ℕ
count_line jobs = codes "jobs " ++ decimal jobs ++ codes "\n"

-- the list of the jobs that are asked for: a line for each, in the order in which the office took
-- them, and a line with their number
abbrev pub list_text : Option (List ℕ) → Office → List ℕ
list_text asked office =
    flat_map entry_line (asked_for asked office) ++ count_line (length (asked_for asked office))

-- the lines of those of these jobs that are asked for came behind a text, and this is their number
pub record AddsLines (asked : Option (List ℕ)) (jobs : Office) (old new : List ℕ) (added : ℕ)
    : Type 0 where
  pub text : new ≡ old ++ flat_map entry_line (asked_for asked jobs)
  pub count : added ≡ length (asked_for asked jobs)

module _ {S : Type 0} (g : Ghosts S) (old new : Held S) where
  -- on Ok, if the tables represented an office, they represent it still, and this holds of it and
  -- of what was found
  abbrev pub FindsStill : {X E : Type 0} → Result X E → (Office → X → Type 0) → Type 0
  FindsStill result Is = HasCleanDisk (state g new) → IfOk result (λ found. (office : Office)
      → AreDistinct (map named office) → Stands (state g old) office
      → Stands (state g new) office × Is office found)

  -- on Ok, if the tables represented an office, they represent it still, and the line of its job
  -- that is named so came behind a text, if the job is asked for
  abbrev pub AddsNamed : Result ℕ Fault → (Entry → Type 0) → Option (List ℕ) → List ℕ → List ℕ
      → Type 0
  AddsNamed result IsSo asked old_text new_text = FindsStill result (λ office added. (e : Entry)
      → IsSo e → IsIts office e → AddsLines asked (e ∷ []) old_text new_text added)

  -- whatever the answer, if the tables represented this office, so does all that a crash may leave
  abbrev pub Leaves : Office → Type 0
  Leaves office = HasCleanDisk (state g new) → Stands (state g old) office
      → (db : Trees) → (state g new).may_leave db → LeftAs db office

  -- on Ok, if the tables that the connection saw stand for an office, they stand for it still, and
  -- the text is the list of those of its jobs that are asked for
  abbrev pub Lists : Result (Vec ℕ Global) OpenFault → Option (List ℕ) → Type 0
  Lists result asked = HasCleanDisk (state g new) → IfOk result (λ text. (office : Office)
      → StandsIn (state g old) office
      → Stands (state g new) office × (text.items ≡ list_text asked office))

module _ {S : Type 0} (g : Ghosts S) where
  -- on Ok, if the tables that the connection saw stand for an office, the text is the list of those
  -- of its jobs that are asked for
  abbrev pub ListsAlone : Held S → S → Result (Vec ℕ Global) OpenFault → Option (List ℕ) → Type 0
  ListsAlone conn store result asked = IsClean (g.view store) → IfOk result (λ text.
      (office : Office) → StandsIn (state g conn) office → text.items ≡ list_text asked office)

  -- whatever the answer, if the tables stood for an office, so does all that a crash may leave of
  -- the store
  abbrev pub LeavesAlone : Held S → S → Type 0
  LeavesAlone conn store = IsClean (g.view store) → (office : Office) → Stands (state g conn) office
      → (db : Trees) → g.recovers store db → LeftAs db office
