-- What an open finds.
use Rattle.std.proofs.Common.{◌≡◌, inl, inr, ℕ, IsTrue, refl, sym, ap, ap₂, subst, ◌∙◌}
use Rattle.sqlite.specs.Tree.{Trees}
use Rattle.sqlite.specs.Effect.{Database, IsDatabase}
use Rattle.sqlite.specs.State.{State, Opens, IsLive}
use Rattle.sqlite_catalog.specs.Listing.{Lists}
use Rattle.sqlite_catalog.proofs.ReadLemmas.{lists_once}
use Rattle.sqlite_trees.specs.Objects.{catalog_tree}
use Rattle.ledger_tables.specs.Schema.{bureau_schema}
use Rattle.office.specs.Office.{Office}
use Rattle.ledger.specs.Adopting.{IsUntouched}
use Rattle.ledger.specs.Older.{LeftOf, RowsOf, StandsOf, schema_of}
use Rattle.office_tables.specs.Standing.{Rows, LeftAs, Stands}
use Rattle.ledger_files.specs.Opening.{HoldsOnly}

-- while the store is open, a crash leaves the last commit alone
abbrev pub Settles : State → Type 0
Settles s = (db : Trees) → IsTrue s.is_open → s.may_leave db → db ≡ s.committed.trees

pub found_stands : (s : State) (office : Office) → Settles s → Opens s → IsLive s → LeftAs s.committed.trees office → Stands s office
found_stands s office settles opens live here =
    let sound = (live opens.is_open).1 in
    let schema : s.committed.schema ≡ bureau_schema = lists_once _ s.committed.schema bureau_schema sound.lists here.tables.sound.lists in
    let same : (let d : Database = record { schema = bureau_schema; trees = s.committed.trees } in d) ≡ s.committed = ap (λ k. let d : Database = record { schema = k; trees = s.committed.trees } in d) (sym schema) in
    record {
      outside = opens.autocommit;
      now = λ _. subst (λ d. Rows d office) (same ∙ sym opens.clean) here;
      left = λ d may. subst (λ t. LeftAs t office) (sym (settles d opens.is_open may)) here;
    }

-- a connection that was just opened holds its last commit alone
pub found_holds : (s : State) → Settles s → Opens s → HoldsOnly s s.committed.trees
found_holds s settles opens = record { now = λ _. ap (λ (d : Database). d.trees) opens.clean; left = λ db may. settles db opens.is_open may }

-- what is left untouched holds what it held
pub still_holds : (old new : State) (db : Trees) → IsUntouched old new → IsTrue old.is_open → HoldsOnly old db → HoldsOnly new db
still_holds old new db same opened held = record { now = λ is_open. ap (λ (d : Database). d.trees) (same.now is_open) ∙ held.now opened; left = λ after may. held.left after (same.left after may) }

-- the database that was found is the one with the same trees
pub found_is : (s : State) (db : Database) → Opens s → IsLive s → IsDatabase db → s.committed.trees ≡ db.trees → s.now ≡ db
found_is s db opens live sound same =
    let here = (live opens.is_open).1 in
    let schema : s.committed.schema ≡ db.schema = lists_once _ s.committed.schema db.schema here.lists (subst (λ t. Lists (t catalog_tree) db.schema) (sym same) sound.lists) in
    opens.clean ∙ ap₂ (λ k t. let d : Database = record { schema = k; trees = t } in d) schema same

-- rows of any version are in a database
rows_sound : (version : ℕ) (db : Database) (office : Office) → RowsOf version db office → IsDatabase db
rows_sound version db office (inl (is, rows)) = rows.tables.sound
rows_sound version db office (inr (inl (is, rows))) = rows.tables.sound
rows_sound version db office (inr (inr (inl (is, rows)))) = rows.tables.sound
rows_sound version db office (inr (inr (inr (is, rows)))) = rows.tables.sound

-- a connection that was just opened represents the office of its trees, in their version
pub found_stands_of : (s : State) (version : ℕ) (office : Office) → Settles s → Opens s → IsLive s → LeftOf version s.committed.trees office → StandsOf version s office
found_stands_of s version office settles opens live here =
    let db : Database = record { schema = schema_of version; trees = s.committed.trees } in
    record {
      outside = opens.autocommit;
      now = λ _. subst (λ d. RowsOf version d office) (sym (found_is s db opens live (rows_sound version db office here) refl)) here;
      left = λ d may. subst (λ t. LeftOf version t office) (sym (settles d opens.is_open may)) here;
    }
