-- What each CREATE TABLE makes of the database, and the noting of the version.
use Rattle.std.proofs.Common.{◌≡◌, ℕ, pos, List, [], ◌∷◌, false, Ok, refl, ◌∙◌}
use Rattle.std.specs.List.{AllByRecursion}
use Rattle.sqlite.specs.declared.types.Value.TheVariants.{Null, Int}
use Rattle.sqlite.specs.Order.{Row}
use Rattle.sqlite.specs.Term.{lit, col}
use Rattle.sqlite.specs.Tree.{Trees}
use Rattle.sqlite.specs.Table.{Table}
use Rattle.sqlite.specs.Schema.{Schema}
use Rattle.sqlite.specs.Change.{created, KeepsRows}
use Rattle.sqlite.specs.Does.{lacks_sequence}
use Rattle.sqlite.specs.State.{State, ExecutesInside}
use Rattle.ledger_tables.specs.Schema.{bureau, bureau_schema, own_version}
use Rattle.ledger_tables.specs.Making.{AreMade}
use Rattle.ledger_tables.specs.Tables.{Holds, no_rows}
use Rattle.ledger_tables.proofs.Texts.{insert_bureau, insert_bureau_is}
use Rattle.ledger_tables.proofs.CreateStatement.{Creates, creates}
use Rattle.ledger_tables.proofs.InsertStatement.{adds, apart, cast_int, cast_null}
use Rattle.ledger_tables.proofs.InsertLast.{all_push}

still_empty : (tables : List Table) (old new : Trees) → AllByRecursion (λ t. old t.tree ≡ []) tables → KeepsRows tables old new → AllByRecursion (λ t. new t.tree ≡ []) tables
still_empty [] old new empty kept = tt
still_empty (table ∷ tables) old new empty kept = (kept.0 ∙ empty.0, still_empty tables old new empty.1 kept.1)

-- one more table, as empty as the others
pub table_made : (schema : Schema) (sql : List ℕ) (table : Table) (is : Creates schema sql table) (uncounted : lacks_sequence (created schema table) ≡ false)
    → (old new : State) (count : ℕ) → ExecutesInside 0 sql [] old new (Ok count) → AreMade old.now schema → AreMade new.now (created schema table)
table_made schema sql table is uncounted old new count h made =
    let did = creates schema sql table is uncounted old new count made.is h.0 in
    record { is = did.0; empty = all_push (λ t. new.now.trees t.tree ≡ []) schema.tables _ (still_empty schema.tables old.now.trees new.now.trees made.empty did.2) did.1 }

abbrev pub version_params : Row
version_params = Int (pos 1) ∷ Int (pos own_version) ∷ []

pub version_made : (old new : State) (count : ℕ) → ExecutesInside 0 insert_bureau version_params old new (Ok count) → AreMade old.now bureau_schema → Holds new.now no_rows
version_made old new count h made =
    let did = adds bureau_schema insert_bureau 0 (record bureau { tree = 0 }) (col 0 0 ∷ lit Null ∷ col 0 1 ∷ []) 3 insert_bureau_is refl old new version_params count made.is h.0 in
    let jobs_none : new.now.trees 1 ≡ [] = did.2.1.0 (apart refl) ∙ made.empty.1.0 in
    let stretches_none : new.now.trees 3 ≡ [] = did.2.1.1.0 (apart refl) ∙ made.empty.1.1.0 in
    let cards_none : new.now.trees 7 ≡ [] = did.2.1.1.1.0 (apart refl) ∙ made.empty.1.1.1.0 in
    let lines_none : new.now.trees 9 ≡ [] = did.2.1.1.1.1.0 (apart refl) ∙ made.empty.1.1.1.1.0 in
    let states_none : new.now.trees 11 ≡ [] = did.2.1.1.1.1.1.0 (apart refl) ∙ made.empty.1.1.1.1.1.0 in
    let pages_none : new.now.trees 13 ≡ [] = did.2.1.1.1.1.1.1.0 (apart refl) ∙ made.empty.1.1.1.1.1.1.0 in
    let profiles_none : new.now.trees 15 ≡ [] = did.2.1.1.1.1.1.1.1.0 (apart refl) ∙ made.empty.1.1.1.1.1.1.1.0 in
    let pockets_none : new.now.trees 17 ≡ [] = did.2.1.1.1.1.1.1.1.1.0 (apart refl) ∙ made.empty.1.1.1.1.1.1.1.1.0 in
    record {
      schema = did.0;
      sound = did.3;
      version = did.1 ∙ rw (made.empty.0, cast_null, cast_int (pos 1), cast_int (pos own_version));
      shared = record {
        jobs = rw jobs_none;
        jobs_rise = rw jobs_none (tt, tt);
        distinct = tt;
        stretches = rw stretches_none (record { each = λ c n. refl; named = tt; rise = (tt, tt) });
        cards = rw cards_none (record { each = λ c n. refl; named = tt; rise = (tt, tt) });
        lines = rw lines_none (record { each = λ c n. refl; named = tt; rise = (tt, tt) });
      };
      states = rw states_none (record { each = λ c n. refl; named = tt; rise = (tt, tt) });
      pages = rw pages_none (record { each = λ c n k. refl; named = tt; rise = (tt, tt) });
      beside = record {
        profiles_are = rw profiles_none (record { each = λ c n. refl; named = tt; rise = (tt, tt) });
        pockets_are = rw pockets_none (record { each = λ c n k. refl; named = tt; rise = (tt, tt) });
      };
    }
