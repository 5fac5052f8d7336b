-- What an open of empty files finds.
use Rattle.std.proofs.Common.{◌≡◌, inl, inr, ap, ◌∙◌, arith}
use Rattle.sqlite.specs.Effect.{Database}
use Rattle.sqlite.specs.Files.{AreFoundIn}
use Rattle.sqlite.specs.Recovery.{Image}
use Rattle.sqlite.specs.State.{State, IsLive, Opens}
use Rattle.sqlite.specs.Tree.{Trees}
use Rattle.sqlite.proofs.ListingLemmas.{empty_is_sound}
use Rattle.sqlite_catalog.proofs.ReadLemmas.{lists_once}
use Rattle.ledger_tables.specs.Schema.{no_schema}
use Rattle.ledger_files.specs.Making.{AreEmpty, IsWithoutTables}

-- what is found in empty files is without tables
pub found_empty : (files : Image) (db : Trees) → AreEmpty files → AreFoundIn files db → IsWithoutTables db
found_empty files db empty (inr nothing) = nothing.1.1
found_empty files db empty (inl found) = absurd (let none = ap (λ (i : Image). i.db) empty in let some = found.3.found.present in let never = rw none at some in omega (arith, never))

-- a connection that was just opened to a database without tables has no schema
pub opened_empty : (s : State) → Opens s → IsLive s → IsWithoutTables s.committed.trees → s.now.schema ≡ no_schema
opened_empty s opens live none =
    let sound = (live opens.is_open).1 in
    ap (λ (d : Database). d.schema) opens.clean ∙ lists_once _ s.committed.schema no_schema sound.lists (empty_is_sound s.committed.trees none).lists
