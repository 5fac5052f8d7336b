use Rattle.std.proofs.Common.{All, List, ◌++◌, take}
use Rattle.units.specs.declared.punch.Punched.{Punched}
use Rattle.ledger_rows.specs.Pockets.{IsPunched}
use Rattle.ledger_tables.specs.Steps.{Inside}
use Rattle.ledger_tables.specs.Tables.{Tables, Holds}
use Rattle.ledger_tables.proofs.Stepping.{HasStepped}
use Rattle.ledger.specs.Saving.{with_all_cards, HasCardRows}
use Rattle.ledger.proofs.saving.insert_cards.Given as goal

abbrev pub invariant-loop-place : goal.invariant-loop-place
invariant-loop-place g l = record {
  step : HasStepped g.S.Store l.fn.tables l.tables;
  characters : All IsPunched (take l.place l.cards);
  added : (earlier : List Punched) → Inside g.S.Store l.fn.tables l.tables (λ old new. (t : Tables) → Holds old.now t
      → HasCardRows l.name l.before earlier t → Holds new.now (with_all_cards l.name (earlier ++ take l.place l.cards) t));
}
