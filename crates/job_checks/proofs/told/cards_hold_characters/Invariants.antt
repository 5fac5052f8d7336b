use Rattle.std.proofs.Common.{All, take}
use Rattle.ledger_rows.specs.Pockets.{IsPunched}
use Rattle.job_checks.proofs.told.cards_hold_characters.Given as goal

abbrev pub invariant-loop-at : goal.invariant-loop-at
invariant-loop-at l = All IsPunched (take l.at l.cards)
