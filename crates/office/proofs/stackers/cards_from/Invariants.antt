use Rattle.std.proofs.Common.{◌≡◌, take}
use Rattle.office.specs.Stackers.{cards_from}
use Rattle.office.proofs.stackers.cards_from.Given as goal

abbrev pub invariant-loop-one : goal.invariant-loop-one
invariant-loop-one l = l.cards.items ≡ cards_from l.from (take l.one-index l.punched)
