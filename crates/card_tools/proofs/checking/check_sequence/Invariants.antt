use Rattle.std.proofs.Common.{◌≡◌, ◌≤◌, ◌+◌, ◌++◌, drop, length}
use Rattle.card_tools.specs.Checking.{told, told_from}
use Rattle.card_tools.proofs.checking.check_sequence.Given as goal

abbrev pub invariant-loop-index : goal.invariant-loop-index
invariant-loop-index l = record {
  told : l.text.items ++ told_from l.before (l.index + 1) (drop l.index l.cards) ≡ told l.cards;
  short : length l.before ≤ 8;
}
