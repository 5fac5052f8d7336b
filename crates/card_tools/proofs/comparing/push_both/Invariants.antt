use Rattle.std.proofs.Common.{◌≡◌, ◌≤◌, ◌+◌, ◌++◌, drop}
use Rattle.card_tools.specs.Comparing.{differing_among, shown_from}
use Rattle.card_tools.proofs.comparing.push_both.Given as goal

abbrev pub invariant-loop-index : goal.invariant-loop-index
invariant-loop-index l = record {
  shown : l.text.items ++ shown_from (l.index + 1) (drop l.index l.first) (drop l.index l.second)
      ≡ l.fn.text.items ++ shown_from 1 l.first l.second;
  differing : l.differing + differing_among (drop l.index l.first) (drop l.index l.second)
      ≡ differing_among l.first l.second;
  few : l.differing ≤ l.index;
}
