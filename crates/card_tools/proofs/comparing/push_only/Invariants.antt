use Rattle.std.proofs.Common.{◌≡◌, ◌+◌, ◌++◌, drop}
use Rattle.card_tools.specs.Comparing.{only_from}
use Rattle.card_tools.proofs.comparing.push_only.Given as goal

abbrev pub invariant-loop-index : goal.invariant-loop-index
invariant-loop-index l = l.text.items ++ only_from l.words (l.index + 1) (drop l.index l.cards)
    ≡ l.fn.text.items ++ only_from l.words (l.other + 1) (drop l.other l.cards)
