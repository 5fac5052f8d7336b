use Rattle.std.proofs.Common.{◌≡◌, ◌++◌, take}
use Rattle.card_tools.specs.Lines.{columns_shown}
use Rattle.card_tools.proofs.lines.push_shown.Given as goal

abbrev pub invariant-loop-pattern : goal.invariant-loop-pattern
invariant-loop-pattern l = l.out.items ≡ l.fn.out.items ++ columns_shown (take l.pattern-index l.columns)
