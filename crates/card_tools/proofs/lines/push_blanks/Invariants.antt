use Rattle.std.proofs.Common.{◌≡◌, ◌++◌, replicate}
use Rattle.card_tools.proofs.lines.push_blanks.Given as goal

abbrev pub invariant-loop-blank : goal.invariant-loop-blank
invariant-loop-blank l = l.out.items ≡ l.fn.out.items ++ replicate l._blank 32
