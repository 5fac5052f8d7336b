use Rattle.std.proofs.Common.{◌≡◌, ◌++◌, replicate}
use Rattle.pictures.proofs.stocks.push_repeated.Given as goal

abbrev pub invariant-loop-column : goal.invariant-loop-column
invariant-loop-column l = l.out.items ≡ l.fn.out.items ++ replicate l._column l.byte
