use Rattle.std.proofs.Common.{◌≡◌, ◌++◌, length, drop}
use Rattle.card_texts.specs.Columns.{columns_from}
use Rattle.card_texts.proofs.columns.spread.Given as goal

abbrev pub invariant-loop-byte : goal.invariant-loop-byte
invariant-loop-byte l = columns_from l.rules 0 l.line
    ≡ l.columns.items ++ columns_from l.rules (length l.columns.items) (drop l.byte-index l.line)
