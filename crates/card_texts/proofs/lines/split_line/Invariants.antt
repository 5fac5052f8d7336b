use Rattle.std.proofs.Common.{take}
use Rattle.card_texts.proofs.LineLemmas.{IsWithin}
use Rattle.card_texts.proofs.lines.split_line.Given as goal

abbrev pub invariant-loop-place : goal.invariant-loop-place
invariant-loop-place l = IsWithin (take l.place l.text)
