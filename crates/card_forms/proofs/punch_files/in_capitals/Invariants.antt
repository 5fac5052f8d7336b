use Rattle.std.proofs.Common.{◌≡◌, map, take}
use Rattle.card_forms.specs.PunchFiles.{capital_digit}
use Rattle.card_forms.proofs.punch_files.in_capitals.Given as goal

abbrev pub invariant-loop-byte : goal.invariant-loop-byte
invariant-loop-byte l = l.capitals.items ≡ map capital_digit (take l.byte-index l.file)
