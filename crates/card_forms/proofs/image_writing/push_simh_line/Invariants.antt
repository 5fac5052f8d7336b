use Rattle.std.proofs.Common.{◌≡◌, ◌++◌, map, take}
use Rattle.card_forms.specs.Images.{sign_shown}
use Rattle.card_forms.proofs.image_writing.push_simh_line.Given as goal

abbrev pub invariant-loop-pattern : goal.invariant-loop-pattern
invariant-loop-pattern l = l.text.items ≡ l.fn.text.items ++ map sign_shown (take l.pattern-index l.pattern-items)
