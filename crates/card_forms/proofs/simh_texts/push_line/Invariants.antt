use Rattle.std.proofs.Common.{◌≡◌, ◌++◌, map, take}
use Rattle.card_forms.specs.Signs.{simh_sign}
use Rattle.card_forms.proofs.simh_texts.push_line.Given as goal

abbrev pub invariant-loop-code : goal.invariant-loop-code
invariant-loop-code l = l.text.items ≡ l.fn.text.items ++ map simh_sign (take l.code-index l.code-items)
