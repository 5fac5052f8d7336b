use Rattle.std.proofs.Common.{◌≡◌, ◌++◌, map, replicate, take}
use Rattle.card_forms.specs.Signs.{simh_glyph}
use Rattle.card_forms.proofs.simh_texts.push_deck_line.Given as goal

abbrev pub invariant-loop-sign : goal.invariant-loop-sign
invariant-loop-sign l = l.text.items ≡ l.fn.text.items ++ map simh_glyph (take l.sign-index l.line)

abbrev pub invariant-loop-blank : goal.invariant-loop-blank
invariant-loop-blank l = l.text.items ≡ l.initial.text.items ++ replicate l._blank 32
