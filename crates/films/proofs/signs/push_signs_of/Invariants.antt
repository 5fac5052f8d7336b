use Rattle.std.proofs.Common.{◌≡◌, ◌++◌, take}
use Rattle.films.specs.Signs.{signs_of}
use Rattle.films.proofs.signs.push_signs_of.Given as goal

abbrev pub invariant-loop-glyph : goal.invariant-loop-glyph
invariant-loop-glyph l =
    l.out.items ≡ l.fn.out.items ++ signs_of (take l.glyph-index l.glyphs)
