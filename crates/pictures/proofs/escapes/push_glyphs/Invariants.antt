use Rattle.std.proofs.Common.{◌≡◌, ◌++◌, take}
use Rattle.pictures.specs.Escapes.{glyphs_shown}
use Rattle.pictures.proofs.escapes.push_glyphs.Given as goal

abbrev pub invariant-loop-pattern : goal.invariant-loop-pattern
invariant-loop-pattern l = l.out.items ≡ l.fn.out.items ++ glyphs_shown (take l.pattern-index l.patterns)
