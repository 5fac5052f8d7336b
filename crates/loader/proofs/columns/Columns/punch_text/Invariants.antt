use Rattle.std.proofs.Common.{◌≡◌, ◌+◌, ◌++◌, length, take}
use Rattle.loader.specs.Cards.{text}
use Rattle.loader.proofs.columns.Columns.punch_text.Given as goal

abbrev pub invariant-loop-glyph : goal.invariant-loop-glyph
invariant-loop-glyph l = record {
  punched : l.self ≡ l.fn.self ++ text (take l.glyph-index l.glyphs);
  length : length l.self ≡ length l.fn.self + l.glyph-index;
}
