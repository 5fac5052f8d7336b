use Rattle.loader.proofs.ColumnGlyphs.{glyph_at}
use Rattle.loader.proofs.columns.Columns.punch_text.Goals as goal

pub code_of-requires : goal.code_of-requires
code_of-requires c = glyph_at c.args.glyphs.now c.loop-glyph.glyph-index c.loop-glyph-test.true c.requires.glyphs
