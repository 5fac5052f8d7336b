use Rattle.loader.proofs.ColumnGlyphs.{code_found, glyph_found}
use Rattle.loader.proofs.columns.code_of.Goals as goal

pub unwrap-requires : goal.unwrap-requires
unwrap-requires c = glyph_found c.args.glyph c.requires c.from_glyph.result c.from_glyph.ensures.missing

pub returns : goal.returns
returns c = code_found c.args.glyph c.unwrap.result (rw c.unwrap.ensures at c.from_glyph.ensures.below) (rw c.unwrap.ensures at c.from_glyph.ensures.found)
