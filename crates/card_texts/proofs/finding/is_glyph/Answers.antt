use Rattle.std.proofs.Common.{sym, refl}
use Rattle.card_texts.proofs.SignLemmas.{glyph_found, glyph_missing}
use Rattle.card_texts.proofs.finding.is_glyph.Goals as goal

pub returns-in-Some : goal.returns-in-Some
returns-in-Some c =
    sym (glyph_found c.in-Some.field-0 c.args.byte c.in-Some.ensures.below c.in-Some.ensures.found)

pub returns-in-None : goal.returns-in-None
returns-in-None c = sym (glyph_missing c.args.byte (c.in-None.ensures.missing refl))
