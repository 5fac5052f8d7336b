use Rattle.std.proofs.Common.{inr, refl}
use Rattle.card_tools.proofs.CardNumbers.{no_spelling}
use Rattle.card_tools.proofs.numbering.ident_of.Goals as goal

pub returns-in_default-clause-none : goal.returns-in_default-clause-none
returns-in_default-clause-none c =
    inr (refl, no_spelling c.args.word.now c.loop-glyph.glyph-index _ c.loop-glyph-test.true (c.in_default.ensures.missing refl))
