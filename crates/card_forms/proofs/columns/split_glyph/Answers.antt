use Rattle.std.proofs.Common.{refl}
use Rattle.card_forms.proofs.ImageColumns.{glyph_begins, no_glyph, nothing_begins}
use Rattle.card_forms.specs.declared.columns.ColumnForm.TheVariants.{Glyph}
use Rattle.card_forms.proofs.columns.split_glyph.Goals as goal

pub returns-in_default-clause-none : goal.returns-in_default-clause-none
returns-in_default-clause-none c = rw (c.in_default.ensures.none refl) (nothing_begins Glyph)

pub returns-in-Some-from_glyph-clause-column : goal.returns-in-Some-from_glyph-clause-column
returns-in-Some-from_glyph-clause-column c =
    rw c.punches.ensures (glyph_begins c.args.bytes.now c.in-Some.rest.now c.in-Some.glyph c.in-Some-from_glyph.code c.in-Some.ensures.found c.in-Some-from_glyph.ensures.below c.in-Some-from_glyph.ensures.found)

pub returns-in-None-clause-none : goal.returns-in-None-clause-none
returns-in-None-clause-none c =
    no_glyph c.args.bytes.now c.in-Some.rest.now c.in-Some.glyph c.in-Some.ensures.found (c.in-None.ensures.missing refl)
