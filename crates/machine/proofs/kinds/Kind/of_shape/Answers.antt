use Rattle.std.proofs.Common.{◌∙◌, sym, ap}
use Rattle.std.specs.Prelude.{codes}
use Rattle.bcd.specs.Table.{glyph_of}
use Rattle.machine.specs.Glyphs.{is_glyph}
use Rattle.machine.proofs.kinds.Kind.of_shape.Goals as goal

pub branch_of-requires : goal.branch_of-requires
unfolding glyph_of
branch_of-requires c = ap (λ n. is_glyph n (codes "B")) (sym c.number.ensures.same ∙ c.in-50.is)

pub returns-in-49 : goal.returns-in-49
unfolding glyph_of
returns-in-49 c = ap (λ n. is_glyph n (codes "A")) (sym c.number.ensures.same ∙ c.in-49.is)

pub returns-in-18 : goal.returns-in-18
unfolding glyph_of
returns-in-18 c = ap (λ n. is_glyph n (codes "S")) (sym c.number.ensures.same ∙ c.in-18.is)

pub returns-in-51 : goal.returns-in-51
unfolding glyph_of
returns-in-51 c = ap (λ n. is_glyph n (codes "C")) (sym c.number.ensures.same ∙ c.in-51.is)

pub returns-in-36 : goal.returns-in-36
unfolding glyph_of
returns-in-36 c = ap (λ n. is_glyph n (codes "M")) (sym c.number.ensures.same ∙ c.in-36.is)

pub returns-in-35 : goal.returns-in-35
unfolding glyph_of
returns-in-35 c = ap (λ n. is_glyph n (codes "L")) (sym c.number.ensures.same ∙ c.in-35.is)

pub returns-in-58 : goal.returns-in-58
unfolding glyph_of
returns-in-58 c = ap (λ n. is_glyph n (codes "?")) (sym c.number.ensures.same ∙ c.in-58.is)

pub returns-in-42 : goal.returns-in-42
unfolding glyph_of
returns-in-42 c = ap (λ n. is_glyph n (codes "!")) (sym c.number.ensures.same ∙ c.in-42.is)

pub returns-in-11 : goal.returns-in-11
unfolding glyph_of
returns-in-11 c = ap (λ n. is_glyph n (codes "#")) (sym c.number.ensures.same ∙ c.in-11.is)

pub returns-in-25 : goal.returns-in-25
unfolding glyph_of
returns-in-25 c = ap (λ n. is_glyph n (codes "Z")) (sym c.number.ensures.same ∙ c.in-25.is)

pub returns-in-53 : goal.returns-in-53
unfolding glyph_of
returns-in-53 c = ap (λ n. is_glyph n (codes "E")) (sym c.number.ensures.same ∙ c.in-53.is)

pub returns-in-21 : goal.returns-in-21
unfolding glyph_of
returns-in-21 c = ap (λ n. is_glyph n (codes "V")) (sym c.number.ensures.same ∙ c.in-21.is)
