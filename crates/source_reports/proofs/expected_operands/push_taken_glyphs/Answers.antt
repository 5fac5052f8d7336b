use Rattle.std.proofs.Common.{◌≡◌, ◌∙◌, ap, sym, ◌++◌, append_assoc, arith}
use Rattle.std.specs.List.{flat_map, range_with_len}
use Rattle.source_reports.specs.ExpectedOperands.{glyph_if_taken, taken_glyphs}
use Rattle.source_reports.proofs.GlyphLemmas.{one_more}
use Rattle.source_reports.proofs.expected_operands.push_taken_glyphs.Goals as goal

pub loop-number-preserved : goal.loop-number-preserved
loop-number-preserved c =
    let glyph = glyph_if_taken c.args.modifiers in
    let number = c.loop-number.number in
    c.in_ok-push_if_taken.ensures
    ∙ ap (λ before. before ++ glyph number) c.loop-number.invariant
    ∙ append_assoc c.args.text.now.items (flat_map glyph (range_with_len 0 number)) (glyph number)
    ∙ ap (λ more. c.args.text.now.items ++ more) (sym (one_more glyph number))

pub returns : goal.returns
unfolding taken_glyphs
returns c =
    let all : c.loop-number.number ≡ 64 = omega (arith, c.loop-number-test.false, c.loop-number.auto.number-end) in
    c.loop-number.invariant
    ∙ ap (λ count. c.args.text.now.items ++ flat_map (glyph_if_taken c.args.modifiers) (range_with_len 0 count)) all
