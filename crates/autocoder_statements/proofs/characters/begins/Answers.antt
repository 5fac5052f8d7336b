use Rattle.std.proofs.Common.{◌≡◌, ◌∙◌, sym, length, drop, arith}
use Rattle.autocoder_statements.proofs.CharacterLemmas.{begins_short, begins_differs, begins_goes, begins_ends}
use Rattle.autocoder_statements.proofs.characters.begins.Goals as goal

pub returns-then-index-text-clause-begins : goal.returns-then-index-text-clause-begins
returns-then-index-text-clause-begins c =
    sym (begins_short c.args.glyphs.now c.args.text.now c.loop-index.index c.loop-index-test.true c.if-index-text.true) ∙ c.loop-index.invariant.left

pub returns-then-glyph-glyphs-clause-begins : goal.returns-then-glyph-glyphs-clause-begins
returns-then-glyph-glyphs-clause-begins c =
    sym (begins_differs c.args.glyphs.now c.args.text.now c.loop-index.index c.index-text-index.result c.loop-index-test.true c.if-index-text.false c.index-text-index.is
    (rw c.glyph.ensures at c.if-glyph-glyphs.true))
    ∙ c.loop-index.invariant.left

pub loop-index-preserved : goal.loop-index-preserved
loop-index-preserved c = record {
  left = sym (begins_goes c.args.glyphs.now c.args.text.now c.loop-index.index c.index-text-index.result c.loop-index-test.true c.if-index-text.false c.index-text-index.is
      (sym c.glyph.ensures ∙ c.if-glyph-glyphs.false)) ∙ c.loop-index.invariant.left;
  within = omega arith;
}

pub returns-clause-begins : goal.returns-clause-begins
returns-clause-begins c =
    let e : c.loop-index.index ≡ length c.args.glyphs.now = omega arith in
    sym (begins_ends c.args.glyphs.now (drop (length c.args.glyphs.now) c.args.text.now)) ∙ (rw e at c.loop-index.invariant.left)
