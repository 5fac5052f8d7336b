use Rattle.std.proofs.Common.{◌∙◌, ◌++◌, ◌||◌, ◌≤◌, length, drop, sym, ap, arith, length-set}
use Rattle.std.proofs.lemmas.List.{append-nil, take_all}
use Rattle.autocoder_layout.specs.Source.{lines_of}
use Rattle.autocoder_layout.proofs.SourceLemmas.{line_step, range_step, lines_past}
use Rattle.autocoder_layout.proofs.source.read_lines.Goals as goal

pub loop-index-preserved : goal.loop-index-preserved
loop-index-preserved c = record {
  lines =
      line_step c.loop-index.has_size c.either-has_size.result c.args.cards.now c.loop-index.index c.index-cards-index.result _ c.line_on.result c.loop-index.lines c.loop-index-test.true c.loop-index.invariant.size
      c.index-cards-index.is c.line_on.ensures.line (c.either-has_size.ensures ∙ ap (λ b. c.loop-index.has_size || b) c.is_control.ensures)
      ∙ c.loop-index.invariant.lines;
  range = range_step c.loop-index.lines c.loop-index.index c.line_on.result (omega (arith, c.loop-index-test.true, c.loop-index.invariant.size)) c.line_on.ensures.range c.loop-index.invariant.range;
  size = length-set c.loop-index.lines c.loop-index.index c.line_on.result ∙ c.loop-index.invariant.size;
}

pub returns-clause-lines : goal.returns-clause-lines
returns-clause-lines c =
    let past : length c.loop-index.lines ≤ c.loop-index.index = omega (arith, c.loop-index-test.false, c.loop-index.invariant.size) in
    sym (ap (λ t. t ++ lines_of c.loop-index.has_size (drop c.loop-index.index c.args.cards.now)) (take_all c.loop-index.index c.loop-index.lines past) ∙ ap (λ t. c.loop-index.lines ++ t) (lines_past c.loop-index.has_size c.args.cards.now c.loop-index.index c.loop-index-test.false) ∙ append-nil c.loop-index.lines)
    ∙ c.loop-index.invariant.lines

pub returns-clause-range : goal.returns-clause-range
returns-clause-range c = λ k below. c.loop-index.invariant.range k (omega (arith, c.loop-index-test.false, c.loop-index.invariant.size))
