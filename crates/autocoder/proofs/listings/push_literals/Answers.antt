use Rattle.std.proofs.Common.{◌∙◌, ◌++◌, ap, arith}
use Rattle.autocoder.specs.Listing.{line_text}
use Rattle.autocoder.proofs.ListingLemmas.{literal_lines_step, literal_lines_past}
use Rattle.autocoder.proofs.listings.push_literals.Goals as goal

pub loop-literal-preserved : goal.loop-literal-preserved
loop-literal-preserved c = record {
  text =
      literal_lines_step c.loop-literal.text.items c.push_line.new.text.items c.loop-literal.here c.args.literals.now c.loop-literal.literal-index c.literal-item.result _ c.characters-codes.result.now c.in_ok-line.line.items
      c.loop-literal-test.true c.literal-item.is c.characters-codes.ensures.characters c.in_ok-line.ensures (c.in_ok-push_line.ensures ∙ ap (λ l. c.loop-literal.text.items ++ line_text l) c.deref.ensures.value)
      ∙ c.loop-literal.invariant.text;
  limit = omega (arith, c.loop-literal.invariant.limit, c.characters-codes.ensures.limit);
}

pub returns : goal.returns
returns c = literal_lines_past c.loop-literal.text.items c.loop-literal.here c.args.literals.now c.loop-literal.literal-index c.loop-literal-test.false ∙ c.loop-literal.invariant.text
