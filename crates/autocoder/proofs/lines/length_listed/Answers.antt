use Rattle.std.proofs.Common.{◌≡◌, ◌+◌, ◌-◌, ◌∙◌, ◌++◌, ◌∷◌, [], take, sym, ap, arith}
use Rattle.cards.specs.Files.{line_feed}
use Rattle.autocoder.proofs.ListingLemmas.{listed_is}
use Rattle.autocoder.proofs.lines.length_listed.Goals as goal

pub returns-then-line-length-ne32-clause-text : goal.returns-then-line-length-ne32-clause-text
returns-then-line-length-ne32-clause-text c =
    let n = c.loop-length.length in
    let e : n - 1 + 1 ≡ n = omega (arith, c.loop-length-test.true) in
    listed_is c.args.line.now n c.loop-length.auto.length (λ k from below. c.loop-length.invariant k from below) (λ some. c.if-line-length-ne32.true)
    ∙ ap (λ k. take k c.args.line.now ++ line_feed ∷ []) (sym e)

pub returns-clause-text : goal.returns-clause-text
returns-clause-text c = listed_is c.args.line.now 0 (omega arith) (λ k from below. c.loop-length.invariant k (omega arith) below) (λ some. absurd (omega arith))
