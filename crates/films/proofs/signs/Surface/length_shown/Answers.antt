use Rattle.std.proofs.Common.{arith}
use Rattle.films.specs.Signs.{glyph_on}
use Rattle.films.proofs.SignLemmas.{blank_more, cut_here, cut_is}
use Rattle.films.proofs.signs.Surface.length_shown.Goals as goal

pub loop-length-preserved : goal.loop-length-preserved
loop-length-preserved c =
    blank_more c.args.self c.args.codes.now c.loop-length.length c.index-codes-length.result c.sign.result c.loop-length-test.true c.loop-length.auto.length c.index-codes-length.is c.sign.ensures c.if-sign-ne-BLANK.false c.loop-length.invariant

pub returns-clause-text : goal.returns-clause-text
returns-clause-text c =
    cut_is (glyph_on c.args.self) c.args.codes.now 0 (omega arith) (λ k from below. c.loop-length.invariant k (omega arith) below) (λ some. absurd (omega arith))

pub returns-then-sign-ne-BLANK-clause-text : goal.returns-then-sign-ne-BLANK-clause-text
returns-then-sign-ne-BLANK-clause-text c =
    cut_here c.args.self c.args.codes.now c.loop-length.length c.index-codes-length.result c.sign.result c.loop-length-test.true c.loop-length.auto.length c.index-codes-length.is c.sign.ensures c.if-sign-ne-BLANK.true c.loop-length.invariant
