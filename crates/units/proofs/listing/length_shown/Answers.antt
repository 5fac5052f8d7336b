use Rattle.std.proofs.Common.{◌-◌, arith}
use Rattle.units.proofs.ListingBlanks.{blanks_more}
use Rattle.units.proofs.ListingLines.{text_is}
use Rattle.units.proofs.listing.length_shown.Goals as goal

pub loop-end-preserved : goal.loop-end-preserved
loop-end-preserved c = record {
  within = omega (arith, c.loop-end.invariant.within);
  blank = blanks_more c.args.codes.now c.loop-end.end (c.loop-end.end - 16) (omega arith) (c.is_blank.ensures.0 c.if-is_blank.true) c.loop-end.invariant.blank;
}

pub returns-clause-text : goal.returns-clause-text
returns-clause-text c =
    text_is c.args.codes.now 0 (omega arith) (λ k from below. c.loop-length.invariant k (omega arith) below) (λ some. absurd (omega arith))
