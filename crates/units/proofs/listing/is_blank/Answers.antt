use Rattle.std.proofs.Common.{◌∙◌, ◌<◌, length, arith}
use Rattle.std.proofs.lemmas.List.{get_or_read}
use Rattle.units.proofs.ListingBlanks.{block_more}
use Rattle.units.proofs.listing.is_blank.Goals as goal

pub loop-place-preserved : goal.loop-place-preserved
loop-place-preserved c =
    let within : c.loop-place.place < length c.args.codes.now = omega arith in
    let at = c.number-numbers.ensures.same ∙ get_or_read c.args.codes.now c.loop-place.place c.index-codes-place.result within c.index-codes-place.is 0 in
    block_more c.args.codes.now c.args.first c.loop-place.place c.loop-place.numbers c.number-numbers.result (omega arith) at c.loop-place.invariant
