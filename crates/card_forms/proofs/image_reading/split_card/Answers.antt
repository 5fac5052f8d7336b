use Rattle.std.proofs.Common.{◌<◌, ◌∙◌, length, length-set, arith, refl}
use Rattle.card_forms.proofs.ImageColumns.{columns_more, each_more, no_end, whole_card, wrong_column}
use Rattle.card_forms.proofs.image_reading.split_card.Goals as goal

pub returns-in-Err-clause-fault : goal.returns-in-Err-clause-fault
returns-in-Err-clause-fault c =
    let loop = c.loop-index.invariant in
    rw c.behind.ensures (wrong_column _ _ _ _ _ _ loop.width c.loop-index-test.true loop.each loop.before c.in-Err.ensures.none c.in-Err.ensures.error)

pub loop-index-preserved : goal.loop-index-preserved
loop-index-preserved c =
    let loop = c.loop-index.invariant in
    let within : c.loop-index.index < length c.loop-index.columns = omega arith in
    record {
      width = length-set _ _ _ ∙ loop.width;
      each = each_more _ _ _ _ within loop.each c.in-Ok.ensures.column.0;
      before = columns_more _ _ _ _ _ _ _ within loop.before c.in-Ok.ensures.column.1;
    }

pub returns-in-None-clause-fault : goal.returns-in-None-clause-fault
returns-in-None-clause-fault c =
    let loop = c.loop-index.invariant in
    rw c.behind-in-None.ensures (no_end _ _ _ _ _ loop.width c.loop-index-test.false loop.each loop.before (c.in-None.ensures.missing refl))

pub returns-in-Some-clause-image : goal.returns-in-Some-clause-image
returns-in-Some-clause-image c =
    let loop = c.loop-index.invariant in
    whole_card _ _ _ _ _ _ loop.width c.loop-index-test.false loop.each loop.before c.in-Some.ensures.found
