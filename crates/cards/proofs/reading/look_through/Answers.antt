use Rattle.std.proofs.Common.{◌<◌, ◌∙◌, length, length-set, arith, refl}
use Rattle.cards.proofs.ReadingColumns.{characters_more, columns_more, wrong_column, no_line_feed, whole_line}
use Rattle.cards.proofs.reading.look_through.Goals as goal

pub returns-in-Err-clause-fault : goal.returns-in-Err-clause-fault
returns-in-Err-clause-fault c =
    let loop = c.loop-index.invariant in
    rw c.behind.ensures (wrong_column _ _ _ _ _ _ loop.width c.loop-index-test.true loop.characters loop.before c.in-Err.ensures.none c.in-Err.ensures.error)

pub loop-index-preserved : goal.loop-index-preserved
loop-index-preserved c =
    let loop = c.loop-index.invariant in
    let within : c.loop-index.index < length c.loop-index.codes = omega arith in
    record {
      width = length-set _ _ _ ∙ loop.width;
      characters = characters_more _ _ _ within loop.characters c.in-Ok.ensures.column.0;
      before = columns_more _ _ _ _ _ _ _ within loop.before c.in-Ok.ensures.column.1;
    }

pub returns-in-None-clause-fault : goal.returns-in-None-clause-fault
returns-in-None-clause-fault c =
    let loop = c.loop-index.invariant in
    rw c.behind-in-None.ensures (no_line_feed _ _ _ _ _ loop.width c.loop-index-test.false loop.characters loop.before (c.in-None.ensures.missing refl))

pub returns-in-Some-clause-line : goal.returns-in-Some-clause-line
returns-in-Some-clause-line c =
    let loop = c.loop-index.invariant in
    whole_line _ _ _ _ _ _ loop.width c.loop-index-test.false loop.characters loop.before c.in-Some.ensures.found
