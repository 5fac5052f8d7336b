use Rattle.std.proofs.Common.{◌-◌, refl}
use Rattle.pictures.specs.Cards.{hole_if_punched}
use Rattle.pictures.specs.declared.holes.TheConstants.{ROWS}
use Rattle.pictures.proofs.HoleOutlines.{all_rows, row_on}
use Rattle.pictures.proofs.holes.push_column.Goals as goal

pub loop-row-preserved : goal.loop-row-preserved
loop-row-preserved c =
    row_on (hole_if_punched (c.column_middle-left.result - 27) c.args.pattern) ROWS c.args.out.now.items c.loop-row.out.items c.push_if_punched.new.out.items c.loop-row.row-index c.loop-row-test.true c.loop-row.invariant c.in_ok-push_if_punched.ensures

pub returns : goal.returns
returns c =
    all_rows ROWS c.args.column c.args.pattern c.args.out.now.items c.loop-row.out.items c.loop-row.row-index c.column_middle-left.result refl c.loop-row-test.false c.column_middle-left.ensures.middle c.loop-row.invariant
