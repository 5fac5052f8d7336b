use Rattle.std.proofs.Common.{◌-◌, ◌+◌, ◌≡◌, arith}
use Rattle.pictures.specs.Cards.{column_number}
use Rattle.pictures.proofs.CountedPieces.{at_last, more, one_more}
use Rattle.pictures.proofs.stocks.push_column_numbers.Goals as goal

pub loop-column-preserved : goal.loop-column-preserved
loop-column-preserved c =
    let k = c.loop-column.column in
    one_more column_number c.push_number_between.new.out.items c.loop-column.out.items c.push_column_number.new.out.items 1 k (k - 1) (k + 1 - 1) (omega (arith, c.loop-column.auto.column)) (omega (arith, c.loop-column.auto.column)) c.loop-column.invariant c.in_ok-push_column_number.ensures

pub returns : goal.returns
returns c =
    let o = c.args.out.now.items in
    let end : c.loop-column.column ≡ 1 + 80 = omega (arith, c.loop-column-test.false, c.loop-column.auto.column-end (omega arith)) in
    let numbers = at_last column_number c.push_number_between.new.out.items c.loop-column.out.items 1 c.loop-column.column 80 end c.loop-column.invariant in
    more o _ _ _ _ (more o _ _ _ _ c.in_ok-push_number_between.ensures numbers) c.in_ok-extend_from_slice.ensures.items
