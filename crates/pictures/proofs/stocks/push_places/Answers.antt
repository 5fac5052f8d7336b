use Rattle.std.proofs.Common.{◌-◌, ◌+◌, ◌∙◌, ◌++◌, ap, decimal, arith}
use Rattle.pictures.specs.Cards.{next_place, places}
use Rattle.pictures.proofs.CountedPieces.{at_last, more, one_more}
use Rattle.pictures.proofs.stocks.push_places.Goals as goal

pub loop-column-preserved : goal.loop-column-preserved
loop-column-preserved c =
    let k = c.loop-column.column in
    one_more next_place c.push_decimal.new.out.items c.loop-column.out.items c.push_place.new.out.items 2 k (k - 2) (k + 1 - 2) (omega (arith, c.loop-column.auto.column)) (omega (arith, c.loop-column.auto.column)) c.loop-column.invariant c.in_ok-push_place.ensures

pub returns : goal.returns
unfolding places
returns c =
    let o = c.args.out.now.items in
    let first = c.in_ok-push_decimal.ensures ∙ ap (λ number. o ++ decimal number) c.column_middle.ensures.middle in
    more o _ _ _ _ first
    (at_last next_place c.push_decimal.new.out.items c.loop-column.out.items 2 c.loop-column.column 79 (omega arith) c.loop-column.invariant)
