use Rattle.std.proofs.Common.{◌∙◌, ◌+◌, ◌++◌, ap, drop, arith}
use Rattle.films.specs.Films.{source_lines}
use Rattle.films.proofs.SourceLemmas.{card_on, cards_done, slots_done}
use Rattle.films.proofs.readers.push_source.Goals as goal

pub loop-i-preserved : goal.loop-i-preserved
loop-i-preserved c =
    let i = c.loop-i.i in
    ap (λ done. done ++ source_lines (drop (i + 1) c.args.cards.now) (drop (i + 1) c.args.slots.now)) c.in_ok-push_source_line.ensures
    ∙ card_on c.loop-i.out.items c.args.cards.now c.args.slots.now i c.index-cards-i.result c.index-slots-i.result (omega arith) (omega arith) c.index-cards-i.is c.index-slots-i.is
    ∙ c.loop-i.invariant

pub returns : goal.returns
returns c = cards_done _ _ c.args.cards.now c.args.slots.now c.loop-i.i c.loop-i-test.false c.loop-i.invariant

pub returns-then-i-slots : goal.returns-then-i-slots
returns-then-i-slots c = slots_done _ _ c.args.cards.now c.args.slots.now c.loop-i.i c.if-i-slots.true c.loop-i.invariant
