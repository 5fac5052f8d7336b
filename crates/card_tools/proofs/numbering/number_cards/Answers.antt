use Rattle.std.proofs.Common.{◌+◌, ◌∙◌, inl, inr, sym, ap, arith, drop, refl}
use Rattle.std.proofs.lemmas.List.{drop_all}
use Rattle.card_tools.specs.Numbering.{fault_from, numbered_from}
use Rattle.card_tools.proofs.CardNumbers.{fault_found, fault_on, numbered_on}
use Rattle.card_tools.proofs.CardsShown.{all_done, left_from}
use Rattle.card_tools.proofs.NumberLaw.{fits_small}
use Rattle.card_tools.proofs.numbering.number_cards.Goals as goal

pub loop-index-preserved : goal.loop-index-preserved
loop-index-preserved c =
    let i = c.loop-index.index in
    let card = c.index-cards-index.result in
    let left = left_from c.args.cards.now i card c.loop-index-test.true c.index-cards-index.is in
    let done = c.in-Ok.ensures.card in
    record {
      cards = rw (c.from-number-in-loop-index.ensures, c.in_ok-push_card.ensures.ok, done.1)
          (numbered_on c.args.ident.now c.args.step c.loop-index.number card (drop (i + 1) c.args.cards.now) (drop i c.args.cards.now) c.loop-index.deck left
          ∙ c.loop-index.invariant.cards);
      fault = rw c.from-number-in-loop-index.ensures
          (fault_on c.args.ident.now c.args.step (i + 1) c.loop-index.number card (drop (i + 1) c.args.cards.now) (drop i c.args.cards.now) left done.0
          ∙ c.loop-index.invariant.fault);
      small = omega (arith, fits_small c.args.ident.now c.loop-index.number done.0.1, c.from-number-in-loop-index.ensures, c.ranges.step.fits);
    }

pub returns-in-Err-clause-fault : goal.returns-in-Err-clause-fault
returns-in-Err-clause-fault c =
    let i = c.loop-index.index in
    let card = c.index-cards-index.result in
    let left = left_from c.args.cards.now i card c.loop-index-test.true c.index-cards-index.is in
    elim c.in-Err.ensures.fault [
      | inl memory ↦ inl memory
      | inr way ↦ inr (sym c.loop-index.invariant.fault ∙ fault_found c.args.ident.now c.args.step (i + 1) c.loop-index.number card (drop (i + 1) c.args.cards.now) (drop i c.args.cards.now) c.in-Err.fault left way)
    ]

pub returns-clause-numbered : goal.returns-clause-numbered
unfolding fault_from numbered_from
returns-clause-numbered c = (
  sym c.loop-index.invariant.fault ∙ ap (fault_from c.args.ident.now c.args.step (c.loop-index.index + 1) c.loop-index.number) (drop_all c.loop-index.index c.args.cards.now c.loop-index-test.false),
  all_done (numbered_from c.args.ident.now c.args.step c.loop-index.number) c.args.cards.now c.loop-index.index _ _ c.loop-index-test.false refl c.loop-index.invariant.cards,
)
