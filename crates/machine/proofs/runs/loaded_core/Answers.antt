use Rattle.std.proofs.Common.{◌≡◌, ◌∙◌, ◌≤◌, ap, arith, true, length}
use Rattle.std.proofs.lemmas.List.{length-replicate}
use Rattle.core_store.specs.Storage.{positions_of, blank_storage, put_codes, with_mark}
use Rattle.core_store.proofs.Fields.{length-put_codes}
use Rattle.core_store.proofs.SizeLemmas.{within}
use Rattle.machine.proofs.Steps.{first_card_is}
use Rattle.cards.specs.declared.decks.Card.{Card}
use Rattle.machine.specs.Run.{first_card}
use Rattle.machine.proofs.runs.loaded_core.Goals as goal

pub put_card-requires : goal.put_card-requires
put_card-requires g c =
    let long : length (g.C.Core.cells c.in_ok-core.core) ≡ positions_of c.args.size = ap length c.in_ok-core.ensures ∙ length-replicate (positions_of c.args.size) _ in
    let most : 1400 ≤ positions_of c.args.size = (within c.args.size).0 in
    omega arith

pub set_mark-requires : goal.set_mark-requires
set_mark-requires g c =
    let long : length (g.C.Core.cells c.in_ok-core.core) ≡ positions_of c.args.size = ap length c.in_ok-core.ensures ∙ length-replicate (positions_of c.args.size) _ in
    let most : 1400 ≤ positions_of c.args.size = (within c.args.size).0 in
    let same : length (g.C.Core.cells c.put_card.new.core) ≡ length (g.C.Core.cells c.in_ok-core.core) = ap length c.put_card.ensures ∙ length-put_codes (g.C.Core.cells c.in_ok-core.core) 1 _ in
    omega arith

pub returns : goal.returns
returns g c =
    let blank = blank_storage (positions_of c.args.size) in
    let card : c.index-cards-0.result.0 ≡ first_card c.args.deck.now =
    ap (λ (x : Card). x.0) c.index-cards-0.is ∙ first_card_is c.cards.result.now c.index-cards-0.result (rw c.cards.ensures.cards c.requires)
    ∙ ap first_card c.cards.ensures.cards in
    c.set_mark.ensures
    ∙ ap (λ t. with_mark t 1 true) (c.put_card.ensures ∙ ap (λ t. put_codes t 1 c.index-cards-0.result.0) c.in_ok-core.ensures ∙ ap (put_codes blank 1) card)
