use Rattle.bureau_laws.proofs.RequestLaw.{OneReading, same_request, same_refusal}
use Rattle.bureau_laws.proofs.requests.one_request.Goals as goal

pub returns : goal.returns
returns c =
    let decks = c.one_reading.ensures in
    let law : OneReading = record { one_deck = decks.one_deck; one_fault = decks.one_fault; not_both = decks.not_both } in
    record { same = same_request law; of_head = same_refusal }
