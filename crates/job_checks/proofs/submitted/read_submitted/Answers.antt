use Rattle.std.proofs.Common.{◌≡◌, Ok, ap, ◌∙◌}
use Rattle.cards.specs.Decks.{deck_bytes}
use Rattle.cards.specs.declared.decks.Deck.{Deck}
use Rattle.office.specs.Jobs.{loaded_deck}
use Rattle.sqlite.specs.Order.{Row, column}
use Rattle.job_checks.specs.Jobs.{numbers_of}
use Rattle.job_checks.specs.declared.submitted.Numbers.{Numbers}
use Rattle.job_checks.specs.declared.submitted.Submitted.{Submitted}
use Rattle.job_checks.proofs.submitted.read_submitted.Goals as goal

pub returns : goal.returns
returns c = λ e is_deck row.
    let told : Ok c.in-Ok.numbers ≡ Ok (numbers_of e.job) = c.in-Ok.ensures.all e.customer (deck_bytes e.job.deck) (deck_bytes (loaded_deck e.job)) e.number (numbers_of e.job) row in
    let numbers : c.in-Ok.numbers ≡ numbers_of e.job = cc in
    let same = (c.in_ok-deck.ensures e.job.deck is_deck (ap (λ (r : Row). column r 4) row)).0 in
    (ap (λ (n : Numbers). let x : Submitted = record { numbers = n; deck = c.in_ok-deck.deck } in x) numbers ∙ ap (λ (d : Deck). let x : Submitted = record { numbers = numbers_of e.job; deck = d } in x) same, tt)

pub returns-in-Err : goal.returns-in-Err
returns-in-Err c = λ e is_deck row. absurd (let no = c.in-Err.ensures.all e.customer (deck_bytes e.job.deck) (deck_bytes (loaded_deck e.job)) e.number (numbers_of e.job) row in cc)
