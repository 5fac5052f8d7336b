-- for the law `carets_stand_in_the_field_at_fault`
use Rattle.std.proofs.Common.{◌≡◌, ℕ, zero, suc, ◌-◌, Bool, false, ◌||◌, List, [], ◌∷◌, get_or, Some, sym, ◌∙◌, ap}
use Rattle.std.specs.Prelude.{slice_get}
use Rattle.cards.specs.declared.decks.Card.{Card}
use Rattle.autocoder_layout.specs.Source.{silent, is_control, line_on, lines_of}
use Rattle.autocoder_layout.specs.declared.card_faults.CardFault.{CardFault}
use Rattle.source_reports.specs.Blocks.{line_at}
use Rattle.source_reports.specs.Carets.{IsInField}
use Rattle.source_reports.specs.Places.{place_of}
use Rattle.autocoder.specs.Programs.{laid_for}
use Rattle.source_reports.proofs.CaretLemmas.{caret_within}

-- the line of a card is what the card says, by whether an earlier card gave the size
pub line_of_card : (has_size : Bool) (source : List Card) (k : ℕ) (card : Card)
    → slice_get source k ≡ Some card
    → (c : Bool) × (get_or (lines_of has_size source) k silent ≡ line_on c card)
unfolding lines_of
line_of_card has_size [] k card is = absurd (cc)
line_of_card has_size (first ∷ source) zero card is =
    let same : first ≡ card = cc in (has_size, ap (line_on has_size) same)
line_of_card has_size (first ∷ source) (suc k) card is =
    line_of_card (has_size || is_control first) source k card is

pub caret_in_field : (source : List Card) (f : CardFault) (card : Card) (column : ℕ)
    → slice_get source (f.card - 1) ≡ Some card
    → place_of (laid_for source) card (line_at (laid_for source) (f.card - 1)) f.fault
    ≡ Some column → IsInField f.fault column
caret_in_field source f card column at is =
    let line = line_of_card false source (f.card - 1) card at in
    caret_within (laid_for source) line.0 card f.fault column
    (ap (λ l. place_of (laid_for source) card l f.fault) (sym line.1) ∙ is)
