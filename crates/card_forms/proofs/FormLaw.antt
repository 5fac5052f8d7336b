-- what is written in a form is read as the deck, and what is at fault is no deck's file
use Rattle.std.proofs.Common.{◌≡◌, ℕ, List, refl, ap, sym, ◌∙◌}
use Rattle.cards.proofs.ReadingLaw.{deck_once, no_deck}
use Rattle.cards.specs.Decks.{IsDeck}
use Rattle.cards.specs.Files.{punch_file_of, text_of}
use Rattle.cards.specs.declared.Card.{Card}
use Rattle.cards.specs.declared.CardFault.{CardFault}
use Rattle.card_forms.proofs.BinaryColumns.{deck_told}
use Rattle.card_forms.proofs.PunchDigits.{file_stays}
use Rattle.card_forms.proofs.SimhLines.{text_read}
use Rattle.card_forms.specs.Faults.{IsFirstFault, IsPunchFault, IsTextFault}
use Rattle.card_forms.specs.ColumnBinary.{punch_file_for}
use Rattle.card_forms.specs.PunchFiles.{in_capitals}
use Rattle.card_forms.specs.SimhTexts.{deck_text_of}
use Rattle.card_forms.specs.Forms as forms
use Rattle.card_forms.specs.Forms.{IsFileOf}
use Rattle.card_forms.specs.declared.faults.FormFault.{FormFault}
use Rattle.card_forms.specs.declared.forms.Form.{Form}
use Rattle.card_forms.specs.declared.forms.Form.TheVariants.{Text, Punch, Simh, Binary}

-- what is written is a file of the deck
pub is_written : (form : Form) (deck : List Card) → IsDeck deck → IsFileOf form (forms.file_of form deck) deck
is_written Text deck is_deck = refl
is_written Punch deck is_deck = file_stays deck
is_written Simh deck is_deck = text_read deck is_deck
is_written Binary deck is_deck = refl

-- a text that is at fault is no deck's
text_no_deck : (text : List ℕ) (told : CardFault) (deck : List Card) → IsTextFault text told → IsDeck deck → text ≡ text_of deck → ⊥
text_no_deck text told deck fault is_deck same =
    no_deck fault.0 text told fault.2 deck is_deck (same ∙ ap (λ written. written deck) fault.1)

punch_no_deck : (file : List ℕ) (told : CardFault) (deck : List Card) → IsPunchFault file told → IsDeck deck → file ≡ punch_file_of deck → ⊥
punch_no_deck file told deck fault is_deck same =
    no_deck fault.0 file told fault.2 deck is_deck (same ∙ ap (λ written. written deck) fault.1)

-- what is at fault is no file of a deck
pub no_file : (form : Form) (bytes : List ℕ) (deck : List Card) (fault : FormFault) → IsFirstFault form bytes fault
    → IsDeck deck → IsFileOf form bytes deck → ⊥
no_file Text bytes deck fault first is_deck same = text_no_deck bytes first.0 deck first.1 is_deck same
no_file Punch bytes deck fault first is_deck same = punch_no_deck (in_capitals bytes) first.0 deck first.1 is_deck same
no_file Simh bytes deck fault first is_deck same = text_no_deck (deck_text_of bytes) first.0 deck first.1 is_deck same
no_file Binary bytes deck fault first is_deck same =
    punch_no_deck (punch_file_for bytes) first.0 deck first.1 is_deck (ap punch_file_for same ∙ deck_told deck is_deck.1)

-- a file is that of one deck
pub one_deck : (form : Form) (bytes : List ℕ) (one two : List Card) → IsDeck one → IsDeck two → IsFileOf form bytes one
    → IsFileOf form bytes two → one ≡ two
one_deck Text bytes one two is_one is_two first second = deck_once _ one two is_one.1 is_two.1 (sym first ∙ second)
one_deck Punch bytes one two is_one is_two first second = deck_once _ one two is_one.1 is_two.1 (sym first ∙ second)
one_deck Simh bytes one two is_one is_two first second = deck_once _ one two is_one.1 is_two.1 (sym first ∙ second)
one_deck Binary bytes one two is_one is_two first second =
    let told : punch_file_of one ≡ punch_file_of two =
    sym (ap punch_file_for first ∙ deck_told one is_one.1) ∙ (ap punch_file_for second ∙ deck_told two is_two.1) in
    deck_once _ one two is_one.1 is_two.1 told
