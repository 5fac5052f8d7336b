-- a card's picture is read as the card
use Rattle.std.proofs.Common.{◌≡◌, ℕ, ◌<◌, List, [], ◌∷◌, length, map, drop, get_or, refl, ap, sym, ◌∙◌}
use Rattle.std.proofs.lemmas.List.Elements.{All-head, All-tail}
use Rattle.bcd.specs.Table.{glyph_of, punches_of}
use Rattle.bcd.proofs.Tables.{glyphs_differ}
use Rattle.cards.specs.Decks.{AreCharacters, IsCard}
use Rattle.cards.specs.declared.Card.{Card}
use Rattle.card_forms.specs.Images.{IsImage, image_of}
use Rattle.card_forms.specs.Signs.{filled}
use Rattle.card_forms.specs.declared.images.CardImage.{CardImage}
use Rattle.card_forms.proofs.FilledColumns.{filled_back, filled_characters}
use Rattle.card_forms.proofs.ImageCharacters.{character_is, is_one}
use Rattle.card_forms.proofs.ImageDecks.{filled_same, is_image}
use Rattle.pictures.specs.Cards.{picture}
use Rattle.pictures.specs.Escapes.{glyph_printed}
use Rattle.pictures.specs.Reading.{HasThePrint, HasThePunches, print_read}
use Rattle.pictures.proofs.DeckLaw.{printed_is}
use Rattle.pictures.proofs.MarksRead.{print_back, punches_shown}
use Rattle.pictures.proofs.PictureTexts.{hole_behind, print_behind}

-- the number is a character's
abbrev IsNumber : ℕ → Type 0
IsNumber code = code < 64

-- a picture has the punches of its card, and its print
pub picture_punches : (card : CardImage) → IsImage card → HasThePunches (picture card) card
picture_punches card is_card = punches_shown (picture card) card is_card (hole_behind card)

pub picture_print : (card : CardImage) → IsImage card → HasThePrint (picture card) card
picture_print card is_card = print_back (picture card) card is_card (print_behind card)

-- characters are printed as their glyphs
glyphs_printed : (codes : List ℕ) → AreCharacters codes → map glyph_printed (map punches_of codes) ≡ map glyph_of codes
glyphs_printed [] each = refl
glyphs_printed (code ∷ codes) each =
    let below = All-head IsNumber code codes each in
    let glyph : glyph_printed (punches_of code) ≡ glyph_of code = printed_is (punches_of code) (is_one code below) ∙ ap glyph_of (character_is code (punches_of code) below refl) in
    rw (glyph, glyphs_printed codes (All-tail IsNumber code codes each)) refl

pub characters_print : (card : Card) → IsCard card → print_read (picture (image_of card)) ≡ map glyph_of (filled card.0)
characters_print card is_card =
    picture_print (image_of card) (is_image card is_card)
    ∙ ap (map glyph_printed) (filled_same card.0 is_card.1)
    ∙ glyphs_printed (filled card.0) (filled_characters IsNumber card.0 is_card.1)

-- two cards with the same columns are one
same_card : (one two : Card) → one.0 ≡ two.0 → one ≡ two
same_card one two same = ap (λ (columns : List ℕ). let card : Card = record { 0 = columns } in card) same

-- characters by their glyphs
same_codes : (one two : List ℕ) → AreCharacters one → AreCharacters two → map glyph_of one ≡ map glyph_of two → one ≡ two
same_codes [] [] first second same = refl
same_codes [] (y ∷ two) first second same = absurd (cc)
same_codes (x ∷ one) [] first second same = absurd (cc)
same_codes (x ∷ one) (y ∷ two) first second same =
    let glyph : glyph_of x ≡ glyph_of y = ap (λ glyphs. get_or glyphs 0 0) same in
    let code : x ≡ y = glyphs_differ x y (All-head IsNumber x one first) (All-head IsNumber y two second) glyph in
    let rest : one ≡ two = same_codes one two (All-tail IsNumber x one first) (All-tail IsNumber y two second) (ap (drop 1) same) in
    rw (code, rest) refl

-- two cards of characters with one picture are one
pub one_card : (one two : Card) → IsCard one → IsCard two → picture (image_of one) ≡ picture (image_of two) → one ≡ two
one_card one two first second same =
    let glyphs : map glyph_of (filled one.0) ≡ map glyph_of (filled two.0) = sym (characters_print one first) ∙ ap print_read same ∙ characters_print two second in
    let codes : filled one.0 ≡ filled two.0 = same_codes (filled one.0) (filled two.0) (filled_characters IsNumber one.0 first.1) (filled_characters IsNumber two.0 second.1) glyphs in
    let size : length one.0 ≡ length two.0 = first.0 ∙ sym second.0 in
    same_card one two (sym (filled_back one.0) ∙ rw (codes, size) (filled_back two.0))
