-- texts of decks are taken as they are, and what is taken is one
use Rattle.std.proofs.Common.{rules, arith, refl, sym, ap, subst, ◌∙◌, ◌≡◌, ◌<◌, ℕ, true, ◌&&◌, List, [], ◌∷◌, ◌++◌, length, map, All, append-nil}
use Rattle.std.proofs.lemmas.List.Elements.{All-head, All-tail, All-cons}
use Rattle.bcd.specs.Table.{glyph_of}
use Rattle.cards.specs.declared.decks.Card.{Card}
use Rattle.cards.specs.Decks.{AreCharacters, IsCard, IsDeck}
use Rattle.cards.specs.Files.{column_of, text_of}
use Rattle.card_texts.specs.declared.rules.Rules.{Rules}
use Rattle.card_texts.specs.Signs.{is_glyph}
use Rattle.card_texts.specs.Lines.{lines_of}
use Rattle.card_texts.specs.DeckTexts.{IsDeckText, TakesWholeCards}
use Rattle.card_texts.specs.Punching.{cards_of_lines, deck_text_of, drops, faults_of, faults_of_lines, refuses}
use Rattle.card_texts.proofs.SignLemmas.{glyph_found}
use Rattle.card_texts.proofs.GlyphLemmas.{are_glyphs, both, code_of_glyph}
use Rattle.card_texts.proofs.CardLines.{AreCardLines, IsCardLine, lines_of_text, text_of_lines, whole_line}
use Rattle.card_texts.proofs.TakenLines.{AreSettled, IsSettled, cards_taken, is_blank, lines_taken, settled_cards, settled_faultless, settled_same, taken_lines}

-- ---- from a deck to its lines

-- the glyphs of a card
abbrev glyphs_of : Card → List ℕ
glyphs_of card = map glyph_of card.0

glyphs_of_codes : (codes : List ℕ) → AreCharacters codes → are_glyphs (map glyph_of codes) ≡ true
glyphs_of_codes [] all = refl
glyphs_of_codes (code ∷ codes) all =
    rw (glyph_found code (glyph_of code) (All-head (λ c. c < 64) code codes all) refl)
    (glyphs_of_codes codes (All-tail (λ c. c < 64) code codes all))

as_many : (codes : List ℕ) → length (map glyph_of codes) ≡ length codes
as_many [] = refl
as_many (code ∷ codes) = omega (arith, as_many codes)

-- the text of one card
text_of_codes : (codes : List ℕ) → (let card : Card = record { 0 = codes } in text_of (card ∷ []))
    ≡ map glyph_of codes ++ 10 ∷ []
unfolding column_of
text_of_codes [] = refl
text_of_codes (code ∷ codes) = ap (λ rest. glyph_of code ∷ rest) (text_of_codes codes)

text_of_card : (card : Card) → text_of (card ∷ []) ≡ glyphs_of card ++ 10 ∷ []
text_of_card card = text_of_codes card.0

-- a card's text, and those behind it
text_on : (card : Card) (deck : List Card) → text_of (card ∷ deck) ≡ text_of (card ∷ []) ++ text_of deck
text_on card deck = ap (λ line. line ++ text_of deck) (sym (append-nil _))

text_by_lines : (deck : List Card) → text_of deck ≡ text_of_lines (map glyphs_of deck)
text_by_lines [] = refl
text_by_lines (card ∷ deck) =
    text_on card deck
    ∙ ap (λ line. line ++ text_of deck) (text_of_card card)
    ∙ ap (λ rest. (glyphs_of card ++ 10 ∷ []) ++ rest) (text_by_lines deck)

card_line : (card : Card) → IsCard card → IsCardLine (glyphs_of card)
card_line card is = record {
  glyphs = glyphs_of_codes card.0 is.1;
  columns = as_many card.0 ∙ is.0;
}

-- a card's line stays by rules that take whole cards
settled_line : (rules : Rules) (line : List ℕ) → TakesWholeCards rules → IsCardLine line → IsSettled rules line
settled_line rules line whole is = record {
  card = is;
  kept = whole_line rules line whole.signs whole.columns is;
  passed = ap (λ e. drops e && is_blank line) whole.empty;
  refused = ap (λ e. refuses e && is_blank line) whole.empty;
}

settled_deck : (rules : Rules) (deck : List Card) → TakesWholeCards rules → All IsCard deck
    → AreSettled rules (map glyphs_of deck)
settled_deck rules [] whole all = tt
settled_deck rules (card ∷ deck) whole all = (
  settled_line rules (glyphs_of card) whole (card_line card (All-head IsCard card deck all)),
  settled_deck rules deck whole (All-tail IsCard card deck all),
)

as_many_lines : (deck : List Card) → length (map glyphs_of deck) ≡ length deck
as_many_lines [] = refl
as_many_lines (card ∷ deck) = omega (arith, as_many_lines deck)

-- the lines of a deck's text
lines_of_deck : (rules : Rules) (deck : List Card) → TakesWholeCards rules → All IsCard deck
    → lines_of (text_of deck) ≡ map glyphs_of deck
lines_of_deck rules deck whole all =
    ap lines_of (text_by_lines deck)
    ∙ lines_of_text (map glyphs_of deck) (settled_cards rules _ (settled_deck rules deck whole all))

pub deck_is_faultless : (rules : Rules) (deck : List Card) → TakesWholeCards rules → IsDeck deck
    → faults_of rules (text_of deck) ≡ []
deck_is_faultless rules deck whole is_deck =
    ap (faults_of_lines rules 1 0) (lines_of_deck rules deck whole is_deck.1)
    ∙ settled_faultless rules 1 0 (map glyphs_of deck) whole.signs (settled_deck rules deck whole is_deck.1)
    (omega (arith, as_many_lines deck, is_deck.0))

pub deck_stays : (rules : Rules) (deck : List Card) → TakesWholeCards rules → IsDeck deck
    → deck_text_of rules (text_of deck) ≡ text_of deck
deck_stays rules deck whole is_deck =
    ap (cards_of_lines rules 1) (lines_of_deck rules deck whole is_deck.1)
    ∙ settled_same rules 1 (map glyphs_of deck) whole.signs (settled_deck rules deck whole is_deck.1)
    ∙ sym (text_by_lines deck)

-- ---- from lines to a deck

-- the characters of glyphs
record AreCodesOf (line codes : List ℕ) : Type 0 where
  characters : AreCharacters codes
  many : length codes ≡ length line
  same : map glyph_of codes ≡ line

codes_of : (line : List ℕ) → are_glyphs line ≡ true → (codes : List ℕ) × AreCodesOf line codes
codes_of [] all = ([], record { characters = λ k d below. absurd (omega (arith, below)); many = refl; same = refl })
codes_of (byte ∷ rest) all =
    let parts = both (is_glyph byte) (are_glyphs rest) all in
    let first = code_of_glyph byte parts.0 in
    let later = codes_of rest parts.1 in (
      first.0 ∷ later.0,
      record {
        characters = All-cons (λ c. c < 64) first.0 later.0 first.1.below later.1.characters;
        many = omega (arith, later.1.many);
        same = ap (λ glyph. glyph ∷ map glyph_of later.0) first.1.glyph ∙ ap (λ glyphs. byte ∷ glyphs) later.1.same;
      },
    )

-- the deck of lines
record IsDeckOf (lines : List (List ℕ)) (deck : List Card) : Type 0 where
  cards : All IsCard deck
  many : length deck ≡ length lines
  same : text_of_lines lines ≡ text_of deck

deck_of : (lines : List (List ℕ)) → AreCardLines lines → (deck : List Card) × IsDeckOf lines deck
deck_of [] all = ([], record { cards = λ k d below. absurd (omega (arith, below)); many = refl; same = refl })
deck_of (line ∷ lines) all =
    let first = codes_of line all.0.glyphs in
    let later = deck_of lines all.1 in
    let card : Card = record { 0 = first.0 } in (
      card ∷ later.0,
      record {
        cards = All-cons IsCard card later.0 (first.1.many ∙ all.0.columns, first.1.characters) later.1.cards;
        many = omega (arith, later.1.many);
        same = ap (λ glyphs. (glyphs ++ 10 ∷ []) ++ text_of_lines lines) (sym first.1.same)
            ∙ ap (λ rest. (glyphs_of card ++ 10 ∷ []) ++ rest) later.1.same
            ∙ ap (λ line. line ++ text_of later.0) (sym (text_of_card card)) ∙ sym (text_on card later.0);
      },
    )

-- what a text without faults is taken as is a deck's text
pub punched_is_deck : (rules : Rules) (text : List ℕ) → faults_of rules text ≡ [] → IsDeckText (deck_text_of rules text)
punched_is_deck rules text none =
    let taken = lines_taken rules 1 0 (lines_of text) (omega arith) none in
    let lines : List (List ℕ) = taken_lines rules 1 (lines_of text) in
    let found = deck_of lines (settled_cards _ lines taken.settled) in
    record {
      deck = found.0;
      is_deck = (omega (arith, taken.fits, found.1.many), found.1.cards);
      same = cards_taken rules 1 (lines_of text) ∙ found.1.same;
    }

-- the bytes that a text without faults is taken as
pub taken_is_deck : (rules : Rules) (text taken : List ℕ) → faults_of rules text ≡ []
    → taken ≡ deck_text_of rules text → IsDeckText taken
taken_is_deck rules text taken none same = subst IsDeckText (sym same) (punched_is_deck rules text none)
