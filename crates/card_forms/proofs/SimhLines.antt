-- the lines of a text of SimH, and the deck text for which they stand
use Rattle.std.proofs.Common.{◌≡◌, ◌≢◌, ℕ, zero, suc, ◌+◌, ◌-◌, ◌<◌, ◌≤◌, ◌==◌, Bool, true, false, ◌&&◌, not, List, [], ◌∷◌, ◌++◌, length, map, take, drop, replicate, Some, None, position, refl, ap, sym, ◌∙◌, arith, append_assoc, eqb}
use Rattle.std.specs.List.{flat_map, All, slice_split}
use Rattle.std.specs.Str.Lines.{lines, lines_of_parts, strip_carriage_return}
use Rattle.std.proofs.lemmas.Bool.{eqb-true}
use Rattle.std.proofs.lemmas.List.{length-map, map-append}
use Rattle.std.proofs.lemmas.List.Elements.{All-head, All-tail, All-map}
use Rattle.std.proofs.lemmas.List.Quantifiers.{position-Some}
use Rattle.std.proofs.lemmas.List.Sums.{position_or_len_is, fails_before_first}
use Rattle.std.proofs.lemmas.List.Splits.{slice_split_at, slice_split_first, slice_split_none, length-slice_split}
use Rattle.std.specs.List.{position_or_len}
use Rattle.bcd.proofs.Tables.{at_each}
use Rattle.bcd.specs.Table.{glyph_of}
use Rattle.cards.specs.Decks.{IsCard, IsDeck, AreCharacters}
use Rattle.cards.specs.declared.Card.{Card}
use Rattle.cards.specs.Files.{text_of, column_of}
use Rattle.card_forms.specs.Signs.{filled, simh_glyph, simh_sign}
use Rattle.card_forms.specs.SimhTexts.{deck_line_of, deck_text_of, simh_text_of}
use Rattle.card_forms.proofs.FilledColumns.{filled_back, filled_characters}

-- the number is a character's
abbrev IsNumber : ℕ → Type 0
IsNumber code = code < 64

-- whether a byte is a line feed
abbrev is_feed : ℕ → Bool
is_feed = λ byte. byte == 10

-- a part before others is a line that has ended
before_parts : (part : List ℕ) (parts : List (List ℕ)) → 0 < length parts
    → lines_of_parts (part ∷ parts) ≡ strip_carriage_return part ∷ lines_of_parts parts
before_parts part [] some = absurd (omega arith)
before_parts part (next ∷ more) some = refl

-- the first line ends with the first line feed
pub line_ended : (text : List ℕ) (place : ℕ) → position is_feed text ≡ Some place
    → lines text ≡ strip_carriage_return (take place text) ∷ lines (drop (place + 1) text)
line_ended text place at =
    let found = position-Some is_feed text place 0 at in
    let first : position_or_len is_feed text ≡ place =
    position_or_len_is is_feed text place 0 (omega (arith, found.0)) found.2 (λ _. found.1) in
    let parts = slice_split_first is_feed text 0 (omega (arith, found.0)) in
    let more : 0 < length (slice_split is_feed (drop (position_or_len is_feed text + 1) text)) =
    omega (arith, length-slice_split is_feed (drop (position_or_len is_feed text + 1) text)) in
    ap lines_of_parts parts
    ∙ before_parts (take (position_or_len is_feed text) text) (slice_split is_feed (drop (position_or_len is_feed text + 1) text)) more
    ∙ rw first refl

-- a text without a line feed is a line
pub line_open : (text : List ℕ) → 0 < length text → position is_feed text ≡ None → lines text ≡ text ∷ []
line_open text some none =
    let whole : length text ≤ position_or_len is_feed text = grind (arith, none) in
    let parts = slice_split_none is_feed text (λ k d below. fails_before_first is_feed text k d (omega (arith, below, whole))) in
    ap lines_of_parts parts ∙ grind (arith, some)

-- one line more
pub line_more : (done line : List ℕ) (all others : List (List ℕ)) → all ≡ line ∷ others
    → (done ++ deck_line_of line) ++ flat_map deck_line_of others ≡ done ++ flat_map deck_line_of all
line_more done line all others first =
    rw first (append_assoc done (deck_line_of line) (flat_map deck_line_of others))

-- no sign ends a line
sign_plain : (code : ℕ) → code < 64 → (not (simh_sign code == 10) && not (simh_sign code == 13)) ≡ true
unfolding simh_sign glyph_of
sign_plain code below = at_each (λ k. not (simh_sign k == 10) && not (simh_sign k == 13)) 64 refl code below

no_feed : (code : ℕ) → code < 64 → is_feed (simh_sign code) ≡ false
no_feed code below = grind (arith, sign_plain code below)

no_return : (code : ℕ) → code < 64 → simh_sign code ≢ 13
no_return code below = grind (arith, sign_plain code below)

-- a line without a carriage return stays
strip_none : (line : List ℕ) → All (λ byte. byte ≢ 13) line → strip_carriage_return line ≡ line
strip_none [] plain = refl
strip_none (byte ∷ line) plain =
    let last = plain (length (byte ∷ line) - 1) 0 (omega arith) in
    grind (arith, last)

-- the lines of a text that was punched are the signs of its cards
abbrev pub signs_of : Card → List ℕ
signs_of card = map simh_sign (filled card.0)

pub lines_punched : (deck : List Card) → All IsCard deck → lines (simh_text_of deck) ≡ map signs_of deck
lines_punched [] each = refl
lines_punched (card ∷ deck) each =
    let characters = filled_characters (λ code. code < 64) card.0 (All-head IsCard card deck each).1 in
    let feeds = All-map (λ sign. is_feed sign ≡ false) simh_sign (filled card.0) (λ k d below. no_feed _ (characters k d below)) in
    let returns = All-map (λ sign. sign ≢ 13) simh_sign (filled card.0) (λ k d below. no_return _ (characters k d below)) in
    let rest = simh_text_of deck in
    let parts = slice_split_at is_feed (signs_of card) 10 rest feeds refl in
    let more : 0 < length (slice_split is_feed rest) = omega (arith, length-slice_split is_feed rest) in
    ap lines (append_assoc (signs_of card) (10 ∷ []) rest)
    ∙ ap lines_of_parts parts
    ∙ before_parts (signs_of card) (slice_split is_feed rest) more
    ∙ rw (strip_none (signs_of card) returns) (ap (λ others. signs_of card ∷ others) (lines_punched deck (All-tail IsCard card deck each)))

-- a sign that was punched is read as the glyph of its character
sign_read : (code : ℕ) → code < 64 → simh_glyph (simh_sign code) ≡ glyph_of code
unfolding simh_sign simh_glyph glyph_of
sign_read code below =
    eqb-true _ _ (at_each (λ k. eqb (simh_glyph (simh_sign k)) (glyph_of k)) 64 refl code below)

signs_read : (codes : List ℕ) → AreCharacters codes → map simh_glyph (map simh_sign codes) ≡ map glyph_of codes
signs_read [] each = refl
signs_read (code ∷ codes) each =
    rw (sign_read code (All-head IsNumber code codes each), signs_read codes (All-tail IsNumber code codes each)) refl

-- blanks are written as blanks
blank_glyphs : (count : ℕ) → map glyph_of (replicate count 0) ≡ replicate count 32
unfolding glyph_of
blank_glyphs zero = refl
blank_glyphs (suc count) = ap (λ rest. 32 ∷ rest) (blank_glyphs count)

-- the line of a card that was punched stands for the glyphs of the card
pub line_read : (card : Card) → IsCard card → deck_line_of (signs_of card) ≡ map glyph_of card.0 ++ 10 ∷ []
line_read card is_card =
    let codes = card.0 in
    let glyphs = signs_read (filled codes) (filled_characters (λ code. code < 64) codes is_card.1) in
    let short = length-map (filled codes) glyph_of in
    let whole : map glyph_of (filled codes) ++ replicate (80 - length (filled codes)) 32 ≡ map glyph_of codes =
    rw (← blank_glyphs (80 - length (filled codes))) (sym (map-append glyph_of (filled codes) (replicate (80 - length (filled codes)) 0))
    ∙ ap (map glyph_of) (rw (← is_card.0) (filled_back codes))) in
    rw (glyphs, short, whole) refl

-- the glyphs of a card's line in a deck text
line_of_glyphs : (codes : List ℕ) → text_of (record { 0 = codes } ∷ []) ≡ map glyph_of codes ++ 10 ∷ []
unfolding column_of
line_of_glyphs [] = refl
line_of_glyphs (code ∷ codes) = ap (λ rest. glyph_of code ∷ rest) (line_of_glyphs codes)

pub text_on : (card : Card) (deck : List Card) → text_of (card ∷ deck) ≡ (map glyph_of card.0 ++ 10 ∷ []) ++ text_of deck
text_on card deck = sym (append_assoc _ [] (text_of deck)) ∙ ap (λ line. line ++ text_of deck) (line_of_glyphs card.0)

lines_read : (deck : List Card) → All IsCard deck → flat_map deck_line_of (map signs_of deck) ≡ text_of deck
lines_read [] each = refl
lines_read (card ∷ deck) each =
    rw (line_read card (All-head IsCard card deck each), lines_read deck (All-tail IsCard card deck each)) (sym (text_on card deck))

-- the text that is punched of a deck stands for the deck's text
pub text_read : (deck : List Card) → IsDeck deck → deck_text_of (simh_text_of deck) ≡ text_of deck
unfolding deck_text_of
text_read deck is_deck =
    rw (lines_punched deck is_deck.1) (lines_read deck is_deck.1)
