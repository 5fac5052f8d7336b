-- how many bytes the lines of cards have
use Rattle.std.proofs.Common.{◌≡◌, ℕ, ◌*◌, ◌/◌, ◌<◌, List, [], ◌∷◌, ◌++◌, refl, ap, arith, length}
use Rattle.std.specs.List.{flat_map, All}
use Rattle.std.proofs.lemmas.List.{length-append}
use Rattle.std.proofs.lemmas.List.Elements.{All-head, All-tail}
use Rattle.cards.specs.declared.decks.Card.{Card}
use Rattle.cards.specs.declared.forms.Form.{Form}
use Rattle.cards.specs.declared.forms.Form.TheVariants.{Text, Punched}
use Rattle.cards.specs.Decks.{IsCard}
use Rattle.cards.specs.Files.{column_of, line_of, file_of, line_feed, line_length}

columns_text : (codes : List ℕ) → length (flat_map (column_of Text) codes) ≡ length codes
unfolding column_of
columns_text [] = refl
columns_text (code ∷ codes) = omega (arith, columns_text codes)

columns_punched : (codes : List ℕ) → length (flat_map (column_of Punched) codes) ≡ 3 * length codes
unfolding column_of
columns_punched [] = refl
columns_punched (code ∷ codes) = omega (arith, columns_punched codes)

pub length-line_of : (form : Form) (card : Card) → IsCard card → length (line_of form card) ≡ line_length form
length-line_of Text card is =
    omega (arith, is.0, columns_text card.0, length-append (flat_map (column_of Text) card.0) (line_feed ∷ []))
length-line_of Punched card is =
    omega (arith, is.0, columns_punched card.0, length-append (flat_map (column_of Punched) card.0) (line_feed ∷ []))

lines_text : (deck : List Card) → All IsCard deck → length (file_of Text deck) ≡ 81 * length deck
lines_text [] each = refl
lines_text (card ∷ deck) each =
    omega (arith, lines_text deck (All-tail IsCard card deck each), length-line_of Text card (All-head IsCard card deck each), length-append (line_of Text card) (file_of Text deck))

lines_punched : (deck : List Card) → All IsCard deck → length (file_of Punched deck) ≡ 241 * length deck
lines_punched [] each = refl
lines_punched (card ∷ deck) each =
    omega (arith, lines_punched deck (All-tail IsCard card deck each), length-line_of Punched card (All-head IsCard card deck each), length-append (line_of Punched card) (file_of Punched deck))

-- where a line follows those of a deck, its card is one of those that have room in the bytes
pub one_more_fits : (form : Form) (bytes rest behind : List ℕ) (deck : List Card) (card : Card) → All IsCard deck → IsCard card →
    bytes ≡ file_of form deck ++ rest → rest ≡ line_of form card ++ behind → length deck < length bytes / line_length form
one_more_fits Text bytes rest behind deck card each is before line =
    omega (arith, ap length before, ap length line, length-append (file_of Text deck) rest, length-append (line_of Text card) behind, lines_text deck each, length-line_of Text card is)
one_more_fits Punched bytes rest behind deck card each is before line =
    omega (arith, ap length before, ap length line, length-append (file_of Punched deck) rest, length-append (line_of Punched card) behind, lines_punched deck each, length-line_of Punched card is)
