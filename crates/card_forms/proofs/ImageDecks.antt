-- the images of a deck's cards, and their files
use Rattle.std.proofs.Common.{◌≡◌, ℕ, ◌<◌, ◌==◌, true, false, not, Bool, List, [], ◌∷◌, ◌++◌, Option, Some, None, is_some, length, map, position, get_or, refl, ap, sym, ◌∙◌, arith, append_assoc, append-nil}
use Rattle.std.specs.List.{All, flat_map}
use Rattle.std.proofs.lemmas.Bool.{eqb-true, eqb-false, ne_eqb}
use Rattle.std.proofs.lemmas.List.{length-map}
use Rattle.std.proofs.lemmas.List.Elements.{All-head, All-tail, All-map}
use Rattle.std.proofs.lemmas.List.Quantifiers.{position-Some}
use Rattle.bcd.proofs.Tables.{punches_differ}
use Rattle.bcd.specs.Table.{glyph_of, punches_of, zone_of}
use Rattle.cards.proofs.FormColumns.{twelve_rows}
use Rattle.cards.proofs.ReadingLaw.{deck_once}
use Rattle.cards.specs.Decks.{AreCharacters, IsCard, IsDeck}
use Rattle.cards.specs.Files.{digits_of, punch_file_of, text_of}
use Rattle.cards.specs.declared.Card.{Card}
use Rattle.card_forms.proofs.BinaryColumns.{digits_for, file_on}
use Rattle.card_forms.proofs.FilledColumns.{filled_characters}
use Rattle.card_forms.proofs.ImageCharacters.{glyph_is, is_one, sign_is}
use Rattle.card_forms.proofs.SimhLines.{text_on}
use Rattle.card_forms.specs.ColumnBinary.{binary_of, column_bytes}
use Rattle.card_forms.specs.Forms as forms
use Rattle.card_forms.specs.Forms.{IsFileOf}
use Rattle.card_forms.specs.ImageFiles.{IsImageFile, IsImageIn, MayStand, column_of, has_file, image_file_of, line_of, lines_of}
use Rattle.card_forms.specs.ImageFiles as images
use Rattle.card_forms.specs.Images.{IsImage, are_characters, image_of, images_of, is_character, odd_card, odd_column, sign_shown}
use Rattle.card_forms.specs.Signs.{are_blank, filled, simh_sign}
use Rattle.card_forms.specs.SimhTexts.{simh_text_of}
use Rattle.card_forms.specs.declared.columns.ColumnForm.{ColumnForm}
use Rattle.card_forms.specs.declared.columns.ColumnForm.TheVariants.{Glyph, Digits, Bits}
use Rattle.card_forms.specs.declared.forms.Form.{Form}
use Rattle.card_forms.specs.declared.forms.Form.TheVariants.{Text, Punch, Simh, Binary}
use Rattle.card_forms.specs.declared.images.CardImage.{CardImage}

-- the number is a character's
abbrev IsNumber : ℕ → Type 0
IsNumber code = code < 64

-- the columns of characters, in each form
glyph_columns : (codes : List ℕ) → AreCharacters codes → flat_map (column_of Glyph) (map punches_of codes) ≡ map glyph_of codes
unfolding column_of
glyph_columns [] each = refl
glyph_columns (code ∷ codes) each =
    rw (glyph_is code (All-head IsNumber code codes each), glyph_columns codes (All-tail IsNumber code codes each)) refl

digit_columns : (codes : List ℕ) → flat_map (column_of Digits) (map punches_of codes) ≡ flat_map digits_for codes
unfolding column_of
digit_columns [] = refl
digit_columns (code ∷ codes) = ap (λ (rest : List ℕ). digits_of (punches_of code) ++ rest) (digit_columns codes)

bit_columns : (codes : List ℕ) → flat_map (column_of Bits) (map punches_of codes) ≡ flat_map column_bytes codes
unfolding column_of column_bytes
bit_columns [] = refl
bit_columns (code ∷ codes) = ap (λ (rest : List ℕ). column_bytes code ++ rest) (bit_columns codes)

-- the bytes of the cards of a deck
pub glyph_lines : (deck : List Card) → All IsCard deck → lines_of Glyph (images_of deck) ≡ text_of deck
glyph_lines [] each = refl
glyph_lines (first ∷ deck) each =
    ap (λ (columns : List ℕ). (columns ++ 10 ∷ []) ++ lines_of Glyph (images_of deck)) (glyph_columns first.0 (All-head IsCard first deck each).1)
    ∙ ap (λ (rest : List ℕ). (map glyph_of first.0 ++ 10 ∷ []) ++ rest) (glyph_lines deck (All-tail IsCard first deck each))
    ∙ sym (text_on first deck)

pub digit_lines : (deck : List Card) → lines_of Digits (images_of deck) ≡ punch_file_of deck
digit_lines [] = refl
digit_lines (first ∷ deck) =
    ap (λ (columns : List ℕ). (columns ++ 10 ∷ []) ++ lines_of Digits (images_of deck)) (digit_columns first.0)
    ∙ append_assoc (flat_map digits_for first.0) (10 ∷ []) (lines_of Digits (images_of deck))
    ∙ ap (λ (rest : List ℕ). flat_map digits_for first.0 ++ 10 ∷ rest) (digit_lines deck)
    ∙ sym (file_on first deck)

pub bit_lines : (deck : List Card) → lines_of Bits (images_of deck) ≡ binary_of deck
bit_lines [] = refl
bit_lines (first ∷ deck) =
    ap (λ (columns : List ℕ). columns ++ lines_of Bits (images_of deck)) (append-nil (flat_map (column_of Bits) (map punches_of first.0)) ∙ bit_columns first.0)
    ∙ ap (λ (rest : List ℕ). flat_map column_bytes first.0 ++ rest) (bit_lines deck)

-- only the blank has no hole
hole_of : (code : ℕ) → code < 64 → (punches_of code == 0) ≡ (code == 0)
unfolding punches_of zone_of
hole_of code below =
    (elim (code == 0) as (λ b. (code == 0) ≡ b → (punches_of code == 0) ≡ (code == 0)) [
      | true ↦ λ is. let blank : code ≡ 0 = eqb-true code 0 is in rw blank refl
      | false ↦ λ other. rw other (ne_eqb (punches_of code) 0 (λ same. eqb-false code 0 other (punches_differ code 0 below (omega arith) same)))
    ]) refl

blank_same : (codes : List ℕ) → AreCharacters codes → are_blank (map punches_of codes) ≡ are_blank codes
blank_same [] each = refl
blank_same (code ∷ codes) each =
    rw (hole_of code (All-head IsNumber code codes each), blank_same codes (All-tail IsNumber code codes each)) refl

-- the columns that are filled have the punches of the characters that are
pub filled_same : (codes : List ℕ) → AreCharacters codes → filled (map punches_of codes) ≡ map punches_of (filled codes)
unfolding filled
filled_same [] each = refl
filled_same (code ∷ codes) each =
    let same : are_blank (punches_of code ∷ map punches_of codes) ≡ are_blank (code ∷ codes) = blank_same (code ∷ codes) each in
    (elim (are_blank (code ∷ codes)) as (λ b. are_blank (code ∷ codes) ≡ b → filled (map punches_of (code ∷ codes)) ≡ map punches_of (filled (code ∷ codes))) [
      | true ↦ λ blank. let none = same ∙ blank in rw (none, blank) refl
      | false ↦ λ other.
          let some = same ∙ other in
          rw (some, other) (ap (λ (rest : List ℕ). punches_of code ∷ rest) (filled_same codes (All-tail IsNumber code codes each)))
    ]) refl

signs_same : (codes : List ℕ) → AreCharacters codes → map sign_shown (map punches_of codes) ≡ map simh_sign codes
signs_same [] each = refl
signs_same (code ∷ codes) each =
    rw (sign_is code (All-head IsNumber code codes each), signs_same codes (All-tail IsNumber code codes each)) refl

simh_lines : (deck : List Card) → All IsCard deck → flat_map images.simh_line_of (images_of deck) ≡ simh_text_of deck
simh_lines [] each = refl
simh_lines (first ∷ deck) each =
    let is = (All-head IsCard first deck each).1 in
    ap (λ (columns : List ℕ). (map sign_shown columns ++ 10 ∷ []) ++ flat_map images.simh_line_of (images_of deck)) (filled_same first.0 is)
    ∙ ap (λ (signs : List ℕ). (signs ++ 10 ∷ []) ++ flat_map images.simh_line_of (images_of deck))
    (signs_same (filled first.0) (filled_characters IsNumber first.0 is))
    ∙ ap (λ (rest : List ℕ). (map simh_sign (filled first.0) ++ 10 ∷ []) ++ rest) (simh_lines deck (All-tail IsCard first deck each))

-- what is written of the images of a deck is what is written of the deck
pub written : (form : Form) (deck : List Card) → IsDeck deck → image_file_of form (images_of deck) ≡ forms.file_of form deck
written Text deck is = glyph_lines deck is.1
written Punch deck is = digit_lines deck
written Simh deck is = simh_lines deck is.1
written Binary deck is = bit_lines deck

-- each column of a deck may stand in each form
may_stand : (form : ColumnForm) (code : ℕ) → code < 64 → MayStand form (punches_of code)
may_stand Glyph code below = (twelve_rows code below, is_one code below)
may_stand Digits code below = twelve_rows code below
may_stand Bits code below = twelve_rows code below

image_is : (form : ColumnForm) (first : Card) → IsCard first → IsImageIn form (image_of first)
image_is form first is = (
  length-map first.0 punches_of ∙ is.0,
  All-map (MayStand form) punches_of first.0 (λ k d below. may_stand form _ (is.1 k d below)),
)

pub images_are : (form : ColumnForm) (deck : List Card) → All IsCard deck → All (IsImageIn form) (images_of deck)
images_are form deck each = All-map (IsImageIn form) image_of deck (λ k d below. image_is form _ (each k d below))

pub is_image : (first : Card) → IsCard first → IsImage (image_of first)
is_image first is = image_is Digits first is

pub are_images : (deck : List Card) → All IsCard deck → All IsImage (images_of deck)
are_images deck each = images_are Digits deck each

-- two decks with the same images are the same
pub same_deck : (first second : List Card) → IsDeck first → IsDeck second → images_of first ≡ images_of second → first ≡ second
same_deck first second is_first is_second same =
    deck_once _ first second is_first.1 is_second.1 (sym (digit_lines first) ∙ ap (lines_of Digits) same ∙ digit_lines second)

-- a file of a deck is one of its images
pub read_as : (form : Form) (bytes : List ℕ) (deck : List Card) → IsDeck deck → IsFileOf form bytes deck → IsImageFile form bytes (images_of deck)
read_as Text bytes deck is same = (images_are Glyph deck is.1, same ∙ sym (glyph_lines deck is.1))
read_as Punch bytes deck is same = (images_are Digits deck is.1, same ∙ sym (digit_lines deck))
read_as Simh bytes deck is same = (images_are Glyph deck is.1, same ∙ sym (glyph_lines deck is.1))
read_as Binary bytes deck is same = (images_are Bits deck is.1, same ∙ sym (bit_lines deck))

-- a place is none where each fails
position_none : {X : Type 0} (test : X → Bool) (xs : List X) (d : X) → All (λ x. test x ≡ false) xs → position test xs ≡ None
position_none test xs d fails =
    (elim (position test xs) as (λ place. position test xs ≡ place → position test xs ≡ None) [
      | None ↦ λ is. is
      | Some i ↦ λ is.
          let found = position-Some test xs i d is in
          let both : true ≡ false = sym found.1 ∙ fails i d found.0 in
          absurd (cc)
    ]) refl

character_fails : (code : ℕ) → code < 64 → not (is_character (punches_of code)) ≡ false
character_fails code below = rw (is_one code below) refl

column_fails : (first : Card) → IsCard first → is_some (odd_column (image_of first)) ≡ false
column_fails first is =
    let fails = All-map (λ pattern. not (is_character pattern) ≡ false) punches_of first.0 (λ k d below. character_fails _ (is.1 k d below)) in
    ap is_some (position_none (λ pattern. not (is_character pattern)) (map punches_of first.0) 0 fails)

pub deck_characters : (deck : List Card) → All IsCard deck → are_characters (images_of deck) ≡ true
deck_characters deck each =
    let fails = All-map (λ image. is_some (odd_column image) ≡ false) image_of deck (λ k d below. column_fails _ (each k d below)) in
    ap (λ (place : Option ℕ). not (is_some place)) (position_none (λ image. is_some (odd_column image)) (images_of deck) (record { 0 = [] }) fails)

pub deck_has_file : (form : Form) (deck : List Card) → IsDeck deck → has_file form (images_of deck) ≡ true
deck_has_file Text deck is = deck_characters deck is.1
deck_has_file Punch deck is = refl
deck_has_file Simh deck is = deck_characters deck is.1
deck_has_file Binary deck is = refl
