-- what a column of a card begins with, and what a loop over the columns keeps
use Rattle.std.proofs.Common.{◌≡◌, ◌≢◌, ℕ, ◌+◌, ◌*◌, ◌/◌, ◌%◌, ◌<◌, ◌≤◌, true, List, [], ◌∷◌, ◌++◌, length, take, set, refl, ap, sym, ◌∙◌, arith, inl, inr, append_assoc, append-nil}
use Rattle.std.specs.List.{All, flat_map}
use Rattle.std.proofs.lemmas.Bool.{ltb-true}
use Rattle.std.proofs.lemmas.List.{length-append, length-take-le, take_all, take_more_set}
use Rattle.std.proofs.lemmas.List.Concat.{flat_map-append}
use Rattle.std.proofs.lemmas.List.Elements.{All-push}
use Rattle.bcd.specs.Table.{glyph_of, punches_of}
use Rattle.cards.proofs.FormColumns.{hexadecimal_differ, twelve_rows}
use Rattle.cards.specs.Faults.{IsNoDigit}
use Rattle.cards.specs.Files.{BeginsWithDigit, hexadecimal}
use Rattle.card_forms.proofs.ImageCharacters.{glyph_is, glyph_of_character, is_one}
use Rattle.card_forms.specs.ImageFaults.{IsCardFault, IsNoColumn, IsNoEnd, column_wrong}
use Rattle.card_forms.specs.ImageFiles.{BeginsWithColumn, IsImageIn, MayStand, column_of, end_of, line_of, lines_of}
use Rattle.card_forms.specs.Images.{IsImage, character_of, is_character}
use Rattle.card_forms.specs.declared.columns.ColumnForm.{ColumnForm}
use Rattle.card_forms.specs.declared.columns.ColumnForm.TheVariants.{Glyph, Digits, Bits}
use Rattle.card_forms.specs.declared.faults.FormError.{FormError}
use Rattle.card_forms.specs.declared.faults.FormError.TheVariants.{Length}
use Rattle.card_forms.specs.declared.images.CardImage.{CardImage}

-- a glyph that is a character's, and one that is none's
pub glyph_begins : (bytes rest : List ℕ) (glyph code : ℕ) → bytes ≡ glyph ∷ rest → code < 64 → glyph_of code ≡ glyph
    → BeginsWithColumn Glyph bytes (punches_of code) rest
unfolding column_of
glyph_begins bytes rest glyph code first below is = (
  (twelve_rows code below, is_one code below),
  rw (glyph_is code below, is) first,
)

pub no_glyph : (bytes rest : List ℕ) (glyph : ℕ) → bytes ≡ glyph ∷ rest → ((code : ℕ) → code < 64 → glyph_of code ≢ glyph)
    → IsNoColumn Glyph bytes
unfolding column_of
no_glyph bytes rest glyph first none pattern behind stands same =
    let shown = glyph_of_character pattern stands.1 in
    none (character_of pattern) (ltb-true (character_of pattern) 64 stands.1) (cc)

-- where nothing is no column begins
pub nothing_begins : (form : ColumnForm) → IsNoColumn form []
unfolding column_of
nothing_begins Glyph pattern rest stands same = absurd (cc)
nothing_begins Digits pattern rest stands same = absurd (cc)
nothing_begins Bits pattern rest stands same = absurd (cc)

-- three digits that are a pattern, or of which one is none
pub digits_begin : (bytes more last rest : List ℕ) (h m l : ℕ) → BeginsWithDigit bytes h more → BeginsWithDigit more m last
    → BeginsWithDigit last l rest → BeginsWithColumn Digits bytes (h * 256 + m * 16 + l) rest
unfolding column_of
digits_begin bytes more last rest h m l high middle low =
    let begins = high.1 in
    let goes_on = middle.1 in
    let ends = low.1 in
    let first : (h * 256 + m * 16 + l) / 256 % 16 ≡ h = omega (arith, high.0, middle.0, low.0) in
    let second : (h * 256 + m * 16 + l) / 16 % 16 ≡ m = omega (arith, high.0, middle.0, low.0) in
    let third : (h * 256 + m * 16 + l) % 16 ≡ l = omega (arith, high.0, middle.0, low.0) in
    (omega (arith, high.0, middle.0, low.0), cc)

pub first_wrong : (bytes : List ℕ) → IsNoDigit bytes → IsNoColumn Digits bytes
unfolding column_of
first_wrong bytes none pattern rest stands same = none (pattern / 256 % 16) _ (omega arith) same

pub second_wrong : (bytes more : List ℕ) (h : ℕ) → BeginsWithDigit bytes h more → IsNoDigit more → IsNoColumn Digits bytes
unfolding column_of
second_wrong bytes more h high none pattern rest stands same =
    let begins = high.1 in
    none (pattern / 16 % 16) (hexadecimal (pattern % 16) ∷ rest) (omega arith) (cc)

pub third_wrong : (bytes more last : List ℕ) (h m : ℕ) → BeginsWithDigit bytes h more → BeginsWithDigit more m last
    → IsNoDigit last → IsNoColumn Digits bytes
unfolding column_of
third_wrong bytes more last h m high middle none pattern rest stands same =
    let begins = high.1 in
    let goes_on = middle.1 in
    none (pattern % 16) rest (omega arith) (cc)

-- two bytes of six rows, or of which one has a high bit
pub bits_begin : (bytes rest : List ℕ) (upper lower : ℕ) → bytes ≡ upper ∷ lower ∷ rest → upper < 64 → lower < 64
    → BeginsWithColumn Bits bytes (64 * upper + lower) rest
unfolding column_of
bits_begin bytes rest upper lower first high low =
    let above : (64 * upper + lower) / 64 % 64 ≡ upper = omega (arith, high, low) in
    let below : (64 * upper + lower) % 64 ≡ lower = omega (arith, high, low) in
    (omega (arith, high, low), cc)

pub upper_wrong : (bytes rest : List ℕ) (upper lower : ℕ) → bytes ≡ upper ∷ lower ∷ rest → 64 ≤ upper → IsNoColumn Bits bytes
unfolding column_of
upper_wrong bytes rest upper lower first high pattern behind stands same =
    let is : upper ≡ pattern / 64 % 64 = cc in
    omega (arith, high, is)

pub lower_wrong : (bytes rest : List ℕ) (upper lower : ℕ) → bytes ≡ upper ∷ lower ∷ rest → 64 ≤ lower → IsNoColumn Bits bytes
unfolding column_of
lower_wrong bytes rest upper lower first high pattern behind stands same =
    let is : lower ≡ pattern % 64 = cc in
    omega (arith, high, is)

pub half_wrong : (bytes : List ℕ) → length bytes ≤ 1 → IsNoColumn Bits bytes
unfolding column_of
half_wrong [] short pattern behind stands same = absurd (cc)
half_wrong (half ∷ []) short pattern behind stands same = absurd (cc)
half_wrong (upper ∷ lower ∷ rest) short pattern behind stands same = absurd (omega arith)

-- a pattern of a column has twelve rows
pub twelve : (form : ColumnForm) (pattern : ℕ) → MayStand form pattern → pattern < 4096
twelve Glyph pattern stands = stands.0
twelve Digits pattern stands = stands
twelve Bits pattern stands = stands

pub image_in : (form : ColumnForm) (image : CardImage) → IsImageIn form image → IsImage image
image_in form image is = (is.0, λ k d below. twelve form _ (is.1 k d below))

-- one column more
pub each_more : (form : ColumnForm) (columns : List ℕ) (i pattern : ℕ) → i < length columns → All (MayStand form) (take i columns)
    → MayStand form pattern → All (MayStand form) (take (i + 1) (set columns i pattern))
each_more form columns i pattern within each stands =
    rw (take_more_set columns i pattern within) (All-push (MayStand form) (take i columns) pattern each stands)

pub columns_more : (form : ColumnForm) (bytes rest behind columns : List ℕ) (i pattern : ℕ) → i < length columns
    → bytes ≡ flat_map (column_of form) (take i columns) ++ rest → rest ≡ column_of form pattern ++ behind
    → bytes ≡ flat_map (column_of form) (take (i + 1) (set columns i pattern)) ++ behind
columns_more form bytes rest behind columns i pattern within before column =
    rw (take_more_set columns i pattern within, flat_map-append (column_of form) (take i columns) (pattern ∷ []), append-nil, append_assoc, ← column) before

-- the columns up to the one that is none
pub wrong_column : (form : ColumnForm) (bytes rest columns : List ℕ) (i : ℕ) (error : FormError) → length columns ≡ 80 → i < 80
    → All (MayStand form) (take i columns) → bytes ≡ flat_map (column_of form) (take i columns) ++ rest
    → IsNoColumn form rest → error ≡ column_wrong form rest → IsCardFault form bytes (i + 1) error
wrong_column form bytes rest columns i error width within each before none is =
    let place : length (take i columns) ≡ i = length-take-le i columns (omega arith) in
    record {
      columns = take i columns;
      rest = rest;
      each = each;
      before = before;
      place = ap (λ n. n + 1) (sym place);
      wrong = rw place (inl (within, none, is));
    }

-- all eighty, and not the end of the card behind them
pub no_end : (form : ColumnForm) (bytes rest columns : List ℕ) (i : ℕ) → length columns ≡ 80 → 80 ≤ i
    → All (MayStand form) (take i columns) → bytes ≡ flat_map (column_of form) (take i columns) ++ rest → IsNoEnd form rest
    → IsCardFault form bytes 81 Length
no_end form bytes rest columns i width end each before none =
    let all : take i columns ≡ columns = take_all i columns (omega arith) in
    record {
      columns = columns;
      rest = rest;
      each = rw all at each;
      before = rw all at before;
      place = rw width refl;
      wrong = inr (width, none, refl);
    }

-- all eighty, and the end of the card
pub whole_card : (form : ColumnForm) (bytes rest behind columns : List ℕ) (i : ℕ) → length columns ≡ 80 → 80 ≤ i
    → All (MayStand form) (take i columns) → bytes ≡ flat_map (column_of form) (take i columns) ++ rest → rest ≡ end_of form ++ behind
    → IsImageIn form (record { 0 = columns }) × (bytes ≡ line_of form (record { 0 = columns }) ++ behind)
whole_card form bytes rest behind columns i width end each before ends =
    let all : take i columns ≡ columns = take_all i columns (omega arith) in
    ((width, rw all at each), rw (append_assoc, ← ends) (rw all at before))

-- no card is without bytes
columns_long : (form : ColumnForm) (columns : List ℕ) → length columns ≤ length (flat_map (column_of form) columns)
unfolding column_of
columns_long form [] = omega arith
columns_long Glyph (pattern ∷ columns) = omega (arith, columns_long Glyph columns)
columns_long Digits (pattern ∷ columns) = omega (arith, columns_long Digits columns)
columns_long Bits (pattern ∷ columns) = omega (arith, columns_long Bits columns)

pub line_long : (form : ColumnForm) (image : CardImage) → IsImageIn form image → 80 ≤ length (line_of form image)
line_long form image is =
    omega (arith, is.0, columns_long form image.0, length-append (flat_map (column_of form) image.0) (end_of form))

-- a card is shorter than the bytes that begin with it
pub card_shorter : (form : ColumnForm) (bytes behind : List ℕ) (image : CardImage) → IsImageIn form image
    → bytes ≡ line_of form image ++ behind → length behind < length bytes
card_shorter form bytes behind image is line =
    omega (arith, ap length line, length-append (line_of form image) behind, line_long form image is)

-- one card more
pub cards_more : (form : ColumnForm) (bytes rest behind : List ℕ) (images : List CardImage) (image : CardImage)
    → bytes ≡ lines_of form images ++ rest → rest ≡ line_of form image ++ behind
    → bytes ≡ lines_of form (images ++ image ∷ []) ++ behind
cards_more form bytes rest behind images image before line =
    let more : lines_of form (images ++ image ∷ []) ≡ lines_of form images ++ line_of form image =
    flat_map-append (line_of form) images (image ∷ []) ∙ ap (λ (last : List ℕ). lines_of form images ++ last) (append-nil (line_of form image)) in
    before ∙ ap (λ (rest : List ℕ). lines_of form images ++ rest) line
    ∙ sym (append_assoc (lines_of form images) (line_of form image) behind)
    ∙ ap (λ (front : List ℕ). front ++ behind) (sym more)
