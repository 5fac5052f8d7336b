-- the digits of a punch file that was written are capitals
use Rattle.std.proofs.Common.{◌≡◌, ◌∙◌, ◌==◌, ◌<◌, ◌/◌, ◌%◌, ℕ, List, [], ◌∷◌, ◌++◌, refl, ap, sym, arith}
use Rattle.std.proofs.lemmas.Bool.{eqb-true}
use Rattle.std.proofs.lemmas.List.{map-append}
use Rattle.std.specs.List.{flat_map}
use Rattle.bcd.proofs.Tables.{at_each}
use Rattle.cards.specs.Files.{hexadecimal, punch_file_of}
use Rattle.cards.specs.declared.Card.{Card}
use Rattle.card_forms.proofs.ImageDecks.{digit_lines}
use Rattle.card_forms.specs.ImageFiles.{column_of, line_of, lines_of}
use Rattle.card_forms.specs.Images.{images_of}
use Rattle.card_forms.specs.PunchFiles.{capital_digit, in_capitals}
use Rattle.card_forms.specs.declared.columns.ColumnForm.TheVariants.{Digits}
use Rattle.card_forms.specs.declared.images.CardImage.{CardImage}

-- a digit that is written is a capital
digit_stays : (number : ℕ) → number < 16 → capital_digit (hexadecimal number) ≡ hexadecimal number
digit_stays number below =
    eqb-true (capital_digit (hexadecimal number)) (hexadecimal number)
    (at_each (λ k. capital_digit (hexadecimal k) == hexadecimal k) 16 refl number below)

-- three bytes and what is behind them
all_same : (a b c x y z : ℕ) (r s : List ℕ) → a ≡ x → b ≡ y → c ≡ z → r ≡ s
    → a ∷ b ∷ c ∷ r ≡ x ∷ y ∷ z ∷ s
all_same a b c x y z r s first second third behind = cc

-- the digits of columns, before other bytes
columns_stay : (columns rest : List ℕ)
    → in_capitals (flat_map (column_of Digits) columns ++ rest) ≡ flat_map (column_of Digits) columns ++ in_capitals rest
unfolding in_capitals column_of
columns_stay [] rest = refl
columns_stay (pattern ∷ columns) rest =
    all_same _ _ _ _ _ _ _ _ (digit_stays (pattern / 256 % 16) (omega arith))
    (digit_stays (pattern / 16 % 16) (omega arith)) (digit_stays (pattern % 16) (omega arith))
    (columns_stay columns rest)

line_stays : (image : CardImage) → in_capitals (line_of Digits image) ≡ line_of Digits image
unfolding in_capitals
line_stays image = columns_stay image.0 (10 ∷ [])

-- the punch file of images has no small digit, and so that of a deck
pub images_stay : (images : List CardImage) → in_capitals (lines_of Digits images) ≡ lines_of Digits images
unfolding in_capitals
images_stay [] = refl
images_stay (image ∷ images) =
    map-append capital_digit (line_of Digits image) (lines_of Digits images)
    ∙ ap (λ (front : List ℕ). front ++ in_capitals (lines_of Digits images)) (line_stays image)
    ∙ ap (λ (rest : List ℕ). line_of Digits image ++ rest) (images_stay images)

pub file_stays : (deck : List Card) → in_capitals (punch_file_of deck) ≡ punch_file_of deck
file_stays deck = ap in_capitals (sym (digit_lines deck)) ∙ images_stay (images_of deck) ∙ digit_lines deck
