-- what is shown of cards, one after the other
use Rattle.std.proofs.Common.{◌≡◌, ℕ, ◌+◌, ◌<◌, ◌≤◌, min, List, [], ◌∷◌, ◌++◌, length, length-drop, drop, take, get_or, is_some, if◌then◌else◌, true, false, refl, ap, sym, ◌∙◌, arith, append_assoc, append-nil}
use Rattle.std.proofs.lemmas.List.{drop_all, drop_more, flat_map_more, take_more}
use Rattle.std.specs.List.{flat_map}
use Rattle.cards.specs.declared.Card.{Card}
use Rattle.card_forms.specs.declared.images.CardImage.{CardImage}
use Rattle.card_tools.specs.Checking.{last_of, number_of, told_from, told_of}
use Rattle.card_tools.specs.Comparing.{differing_among, differing_of, only_from, shown_from, shown_of}
use Rattle.card_tools.specs.Lines.{numbered_card}
use Rattle.card_tools.specs.Listing.{card_rows, card_shown, listing_from, row_line}
use Rattle.card_tools.specs.Numbering.{number_columns}
use Rattle.card_tools.specs.declared.listing.ListOptions.{ListOptions}

-- what is left of a list begins with the element that is read
pub left_from : {X : Type 0} (xs : List X) (i : ℕ) (x : X) → i < length xs → x ≡ get_or xs i x
    → drop i xs ≡ x ∷ drop (i + 1) xs
left_from xs i x within read = drop_more xs i x within ∙ ap (λ first. first ∷ drop (i + 1) xs) (sym read)

-- where nothing is left all was done
pub all_done : {X Y : Type 0} (rest_of : List X → List Y) (xs : List X) (i : ℕ) (done whole : List Y) → length xs ≤ i
    → rest_of [] ≡ [] → done ++ rest_of (drop i xs) ≡ whole → done ≡ whole
all_done rest_of xs i done whole end none same =
    sym (append-nil done) ∙ ap (λ rest. done ++ rest) (sym none) ∙ ap (λ rest. done ++ rest_of rest) (sym (drop_all i xs end)) ∙ same

-- one card more of a listing
pub listed_on : (options : ListOptions) (number : ℕ) (card : CardImage) (rest all : List CardImage) (done : List ℕ) → all ≡ card ∷ rest
    → (done ++ card_shown options number card) ++ listing_from options (number + 1) rest ≡ done ++ listing_from options number all
unfolding listing_from
listed_on options number card rest all done first =
    rw first (append_assoc done (card_shown options number card) (listing_from options (number + 1) rest))

-- one card more of those that one deck alone has
pub only_on : (words : List ℕ) (number : ℕ) (card : CardImage) (rest all : List CardImage) (done : List ℕ) → all ≡ card ∷ rest
    → (((done ++ numbered_card number card) ++ words) ++ 10 ∷ []) ++ only_from words (number + 1) rest ≡ done ++ only_from words number all
unfolding only_from
only_on words number card rest all done first = rw first (simp append_assoc)

-- one card more of those that both decks have
pub both_on : (number : ℕ) (one two : CardImage) (first second left right : List CardImage) (done : List ℕ) → left ≡ one ∷ first → right ≡ two ∷ second
    → (done ++ shown_of number one two) ++ shown_from (number + 1) first second ≡ done ++ shown_from number left right
unfolding shown_from
both_on number one two first second left right done is_left is_right =
    rw (is_left, is_right) (append_assoc done (shown_of number one two) (shown_from (number + 1) first second))

pub differing_on : (one two : CardImage) (first second left right : List CardImage) (count : ℕ) → left ≡ one ∷ first → right ≡ two ∷ second
    → (count + differing_of one two) + differing_among first second ≡ count + differing_among left right
unfolding differing_among
differing_on one two first second left right count is_left is_right = rw (is_left, is_right) (omega arith)

-- where one deck ends no card is in both
none_both : (number : ℕ) (first second : List CardImage) → min (length first) (length second) ≡ 0 → shown_from number first second ≡ []
unfolding shown_from
none_both number [] second none = refl
none_both number (one ∷ first) [] none = refl
none_both number (one ∷ first) (two ∷ second) none = absurd (omega arith)

none_differ : (first second : List CardImage) → min (length first) (length second) ≡ 0 → differing_among first second ≡ 0
unfolding differing_among
none_differ [] second none = refl
none_differ (one ∷ first) [] none = refl
none_differ (one ∷ first) (two ∷ second) none = absurd (omega arith)

-- behind the shorter deck all that both have was done
pub both_done : (number : ℕ) (first second : List CardImage) (i : ℕ) (done whole : List ℕ) → min (length first) (length second) ≤ i
    → done ++ shown_from number (drop i first) (drop i second) ≡ whole → done ≡ whole
both_done number first second i done whole end same =
    let none = none_both number (drop i first) (drop i second) (omega (arith, length-drop i first, length-drop i second)) in
    sym (append-nil done) ∙ ap (λ rest. done ++ rest) (sym none) ∙ same

pub count_done : (first second : List CardImage) (i count whole : ℕ) → min (length first) (length second) ≤ i
    → count + differing_among (drop i first) (drop i second) ≡ whole → count ≡ whole
count_done first second i count whole end same =
    let none = none_differ (drop i first) (drop i second) (omega (arith, length-drop i first, length-drop i second)) in
    omega (arith, none, same)

-- the columns of the last card with a number are eight at most
pub last_short : (before columns : List ℕ) → length before ≤ 8 → length columns ≤ 8 → length (last_of before columns) ≤ 8
last_short before columns short eight =
    elim (is_some (number_of columns)) as (λ b. length (if b then columns else before) ≤ 8) [ true ↦ eight | false ↦ short ]

-- one row more of a card
pub row_on : (card : CardImage) (i : ℕ) (d : ℕ × ℕ) (start done : List ℕ) → i < 12
    → done ≡ start ++ flat_map (row_line card) (take i card_rows)
    → done ++ row_line card (get_or card_rows i d) ≡ start ++ flat_map (row_line card) (take (i + 1) card_rows)
row_on card i d start done within before =
    rw (before, take_more card_rows i d within) (flat_map_more (row_line card) start (take i card_rows) (get_or card_rows i d))

-- one card more that is told of
pub told_on : (before : List ℕ) (place : ℕ) (card : Card) (rest all : List Card) (done : List ℕ) → all ≡ card ∷ rest
    → (done ++ told_of before place (number_columns card)) ++ told_from (last_of before (number_columns card)) (place + 1) rest
    ≡ done ++ told_from before place all
unfolding told_from
told_on before place card rest all done first =
    rw first (append_assoc done (told_of before place (number_columns card)) (told_from (last_of before (number_columns card)) (place + 1) rest))
