-- decks of which no card differs
use Rattle.std.proofs.Common.{◌≡◌, ℕ, ◌↔◌, true, List, [], ◌∷◌, length, refl, ap, sym, ◌∙◌, arith, eq-eqb}
use Rattle.std.specs.List.{All}
use Rattle.std.proofs.lemmas.List.Elements.{All-head, All-tail}
use Rattle.cards.specs.Decks.{IsDeck}
use Rattle.cards.specs.declared.Card.{Card}
use Rattle.card_forms.proofs.ImageDecks.{are_images, same_deck}
use Rattle.card_forms.specs.Images.{IsImage, images_of}
use Rattle.card_forms.specs.Signs.{are_blank}
use Rattle.card_forms.specs.declared.images.CardImage.{CardImage}
use Rattle.card_tools.specs.Comparing.{differing, differing_among, differing_of, marks_of}

-- columns without a mark are the same
unmarked : (one two : List ℕ) → length one ≡ length two → are_blank (marks_of one two) ≡ true → one ≡ two
unfolding marks_of
unmarked [] [] long blank = refl
unmarked [] (d ∷ two) long blank = absurd (omega arith)
unmarked (c ∷ one) [] long blank = absurd (omega arith)
unmarked (c ∷ one) (d ∷ two) long blank =
    let first : c ≡ d = grind (arith, blank) in
    let others : are_blank (marks_of one two) ≡ true = grind (arith, blank) in
    rw (first, unmarked one two (omega arith) others) refl

-- the same columns have no mark
marks_none : (codes : List ℕ) → are_blank (marks_of codes codes) ≡ true
unfolding marks_of
marks_none [] = refl
marks_none (code ∷ codes) = rw (eq-eqb code code refl, marks_none codes) refl

same_card : (one two : CardImage) → IsImage one → IsImage two → differing_of one two ≡ 0 → one ≡ two
same_card one two is_one is_two none =
    let blank : are_blank (marks_of one.0 two.0) ≡ true = grind (arith, none) in
    ap (λ (columns : List ℕ). let image : CardImage = record { 0 = columns } in image)
    (unmarked one.0 two.0 (is_one.0 ∙ sym is_two.0) blank)

same_cards : (first second : List CardImage) → All IsImage first → All IsImage second → length first ≡ length second
    → differing_among first second ≡ 0 → first ≡ second
unfolding differing_among
same_cards [] [] each every long none = refl
same_cards [] (two ∷ second) each every long none = absurd (omega arith)
same_cards (one ∷ first) [] each every long none = absurd (omega arith)
same_cards (one ∷ first) (two ∷ second) each every long none =
    let head = same_card one two (All-head IsImage one first each) (All-head IsImage two second every) (omega (arith, none)) in
    let rest = same_cards first second (All-tail IsImage one first each) (All-tail IsImage two second every) (omega arith) (omega (arith, none)) in
    rw (head, rest) refl

none_among : (deck : List CardImage) → differing_among deck deck ≡ 0
unfolding differing_among
none_among [] = refl
none_among (card ∷ deck) = rw (marks_none card.0, none_among deck) refl

pub same_images : (first second : List CardImage) → All IsImage first → All IsImage second → (differing first second ≡ 0) ↔ (first ≡ second)
same_images first second is_first is_second = (
  λ none. same_cards first second is_first is_second (omega (arith, none)) (omega (arith, none)),
  λ same. rw (← same) (omega (arith, none_among first)),
)

pub same_decks : (first second : List Card) → IsDeck first → IsDeck second
    → (differing (images_of first) (images_of second) ≡ 0) ↔ (first ≡ second)
same_decks first second is_first is_second =
    let both = same_images (images_of first) (images_of second) (are_images first is_first.1) (are_images second is_second.1) in (
      λ none. same_deck first second is_first is_second (both.0 none),
      λ same. both.1 (ap images_of same),
    )
