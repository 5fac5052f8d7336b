-- what an image shows whose tags are those of a card's marks
use Rattle.std.proofs.Common.{◌≡◌, ℕ, ◌-◌, ◌==◌, true, false, List, [], ◌∷◌, ◌++◌, length, map, replicate, codes, refl, ap, sym, ◌∙◌, subst, arith, append-nil}
use Rattle.std.specs.List.{All, Contains, flat_map}
use Rattle.std.proofs.lemmas.List.{nil_from_length}
use Rattle.card_forms.specs.Images.{IsImage}
use Rattle.card_forms.specs.declared.images.CardImage.{CardImage}
use Rattle.card_forms.specs.Signs.{filled}
use Rattle.card_forms.proofs.FilledColumns.{filled_back}
use Rattle.pictures.specs.Cards.{holes_drawn, holes_from, holes_path, marks, print}
use Rattle.pictures.specs.Escapes.{card_glyphs, glyph_printed}
use Rattle.pictures.specs.Places.{corner}
use Rattle.pictures.specs.Reading.{HasThePrint, HasThePunches, behind_tags, corners_in, corners_read, hole_tag, print_read, print_tag, unescaped}
use Rattle.pictures.proofs.HolesLaw.{are_holes, by_card, given, given_only, holes_are, of_card}
use Rattle.pictures.proofs.HolesRead.{IsSmall, by_corners, corners_of_path, none_in_blanks, no_tag_in_outlines, small_from}
use Rattle.pictures.proofs.PictureTexts.{hole_rest, no_hole_in_print, print_rest, print_shown}
use Rattle.pictures.proofs.PiecesRead.{behind_both, has_none, none_in_both, one_piece, tag_shown}
use Rattle.pictures.proofs.TextsRead.{text_read}

-- a card that is blank, and one that is not
blank_marks : (card : CardImage) → (length (filled card.0) == 0) ≡ true → marks card ≡ []
unfolding marks
blank_marks card blank = rw blank refl

other_marks : (card : CardImage) → (length (filled card.0) == 0) ≡ false → marks card ≡ holes_drawn card ++ print card
unfolding marks
other_marks card other = rw other refl

-- the corners of the holes of a card
abbrev pub corners_of : CardImage → List (ℕ × ℕ)
corners_of card = map corner (holes_from 1 card.0)

pub near : (card : CardImage) → IsImage card → All IsSmall (corners_of card)
near card is_card = small_from 1 card.0 (omega (arith, is_card.0))

-- what stands in the path of the holes
none_in_path : (card : CardImage) → IsImage card → has_none 60 (holes_path card ++ codes "\"/>") ≡ true
none_in_path card is_card =
    none_in_both 60 (holes_path card) (codes "\"/>") (ap (has_none 60) (by_corners (holes_from 1 card.0)) ∙ no_tag_in_outlines (corners_of card) (near card is_card)) refl

holes_shown : (card : CardImage) → IsImage card → behind_tags hole_tag (holes_drawn card) ≡ (holes_path card ++ codes "\"/>") ∷ []
holes_shown card is_card = tag_shown 112 hole_rest (holes_path card ++ codes "\"/>") refl (none_in_path card is_card)

no_print_in_holes : (card : CardImage) → IsImage card → behind_tags print_tag (holes_drawn card) ≡ []
no_print_in_holes card is_card =
    let alone = none_in_both 60 hole_tag (holes_path card ++ codes "\"/>") refl (none_in_path card is_card) in
    rw (one_piece 60 (hole_tag ++ (holes_path card ++ codes "\"/>")) alone) refl

-- the corners in an image with the tags of a card's marks are those of the card's holes
corners_back : (image : List ℕ) (card : CardImage) → IsImage card → behind_tags hole_tag image ≡ behind_tags hole_tag (marks card) → corners_read image ≡ corners_of card
unfolding corners_read
corners_back image card is_card tags =
    (elim (length (filled card.0) == 0) as (λ t. (length (filled card.0) == 0) ≡ t → flat_map corners_in (behind_tags hole_tag image) ≡ corners_of card) [
      | true ↦ λ blank.
          let none : filled card.0 ≡ [] = nil_from_length (filled card.0) (grind (arith, blank)) in
          let columns : replicate (length card.0 - 0) 0 ≡ card.0 = rw none at (filled_back card.0) in
          ap (flat_map corners_in) (tags ∙ ap (behind_tags hole_tag) (blank_marks card blank))
          ∙ ap (map corner) (sym (none_in_blanks 1 (length card.0 - 0)) ∙ ap (holes_from 1) columns)
      | false ↦ λ other.
          let path : behind_tags hole_tag (holes_drawn card) ++ behind_tags hole_tag (print card) ≡ (holes_path card ++ codes "\"/>") ∷ [] = rw (holes_shown card is_card, no_hole_in_print card) refl in
          ap (flat_map corners_in) (tags ∙ ap (behind_tags hole_tag) (other_marks card other)
          ∙ behind_both 112 hole_rest (holes_drawn card) (print card) refl ∙ path)
          ∙ append-nil (corners_in (holes_path card ++ codes "\"/>"))
          ∙ ap (λ path. corners_in (path ++ codes "\"/>")) (by_corners (holes_from 1 card.0))
          ∙ corners_of_path (corners_of card) (codes "\"/>") (near card is_card) refl
    ]) refl

-- such an image has just the holes of the card's punches
pub punches_shown : (image : List ℕ) (card : CardImage) → IsImage card → behind_tags hole_tag image ≡ behind_tags hole_tag (marks card) → HasThePunches image card
punches_shown image card is_card tags place =
    let back = corners_back image card is_card tags in (
      λ has.
          let within : Contains (corners_of card) place = subst (λ (list : List (ℕ × ℕ)). Contains list place) back has in
          let found = given_only corner (holes_from 1 card.0) place within in
          let hole = found.0 in
          (hole.0, hole.1, found.2, of_card card hole.0 hole.1 is_card (holes_are 1 card.0 hole found.1)),
      λ punched.
          let column = punched.0 in
          let number = punched.1 in
          let within = given corner (holes_from 1 card.0) (column, number) (are_holes 1 card.0 column number (by_card card column number is_card punched.3)) in
          subst (λ (list : List (ℕ × ℕ)). Contains list place) (sym back) (rw punched.2 within),
    )

-- and its print is the glyphs of the card
pub print_back : (image : List ℕ) (card : CardImage) → IsImage card → behind_tags print_tag image ≡ behind_tags print_tag (marks card) → HasThePrint image card
unfolding print_read
print_back image card is_card tags =
    (elim (length (filled card.0) == 0) as (λ t. (length (filled card.0) == 0) ≡ t → flat_map (λ (text : List ℕ). text) (map unescaped (behind_tags print_tag image)) ≡ map glyph_printed (filled card.0)) [
      | true ↦ λ blank.
          let none : filled card.0 ≡ [] = nil_from_length (filled card.0) (grind (arith, blank)) in
          ap (λ texts. flat_map (λ (text : List ℕ). text) (map unescaped texts)) (tags ∙ ap (behind_tags print_tag) (blank_marks card blank))
          ∙ ap (map glyph_printed) (sym none)
      | false ↦ λ other.
          let glyphs : behind_tags print_tag (holes_drawn card) ++ behind_tags print_tag (print card) ≡ card_glyphs card ∷ [] = rw (no_print_in_holes card is_card, print_shown card) refl in
          ap (λ texts. flat_map (λ (text : List ℕ). text) (map unescaped texts)) (tags ∙ ap (behind_tags print_tag) (other_marks card other)
          ∙ behind_both 116 print_rest (holes_drawn card) (print card) refl ∙ glyphs)
          ∙ append-nil (unescaped (card_glyphs card))
          ∙ text_read (map glyph_printed (filled card.0))
    ]) refl
