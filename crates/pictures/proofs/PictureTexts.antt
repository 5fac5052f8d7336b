-- what stands behind the tags of a card's picture
use Rattle.std.proofs.Common.{◌≡◌, ℕ, ◌==◌, true, false, List, [], ◌∷◌, ◌++◌, length, map, codes, refl, ap, ◌∙◌, append_assoc}
use Rattle.std.specs.Fmt.{digits}
use Rattle.card_forms.specs.declared.images.CardImage.{CardImage}
use Rattle.card_forms.specs.Signs.{filled}
use Rattle.pictures.specs.Cards.{marks, picture, places, print, stock, titled}
use Rattle.pictures.specs.Escapes.{card_glyphs, glyph_printed}
use Rattle.pictures.specs.Reading.{behind_tags, hole_tag, print_tag}
use Rattle.pictures.specs.declared.styles.TheConstants.{CARD_STYLE}
use Rattle.pictures.proofs.PiecesRead.{IsTagged, behind_both, between, has_none, in_neither, none_in_both, one_piece, tag_shown}
use Rattle.pictures.proofs.TextsRead.{none_in_escaped}

-- the two tags without their first byte
abbrev pub print_rest : List ℕ
print_rest = codes "ext class=\"print\" y=\"150\" x=\"" ++ places ++ codes "\" xml:space=\"preserve\">"

abbrev pub hole_rest : List ℕ
hole_rest = codes "ath class=\"hole\" d=\""

-- the stock has neither of them
print_in_stock : behind_tags print_tag stock ≡ []
unfolding digits stock places
print_in_stock = refl

hole_in_stock : behind_tags hole_tag stock ≡ []
unfolding digits stock places
hole_in_stock = refl

tagged_stock : IsTagged stock
unfolding stock
tagged_stock = refl

none_in_print_tag : has_none 60 print_tag ≡ true
unfolding digits places
none_in_print_tag = refl

pub tagged_marks : (card : CardImage) → IsTagged (marks card)
unfolding marks
tagged_marks card =
    (elim (length (filled card.0) == 0) as (λ t. (length (filled card.0) == 0) ≡ t → IsTagged (marks card)) [
      | true ↦ λ blank. rw blank tt
      | false ↦ λ other. rw other refl
    ]) refl

-- what stands before the marks of a card, tag by tag
abbrev opening : List ℕ
opening = codes "<svg xmlns=\"http://www.w3.org/2000/svg\" viewBox=\"0 0 7375 3250\" " ++ codes "width=\"7.375in\" height=\"3.25in\">"

abbrev title : CardImage → List ℕ
title card = codes "<title>" ++ card_glyphs card

abbrev style : List ℕ
style = (codes "</title><style>" ++ CARD_STYLE.now) ++ codes "</style>"

regroup : (t l s e : List ℕ) → ((t ++ l) ++ s) ++ e ≡ t ++ ((l ++ s) ++ e)
regroup t l s e = simp append_assoc

-- a tag that the opening, the title, the style and the stock have not stands behind the marks alone
behind_marks : (byte : ℕ) (tag : List ℕ) (card : CardImage) → behind_tags (byte ∷ tag) opening ≡ [] → behind_tags (byte ∷ tag) (title card) ≡ []
    → behind_tags (byte ∷ tag) style ≡ [] → behind_tags (byte ∷ tag) stock ≡ [] → behind_tags (byte ∷ tag) (codes "</svg>\n") ≡ []
    → behind_tags (byte ∷ tag) (picture card) ≡ behind_tags (byte ∷ tag) (marks card)
unfolding picture
behind_marks byte tag card no_opening no_title no_style no_stock no_end =
    let front : behind_tags (byte ∷ tag) (titled card) ≡ [] =
    ap (λ text. behind_tags (byte ∷ tag) (text ++ stock)) (regroup (title card) (codes "</title><style>") CARD_STYLE.now (codes "</style>"))
    ∙ in_neither byte tag (title card ++ style) stock tagged_stock (in_neither byte tag (title card) style refl no_title no_style) no_stock in
    between byte tag (opening ++ titled card) (marks card) (codes "</svg>\n") (tagged_marks card) refl
    (in_neither byte tag opening (titled card) refl no_opening front) no_end

title_alone : (card : CardImage) → has_none 60 (codes "title>" ++ card_glyphs card) ≡ true
title_alone card = none_in_escaped (map glyph_printed (filled card.0))

pub print_behind : (card : CardImage) → behind_tags print_tag (picture card) ≡ behind_tags print_tag (marks card)
print_behind card =
    behind_marks 116 print_rest card refl (rw (one_piece 60 (codes "title>" ++ card_glyphs card) (title_alone card)) refl) refl print_in_stock refl

pub hole_behind : (card : CardImage) → behind_tags hole_tag (picture card) ≡ behind_tags hole_tag (marks card)
hole_behind card =
    behind_marks 112 hole_rest card refl (rw (one_piece 60 (codes "title>" ++ card_glyphs card) (title_alone card)) refl) refl hole_in_stock refl

-- the print of a card behind its tag, and no hole there
pub print_shown : (card : CardImage) → behind_tags print_tag (print card) ≡ card_glyphs card ∷ []
print_shown card =
    behind_both 116 print_rest (60 ∷ (print_tag ++ card_glyphs card)) (codes "</text>") refl
    ∙ ap (λ texts. texts ++ []) (tag_shown 116 print_rest (card_glyphs card) none_in_print_tag (none_in_escaped (map glyph_printed (filled card.0))))

pub no_hole_in_print : (card : CardImage) → behind_tags hole_tag (print card) ≡ []
no_hole_in_print card =
    let alone = none_in_both 60 print_tag (card_glyphs card) none_in_print_tag (none_in_escaped (map glyph_printed (filled card.0))) in
    behind_both 112 hole_rest (60 ∷ (print_tag ++ card_glyphs card)) (codes "</text>") refl
    ∙ rw (one_piece 60 (print_tag ++ card_glyphs card) alone) refl
