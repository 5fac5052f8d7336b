-- the figures on the page of a deck show its cards
use Rattle.std.proofs.Common.{◌≡◌, ℕ, ◌+◌, ◌<◌, ◌==◌, ◌^◌, Bool, true, false, not, nat_eq, List, [], ◌∷◌, ◌++◌, length, map, filter, decimal, codes, refl, ap, sym, ◌∙◌, subst, arith, append_assoc}
use Rattle.std.specs.Fmt.{digits}
use Rattle.std.specs.List.{All, AllZip, starts_with}
use Rattle.std.proofs.lemmas.Bool.{ltb-true}
use Rattle.std.proofs.lemmas.List.Elements.{All-head, All-tail}
use Rattle.bcd.specs.Table.{glyph_of}
use Rattle.bcd.proofs.Tables.{at_each}
use Rattle.card_forms.specs.declared.images.CardImage.{CardImage}
use Rattle.card_forms.specs.Signs.{filled}
use Rattle.card_forms.specs.Images.{IsImage, character_of, is_character}
use Rattle.pictures.specs.Cards.{holes_drawn, holes_from, holes_path, marks, places, print, stock}
use Rattle.pictures.specs.Decks.{captioned, deck_head, deck_page_of, figure, figures_from, stock_definition, titled_by_number}
use Rattle.pictures.specs.Escapes.{card_glyphs, escape_of, escaped, glyph_printed}
use Rattle.pictures.specs.Heads.{titled}
use Rattle.pictures.specs.Reading.{Shows, behind_tags, figures_read, pieces, print_tag}
use Rattle.pictures.specs.declared.styles.TheConstants.{CARD_STYLE, DECK_STYLE, FIGURE_STYLE}
use Rattle.pictures.proofs.HolesRead.{by_corners, no_feed_in_outlines}
use Rattle.pictures.proofs.MarksRead.{corners_of, near, print_back, punches_shown}
use Rattle.pictures.proofs.PictureTexts.{hole_rest, print_rest, tagged_marks}
use Rattle.pictures.proofs.PiecesRead.{between, has_none, in_neither, none_in_both, none_in_decimal, one_piece, pieces_both}
use Rattle.pictures.proofs.TextsRead.{none_in_escaped}
use Rattle.pictures.proofs.TitlesRead.{plain_title}

-- the line of a figure, without its line feed
abbrev opening : List ℕ
opening = codes "<figure><svg xmlns=\"http://www.w3.org/2000/svg\" viewBox=\"0 0 7375 3250\">"

abbrev front : ℕ → CardImage → List ℕ
front number card = (opening ++ titled_by_number number card) ++ codes "<use href=\"#stock\"/>"

abbrev back : ℕ → List ℕ
back number = (codes "</svg>" ++ captioned number) ++ codes "</figure>"

abbrev line_of : ℕ → CardImage → List ℕ
line_of number card = (front number card ++ marks card) ++ back number

grouped : (m v c e last : List ℕ) → ((m ++ v) ++ c) ++ (e ++ last) ≡ (m ++ ((v ++ c) ++ e)) ++ last
grouped m v c e last = simp append_assoc

figure_is : (number : ℕ) (card : CardImage) → figure number card ≡ line_of number card ++ 10 ∷ []
unfolding figure
figure_is number card = grouped (front number card ++ marks card) (codes "</svg>") (captioned number) (codes "</figure>") (10 ∷ [])

-- digits are no other bytes
no_tag : (d : ℕ) → d < 10 → not (48 + d == 60) ≡ true
no_tag d small = grind (arith, small)

no_feed : (d : ℕ) → d < 10 → not (48 + d == 10) ≡ true
no_feed d small = grind (arith, small)

-- ---- the tags of a figure are those of the card's marks

-- a tag that no other part of a figure has
record IsOther (byte : ℕ) (tag : List ℕ) : Type 0 where
  in_opening : behind_tags (byte ∷ tag) opening ≡ []
  in_title : (text : List ℕ) → has_none 60 text ≡ true → behind_tags (byte ∷ tag) (codes "<title>card " ++ text) ≡ []
  in_title_end : behind_tags (byte ∷ tag) (codes "</title>") ≡ []
  in_use : behind_tags (byte ∷ tag) (codes "<use href=\"#stock\"/>") ≡ []
  in_end : behind_tags (byte ∷ tag) (codes "</svg>") ≡ []
  in_caption : (text : List ℕ) → has_none 60 text ≡ true → behind_tags (byte ∷ tag) (codes "<figcaption>" ++ text) ≡ []
  in_last : behind_tags (byte ∷ tag) (codes "</figcaption></figure>") ≡ []

title_shown : (byte : ℕ) (tag : List ℕ) (number : ℕ) (card : CardImage) → IsOther byte tag → number < 2 ^ 64 → behind_tags (byte ∷ tag) (titled_by_number number card) ≡ []
title_shown byte tag number card other small =
    let text = decimal number ++ (codes ": " ++ card_glyphs card) in
    let none = none_in_both 60 (decimal number) (codes ": " ++ card_glyphs card) (none_in_decimal 60 no_tag number small) (none_in_escaped (map glyph_printed (filled card.0))) in
    let parted : titled_by_number number card ≡ (codes "<title>card " ++ text) ++ codes "</title>" = simp append_assoc in
    ap (behind_tags (byte ∷ tag)) parted
    ∙ in_neither byte tag (codes "<title>card " ++ text) (codes "</title>") refl (other.in_title text none) other.in_title_end

back_shown : (byte : ℕ) (tag : List ℕ) (number : ℕ) → IsOther byte tag → number < 2 ^ 64 → behind_tags (byte ∷ tag) (back number) ≡ []
back_shown byte tag number other small =
    let caption = codes "<figcaption>" ++ decimal number in
    let parted : back number ≡ codes "</svg>" ++ (caption ++ codes "</figcaption></figure>") = simp append_assoc in
    ap (behind_tags (byte ∷ tag)) parted
    ∙ in_neither byte tag (codes "</svg>") (caption ++ codes "</figcaption></figure>") refl other.in_end
    (in_neither byte tag caption (codes "</figcaption></figure>") refl (other.in_caption (decimal number) (none_in_decimal 60 no_tag number small)) other.in_last)

line_shown : (byte : ℕ) (tag : List ℕ) (number : ℕ) (card : CardImage) → IsOther byte tag → number < 2 ^ 64
    → behind_tags (byte ∷ tag) (line_of number card) ≡ behind_tags (byte ∷ tag) (marks card)
line_shown byte tag number card other small =
    between byte tag (front number card) (marks card) (back number) (tagged_marks card) refl
    (in_neither byte tag (opening ++ titled_by_number number card) (codes "<use href=\"#stock\"/>") refl
    (in_neither byte tag opening (titled_by_number number card) refl other.in_opening (title_shown byte tag number card other small)) other.in_use)
    (back_shown byte tag number other small)

print_other : IsOther 116 print_rest
print_other = record {
  in_opening = refl;
  in_title = λ text none. rw (one_piece 60 (codes "title>card " ++ text) none) refl;
  in_title_end = refl;
  in_use = refl;
  in_end = refl;
  in_caption = λ text none. rw (one_piece 60 (codes "figcaption>" ++ text) none) refl;
  in_last = refl;
}

hole_other : IsOther 112 hole_rest
hole_other = record {
  in_opening = refl;
  in_title = λ text none. rw (one_piece 60 (codes "title>card " ++ text) none) refl;
  in_title_end = refl;
  in_use = refl;
  in_end = refl;
  in_caption = λ text none. rw (one_piece 60 (codes "figcaption>" ++ text) none) refl;
  in_last = refl;
}

line_shows : (number : ℕ) (card : CardImage) → IsImage card → number < 2 ^ 64 → Shows (line_of number card) card
line_shows number card is_card small = (
  punches_shown (line_of number card) card is_card (line_shown 112 hole_rest number card hole_other small),
  print_back (line_of number card) card is_card (line_shown 116 print_rest number card print_other small),
)

-- ---- a figure is one line

plain_glyph : (code : ℕ) → code < 64 → has_none 10 (escape_of (glyph_of code)) ≡ true
unfolding escape_of glyph_of
plain_glyph code below = at_each (λ k. has_none 10 (escape_of (glyph_of k))) 64 refl code below

pub printed_is : (pattern : ℕ) → is_character pattern ≡ true → glyph_printed pattern ≡ glyph_of (character_of pattern)
unfolding glyph_printed
printed_is pattern is = rw is refl

printed_none : (pattern : ℕ) → is_character pattern ≡ false → glyph_printed pattern ≡ 32
unfolding glyph_printed
printed_none pattern none = rw none refl

plain_blank : has_none 10 (escape_of 32) ≡ true
unfolding escape_of
plain_blank = refl

plain_printed : (pattern : ℕ) → has_none 10 (escape_of (glyph_printed pattern)) ≡ true
plain_printed pattern =
    (elim (is_character pattern) as (λ b. is_character pattern ≡ b → has_none 10 (escape_of (glyph_printed pattern)) ≡ true) [
      | true ↦ λ is. ap (λ glyph. has_none 10 (escape_of glyph)) (printed_is pattern is) ∙ plain_glyph (character_of pattern) (ltb-true (character_of pattern) 64 is)
      | false ↦ λ none. ap (λ glyph. has_none 10 (escape_of glyph)) (printed_none pattern none) ∙ plain_blank
    ]) refl

plain_glyphs : (patterns : List ℕ) → has_none 10 (escaped (map glyph_printed patterns)) ≡ true
plain_glyphs [] = refl
plain_glyphs (pattern ∷ patterns) =
    none_in_both 10 (escape_of (glyph_printed pattern)) (escaped (map glyph_printed patterns)) (plain_printed pattern) (plain_glyphs patterns)

plain_card : (card : CardImage) → has_none 10 (card_glyphs card) ≡ true
plain_card card = plain_glyphs (filled card.0)

plain_print_tag : has_none 10 print_tag ≡ true
unfolding digits places
plain_print_tag = refl

plain_stock : has_none 10 stock ≡ true
unfolding digits stock places
plain_stock = refl

plain_holes : (card : CardImage) → IsImage card → has_none 10 (holes_drawn card) ≡ true
plain_holes card is_card =
    none_in_both 10 (codes "<path class=\"hole\" d=\"" ++ holes_path card) (codes "\"/>") (ap (has_none 10) (by_corners (holes_from 1 card.0)) ∙ no_feed_in_outlines (corners_of card) (near card is_card)) refl

plain_print : (card : CardImage) → has_none 10 (print card) ≡ true
plain_print card =
    none_in_both 10 (print_tag ++ card_glyphs card) (codes "</text>") (none_in_both 10 print_tag (card_glyphs card) plain_print_tag (plain_card card)) refl

plain_marks : (card : CardImage) → IsImage card → has_none 10 (marks card) ≡ true
unfolding marks
plain_marks card is_card =
    (elim (length (filled card.0) == 0) as (λ t. (length (filled card.0) == 0) ≡ t → has_none 10 (marks card) ≡ true) [
      | true ↦ λ blank. rw blank refl
      | false ↦ λ other. rw other (none_in_both 10 (holes_drawn card) (print card) (plain_holes card is_card) (plain_print card))
    ]) refl

plain_line : (number : ℕ) (card : CardImage) → IsImage card → number < 2 ^ 64 → has_none 10 (line_of number card) ≡ true
plain_line number card is_card small =
    let plain = none_in_decimal 10 no_feed number small in
    let title = none_in_both 10 ((codes "<title>card " ++ decimal number) ++ codes ": " ++ card_glyphs card) (codes "</title>")
    (none_in_both 10 ((codes "<title>card " ++ decimal number) ++ codes ": ") (card_glyphs card) (none_in_both 10 (codes "<title>card " ++ decimal number) (codes ": ") plain refl) (plain_card card)) refl in
    let caption = none_in_both 10 (codes "</svg>" ++ captioned number) (codes "</figure>") (none_in_both 10 (codes "<figcaption>" ++ decimal number) (codes "</figcaption>") plain refl) refl in
    none_in_both 10 (front number card ++ marks card) (back number)
    (none_in_both 10 (front number card) (marks card) (none_in_both 10 (opening ++ titled_by_number number card) (codes "<use href=\"#stock\"/>") (none_in_both 10 opening (titled_by_number number card) refl title) refl) (plain_marks card is_card))
    caption

-- ---- the lines of the page

-- whether a line begins with the tag of a figure
abbrev is_figure : List ℕ → Bool
is_figure line = starts_with nat_eq line (codes "<figure>")

-- the lines of a page behind its first one
next_line : (line rest : List ℕ) → has_none 10 line ≡ true → pieces 10 (line ++ 10 ∷ rest) ≡ line ∷ pieces 10 rest
next_line line rest none = pieces_both 10 line rest ∙ ap (λ parts. parts ++ pieces 10 rest) (one_piece 10 line none)

figures_shown : (number : ℕ) (deck : List CardImage) → All IsImage deck → number + length deck < 2 ^ 64 → AllZip Shows (filter is_figure (pieces 10 (figures_from number deck))) deck
unfolding figures_from
figures_shown number [] each few = tt
figures_shown number (card ∷ deck) each few =
    let is_card = All-head IsImage card deck each in
    let line = line_of number card in
    let rest = figures_from (number + 1) deck in
    let parted : figure number card ++ rest ≡ line ++ 10 ∷ rest = ap (λ text. text ++ rest) (figure_is number card) ∙ append_assoc line (10 ∷ []) rest in
    let lines : pieces 10 (figure number card ++ rest) ≡ line ∷ pieces 10 rest = ap (pieces 10) parted ∙ next_line line rest (plain_line number card is_card (omega arith)) in
    rw lines (line_shows number card is_card (omega arith), figures_shown (number + 1) deck (All-tail IsImage card deck each) (omega arith))

-- the first two lines of the page
abbrev head_front : List ℕ
head_front = codes "<!DOCTYPE html><html lang=en><meta charset=utf-8>" ++ codes "<meta name=viewport content=\"width=device-width,initial-scale=1\"><title>"

abbrev head_style : List ℕ
head_style = ((codes "</title><style>" ++ DECK_STYLE.now) ++ FIGURE_STYLE.now) ++ (CARD_STYLE.now ++ codes "</style><h1>")

abbrev head_line : List ℕ → List ℕ
head_line title = (head_front ++ titled title) ++ (head_style ++ (titled title ++ codes "</h1>"))

plain_head : (title : List ℕ) → has_none 10 (head_line title) ≡ true
plain_head title =
    none_in_both 10 (head_front ++ titled title) (head_style ++ (titled title ++ codes "</h1>"))
    (none_in_both 10 head_front (titled title) refl (plain_title title))
    (none_in_both 10 head_style (titled title ++ codes "</h1>") refl (none_in_both 10 (titled title) (codes "</h1>") (plain_title title) refl))

abbrev stock_line : List ℕ
stock_line = (codes "<svg width=\"0\" height=\"0\" style=\"position:absolute\"><defs><g id=\"stock\">" ++ stock) ++ codes "</g></defs></svg>"

head_parts : (f t e s d g c z h o u : List ℕ) → ((((((f ++ t ++ e) ++ s) ++ d) ++ g) ++ c) ++ z) ++ ((h ++ t) ++ (o ++ u)) ≡ ((f ++ t) ++ (((((e ++ s) ++ d) ++ g) ++ (c ++ (z ++ h))) ++ (t ++ o))) ++ u
head_parts f t e s d g c z h o u = simp append_assoc

head_is : (title : List ℕ) → deck_head title ≡ head_line title ++ 10 ∷ []
head_is title = head_parts head_front (titled title) (codes "</title>") (codes "<style>") DECK_STYLE.now FIGURE_STYLE.now CARD_STYLE.now (codes "</style>") (codes "<h1>") (codes "</h1>") (10 ∷ [])

regroup : (h s f : List ℕ) → ((h ++ 10 ∷ []) ++ (s ++ 10 ∷ [])) ++ f ≡ h ++ 10 ∷ (s ++ 10 ∷ f)
regroup h s f = simp append_assoc

page_is : (title : List ℕ) (deck : List CardImage) → deck_page_of title deck ≡ head_line title ++ 10 ∷ (stock_line ++ 10 ∷ figures_from 1 deck)
page_is title deck =
    let stock_is : stock_definition ≡ stock_line ++ 10 ∷ [] =
    sym (append_assoc (codes "<svg width=\"0\" height=\"0\" style=\"position:absolute\"><defs><g id=\"stock\">" ++ stock) (codes "</g></defs></svg>") (10 ∷ [])) in
    ap (λ text. (text ++ stock_definition) ++ figures_from 1 deck) (head_is title)
    ∙ ap (λ text. ((head_line title ++ 10 ∷ []) ++ text) ++ figures_from 1 deck) stock_is
    ∙ regroup (head_line title) stock_line (figures_from 1 deck)

pub figures_show : (title : List ℕ) (deck : List CardImage) → All IsImage deck → length deck < 2 ^ 63 → AllZip Shows (figures_read (deck_page_of title deck)) deck
unfolding figures_read
figures_show title deck each few =
    let rest = figures_from 1 deck in
    let plain : has_none 10 stock_line ≡ true = none_in_both 10 (codes "<svg width=\"0\" height=\"0\" style=\"position:absolute\"><defs><g id=\"stock\">" ++ stock) (codes "</g></defs></svg>") plain_stock refl in
    let head = head_line title in
    let lines : pieces 10 (deck_page_of title deck) ≡ head ∷ (stock_line ∷ pieces 10 rest) =
    ap (pieces 10) (page_is title deck) ∙ next_line head (stock_line ++ 10 ∷ rest) (plain_head title) ∙ ap (λ lines. head ∷ lines) (next_line stock_line rest plain) in
    subst (λ (parts : List (List ℕ)). AllZip Shows (filter is_figure parts) deck) (sym lines) (figures_shown 1 deck each (omega (arith, few)))
