-- the forms on the pages of a listing are the listing
use Rattle.std.proofs.Common.{◌≡◌, ℕ, ◌+◌, ◌<◌, ◌≤◌, ◌==◌, ◌^◌, true, false, not, List, [], ◌∷◌, ◌++◌, length, map, decimal, codes, refl, ap, sym, ◌∙◌, arith, append_assoc}
use Rattle.std.specs.List.{join_with_byte}
use Rattle.std.proofs.lemmas.List.{nil_from_length}
use Rattle.std.proofs.lemmas.List.Splits.{join_with_byte-slice_split, length-slice_split}
use Rattle.std.proofs.lemmas.List.Sums.{count_by-le-length}
use Rattle.pictures.specs.Escapes.{escaped}
use Rattle.pictures.specs.Forms.{form_opening, form_section, forms_of, is_form_feed, listing_head, pages, sections, sections_from}
use Rattle.pictures.specs.Heads.{titled}
use Rattle.pictures.specs.declared.styles.TheConstants.{FORM_STYLE, LISTING_STYLE}
use Rattle.pictures.specs.Reading.{behind_tags, form_tag, listing_read, unescaped}
use Rattle.pictures.proofs.PiecesRead.{IsTagged, behind_both, has_none, none_in_both, none_in_decimal, one_piece}
use Rattle.pictures.proofs.TextsRead.{none_in_escaped, texts_read_back}
use Rattle.pictures.proofs.TitlesRead.{untagged_title}

-- what stands on the pages as text of forms
abbrev shown : List ℕ → List (List ℕ)
shown text = behind_tags form_tag text

-- a form behind its tag
form_shown : (text : List ℕ) → has_none 60 text ≡ true → shown (60 ∷ (form_tag ++ text)) ≡ text ∷ []
form_shown text none = rw (one_piece 60 (form_tag ++ text) none) refl

-- what stands behind another tag
other_shown : (text : List ℕ) → has_none 60 text ≡ true → shown (codes "<div class=\"no\">" ++ text) ≡ []
other_shown text none = rw (one_piece 60 (codes "div class=\"no\">" ++ text) none) refl

front_shown : (text : List ℕ) → has_none 60 text ≡ true → shown (form_opening ++ text) ≡ text ∷ []
front_shown text none =
    behind_both 112 (codes "re>\n") (codes "<section class=\"form\"><div class=\"band\"></div><div class=\"strip\"></div><div class=\"strip r\"></div>") (60 ∷ (form_tag ++ text)) refl
    ∙ form_shown text none

back_shown : (text : List ℕ) → has_none 60 text ≡ true → shown (codes "</pre><div class=\"no\">" ++ text) ≡ []
back_shown text none =
    behind_both 112 (codes "re>\n") (codes "</pre>") (codes "<div class=\"no\">" ++ text) refl
    ∙ other_shown text none

-- no digit is the mark of a tag
no_digit : (d : ℕ) → d < 10 → not (48 + d == 60) ≡ true
no_digit d small = grind (arith, small)

none_in_number : (n : ℕ) → n < 2 ^ 64 → has_none 60 (decimal n) ≡ true
none_in_number n small = none_in_decimal 60 no_digit n small

section_shown : (number count : ℕ) (form : List ℕ) → number < 2 ^ 64 → count < 2 ^ 64 → shown (form_section number count form) ≡ escaped form ∷ []
unfolding form_section
section_shown number count form few all =
    let numbers = decimal number ++ (codes " of " ++ decimal count) in
    let none : has_none 60 numbers ≡ true = none_in_both 60 (decimal number) (codes " of " ++ decimal count) (none_in_number number few) (none_in_number count all) in
    let front = form_opening ++ escaped form in
    let back = codes "</pre><div class=\"no\">" ++ numbers in
    let parted : form_section number count form ≡ (front ++ back) ++ codes "</div></section>\n" = simp append_assoc in
    ap shown parted
    ∙ behind_both 112 (codes "re>\n") (front ++ back) (codes "</div></section>\n") refl
    ∙ ap (λ texts. texts ++ []) (behind_both 112 (codes "re>\n") front back refl ∙ ap (λ texts. texts ++ shown back) (front_shown (escaped form) (none_in_escaped form)) ∙ ap (λ texts. (escaped form ∷ []) ++ texts) (back_shown numbers none))

tagged_sections : (number count : ℕ) (forms : List (List ℕ)) → IsTagged (sections_from number count forms)
unfolding sections_from form_section
tagged_sections number count [] = tt
tagged_sections number count (form ∷ forms) = refl

sections_shown : (number count : ℕ) (forms : List (List ℕ)) → number + length forms < 2 ^ 64 → count < 2 ^ 64 → shown (sections_from number count forms) ≡ map escaped forms
unfolding sections_from
sections_shown number count [] few all = refl
sections_shown number count (form ∷ forms) few all =
    behind_both 112 (codes "re>\n") (form_section number count form) (sections_from (number + 1) count forms) (tagged_sections (number + 1) count forms)
    ∙ ap (λ texts. texts ++ shown (sections_from (number + 1) count forms)) (section_shown number count form (omega arith) all)
    ∙ ap (λ texts. escaped form ∷ texts) (sections_shown (number + 1) count forms (omega arith) all)

title_shown : (text : List ℕ) → has_none 60 text ≡ true → shown (codes "<title>" ++ text) ≡ []
title_shown text none = rw (one_piece 60 (codes "title>" ++ text) none) refl

-- what stands before the title, and behind it
abbrev before : List ℕ
before = codes "<!DOCTYPE html><html lang=en><meta charset=utf-8>" ++ codes "<meta name=viewport content=\"width=device-width,initial-scale=1\">"

abbrev behind : List ℕ
behind = (((codes "</title>" ++ codes "<style>") ++ LISTING_STYLE.now) ++ FORM_STYLE.now) ++ codes "</style>\n"

head_parts : (b o t c s l f e : List ℕ) → (((((b ++ o) ++ t ++ c) ++ s) ++ l) ++ f) ++ e ≡ (b ++ (o ++ t)) ++ ((((c ++ s) ++ l) ++ f) ++ e)
head_parts b o t c s l f e = simp append_assoc

head_shown : (title : List ℕ) → shown (listing_head title) ≡ []
head_shown title =
    let text = titled title in
    let parted : listing_head title ≡ (before ++ (codes "<title>" ++ text)) ++ behind =
    head_parts before (codes "<title>") text (codes "</title>") (codes "<style>") LISTING_STYLE.now FORM_STYLE.now (codes "</style>\n") in
    ap shown parted
    ∙ behind_both 112 (codes "re>\n") (before ++ (codes "<title>" ++ text)) behind refl
    ∙ ap (λ texts. texts ++ []) (behind_both 112 (codes "re>\n") before (codes "<title>" ++ text) refl ∙ title_shown text (untagged_title title))

pages_shown : (title listing : List ℕ) → 1 + length (forms_of listing) < 2 ^ 64 → shown (pages title listing) ≡ map escaped (forms_of listing)
pages_shown title listing few =
    behind_both 112 (codes "re>\n") (listing_head title) (sections (forms_of listing)) (tagged_sections 1 (length (forms_of listing)) (forms_of listing))
    ∙ ap (λ texts. texts ++ shown (sections (forms_of listing))) (head_shown title)
    ∙ sections_shown 1 (length (forms_of listing)) (forms_of listing) few (omega arith)

-- the forms, joined, are the listing
joined : (listing : List ℕ) → join_with_byte 12 (forms_of listing) ≡ listing
joined listing =
    (elim (length listing == 0) as (λ t. (length listing == 0) ≡ t → join_with_byte 12 (forms_of listing) ≡ listing) [
      | true ↦ λ none. rw none (sym (nil_from_length listing (grind (arith, none))))
      | false ↦ λ some. rw some (join_with_byte-slice_split 12 listing)
    ]) refl

-- there are no more forms than bytes and one
few_forms : (listing : List ℕ) → length (forms_of listing) ≤ length listing + 1
few_forms listing =
    (elim (length listing == 0) as (λ t. (length listing == 0) ≡ t → length (forms_of listing) ≤ length listing + 1) [
      | true ↦ λ none. rw none (omega arith)
      | false ↦ λ some. rw some (omega (arith, length-slice_split is_form_feed listing, count_by-le-length is_form_feed listing))
    ]) refl

pub pages_read : (title listing : List ℕ) → length listing < 2 ^ 63 → listing_read (pages title listing) ≡ listing
unfolding listing_read
pages_read title listing small =
    ap (λ texts. join_with_byte 12 (map unescaped texts)) (pages_shown title listing (omega (arith, few_forms listing)))
    ∙ ap (join_with_byte 12) (texts_read_back (forms_of listing))
    ∙ joined listing
