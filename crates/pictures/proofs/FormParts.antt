-- the forms of a listing, one after the other
use Rattle.std.proofs.Common.{◌≡◌, ℕ, ◌+◌, ◌≤◌, Some, None, List, [], ◌∷◌, ◌++◌, length, take, drop, position, refl, ap, sym, ◌∙◌, arith, append_assoc, append-nil}
use Rattle.std.specs.List.{count_by, position_or_len}
use Rattle.std.proofs.lemmas.List.Quantifiers.{position-Some}
use Rattle.std.proofs.lemmas.List.Splits.{slice_split_first, slice_split_none, length-slice_split}
use Rattle.std.proofs.lemmas.List.Sums.{position_or_len_is, fails_before_first}
use Rattle.pictures.specs.Forms.{form_section, is_form_feed, parts, sections, sections_from}

-- the first part ends at the first form feed
pub part_ended : (text : List ℕ) (place : ℕ) → position is_form_feed text ≡ Some place
    → parts text ≡ take place text ∷ parts (drop (place + 1) text)
part_ended text place at =
    let found = position-Some is_form_feed text place 0 at in
    let first : position_or_len is_form_feed text ≡ place =
    position_or_len_is is_form_feed text place 0 (omega (arith, found.0)) found.2 (λ _. found.1) in
    slice_split_first is_form_feed text 0 (omega (arith, found.0)) ∙ rw first refl

-- a text without a form feed is a part
pub part_open : (text : List ℕ) → position is_form_feed text ≡ None → parts text ≡ text ∷ []
part_open text none =
    let whole : length text ≤ position_or_len is_form_feed text = grind (arith, none) in
    slice_split_none is_form_feed text (λ k d below. fails_before_first is_form_feed text k d (omega (arith, below, whole)))

-- one form more
pub section_on : (number count : ℕ) (form : List ℕ) (rest all : List (List ℕ)) (done : List ℕ) → all ≡ form ∷ rest
    → (done ++ form_section number count form) ++ sections_from (number + 1) count rest ≡ done ++ sections_from number count all
unfolding sections_from
section_on number count form rest all done first =
    rw first (append_assoc done (form_section number count form) (sections_from (number + 1) count rest))

-- the last form
pub last_section : (number count : ℕ) (form : List ℕ) (all : List (List ℕ)) (done : List ℕ) → all ≡ form ∷ []
    → done ++ form_section number count form ≡ done ++ sections_from number count all
unfolding sections_from
last_section number count form all done first =
    rw first (ap (λ text. done ++ text) (sym (append-nil (form_section number count form))))

-- the number of forms
pub counted : (text : List ℕ) (feeds : ℕ) (done : List ℕ) → feeds ≡ count_by is_form_feed text
    → done ++ sections_from 1 (feeds + 1) (parts text) ≡ done ++ sections (parts text)
counted text feeds done is =
    ap (λ count. done ++ sections_from 1 count (parts text)) (ap (λ n. n + 1) is ∙ sym (length-slice_split is_form_feed text))
