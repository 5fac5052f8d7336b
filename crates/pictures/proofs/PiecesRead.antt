-- the pieces of a text between marks, and those that stand behind a tag
use Rattle.std.proofs.Common.{◌≡◌, ℕ, ◌+◌, ◌<◌, ◌==◌, ◌^◌, ◌%◌, Bool, true, false, ◌&&◌, not, List, [], ◌∷◌, ◌++◌, length, map, filter, drop, decimal, nat_eq, refl, ap, sym, ◌∙◌, arith, append_assoc, append-nil, length-append}
use Rattle.std.specs.List.{All, list_all, onto_first, starts_with, position_or_len, before_first, after_first}
use Rattle.std.proofs.lemmas.Fmt.{decimal_by_steps}
use Rattle.std.proofs.lemmas.List.{map-append, drop_at, take_at}
use Rattle.std.proofs.lemmas.List.Elements.{All-nil, All-cons, filter-append}
use Rattle.std.proofs.lemmas.List.Splits.{slice_split_none, length-slice_split}
use Rattle.pictures.specs.Reading.{behind_tags, pieces}

-- whether no byte of a text is a mark
abbrev pub has_none : ℕ → List ℕ → Bool
has_none mark text = list_all (λ byte. not (byte == mark)) text

-- the first of two tests, and the second
pub first_of_both : (a b : Bool) → (a && b) ≡ true → a ≡ true
first_of_both true b both = refl
first_of_both false b both = both

pub second_of_both : (a b : Bool) → (a && b) ≡ true → b ≡ true
second_of_both true b both = both
second_of_both false b both = absurd (cc)

opposite : (b : Bool) → not b ≡ true → b ≡ false
opposite true is = absurd (cc)
opposite false is = refl

pub equal_to_itself : (n : ℕ) → (n == n) ≡ true
equal_to_itself n = grind arith

-- two texts without a mark
pub none_in_both : (mark : ℕ) (a b : List ℕ) → has_none mark a ≡ true → has_none mark b ≡ true → has_none mark (a ++ b) ≡ true
none_in_both mark [] b front back = back
none_in_both mark (x ∷ a) b front back =
    let here : not (x == mark) ≡ true = first_of_both (not (x == mark)) (has_none mark a) front in
    let rest = none_in_both mark a b (second_of_both (not (x == mark)) (has_none mark a) front) back in
    rw (here, rest) refl

-- no byte of a number is a mark that is no digit
pub none_in_decimal : (mark : ℕ) → ((d : ℕ) → d < 10 → not (48 + d == mark) ≡ true) → (n : ℕ) → n < 2 ^ 64 → has_none mark (decimal n) ≡ true
none_in_decimal mark other =
    decimal_by_steps (λ n digits. has_none mark digits ≡ true)
    (λ n small. rw (other n small) refl)
    (λ n digits large front. none_in_both mark digits ((48 + n % 10) ∷ []) front (rw (other (n % 10) (omega arith)) refl))

each_other : (mark : ℕ) (text : List ℕ) → has_none mark text ≡ true → All (λ byte. (byte == mark) ≡ false) text
each_other mark [] none = All-nil (λ (byte : ℕ). (byte == mark) ≡ false)
each_other mark (x ∷ text) none =
    All-cons (λ byte. (byte == mark) ≡ false) x text (opposite (x == mark) (first_of_both (not (x == mark)) (has_none mark text) none))
    (each_other mark text (second_of_both (not (x == mark)) (has_none mark text) none))

-- a text without the mark is one piece
pub one_piece : (mark : ℕ) (text : List ℕ) → has_none mark text ≡ true → pieces mark text ≡ text ∷ []
one_piece mark text none = slice_split_none (λ byte. byte == mark) text (each_other mark text none)

onto_both : (x : ℕ) (a b : List (List ℕ)) → 0 < length a → onto_first x (a ++ b) ≡ onto_first x a ++ b
onto_both x [] b some = absurd (omega arith)
onto_both x (part ∷ a) b some = refl

pub some_piece : (mark : ℕ) (text : List ℕ) → 0 < length (pieces mark text)
some_piece mark text = omega (arith, length-slice_split (λ byte. byte == mark) text)

-- the pieces before a mark and those behind it
pub pieces_both : (mark : ℕ) (a b : List ℕ) → pieces mark (a ++ mark ∷ b) ≡ pieces mark a ++ pieces mark b
pieces_both mark [] b = rw (equal_to_itself mark) refl
pieces_both mark (x ∷ a) b =
    (elim (x == mark) as (λ t. (x == mark) ≡ t → pieces mark ((x ∷ a) ++ mark ∷ b) ≡ pieces mark (x ∷ a) ++ pieces mark b) [
      | true ↦ λ yes. rw yes (ap (λ others. [] ∷ others) (pieces_both mark a b))
      | false ↦ λ no. rw no (ap (onto_first x) (pieces_both mark a b) ∙ onto_both x (pieces mark a) (pieces mark b) (some_piece mark a))
    ]) refl

-- a text is empty or begins with a tag
abbrev pub IsTagged : List ℕ → Type 0
IsTagged [] = Unit {0}
IsTagged (byte ∷ text) = byte ≡ 60

-- what stands behind a tag before a tag and from there on
pub behind_both : (byte : ℕ) (tag a b : List ℕ) → IsTagged b → behind_tags (byte ∷ tag) (a ++ b) ≡ behind_tags (byte ∷ tag) a ++ behind_tags (byte ∷ tag) b
behind_both byte tag a [] tagged = rw (append-nil a) (sym (append-nil (behind_tags (byte ∷ tag) a)))
behind_both byte tag a (x ∷ b) tagged =
    let all = λ (parts : List (List ℕ)). map (drop (length (byte ∷ tag))) (filter (λ piece. starts_with nat_eq piece (byte ∷ tag)) parts) in
    let test = λ (piece : List ℕ). starts_with nat_eq piece (byte ∷ tag) in
    let front = pieces 60 a in
    let back = pieces 60 b in
    rw tagged
    (ap all (pieces_both 60 a b)
    ∙ ap (map (drop (length (byte ∷ tag)))) (filter-append test front back)
    ∙ map-append (drop (length (byte ∷ tag))) (filter test front) (filter test back))

-- a tag that is in neither of two texts, and one that is only between two
pub in_neither : (byte : ℕ) (tag a b : List ℕ) → IsTagged b → behind_tags (byte ∷ tag) a ≡ [] → behind_tags (byte ∷ tag) b ≡ []
    → behind_tags (byte ∷ tag) (a ++ b) ≡ []
in_neither byte tag a b tagged front back = rw (behind_both byte tag a b tagged, front, back) refl

pub between : (byte : ℕ) (tag a m b : List ℕ) → IsTagged m → IsTagged b → behind_tags (byte ∷ tag) a ≡ [] → behind_tags (byte ∷ tag) b ≡ []
    → behind_tags (byte ∷ tag) ((a ++ m) ++ b) ≡ behind_tags (byte ∷ tag) m
between byte tag a m b tagged ended front back =
    rw (behind_both byte tag (a ++ m) b ended, behind_both byte tag a m tagged, front, back) (append-nil (behind_tags (byte ∷ tag) m))

-- the first place of a mark
pub first_place : (mark : ℕ) (a b : List ℕ) → has_none mark a ≡ true → position_or_len (λ byte. byte == mark) (a ++ mark ∷ b) ≡ length a
first_place mark [] b none = rw (equal_to_itself mark) refl
first_place mark (x ∷ a) b none =
    let here : not (x == mark) ≡ true = first_of_both (not (x == mark)) (has_none mark a) none in
    let rest = first_place mark a b (second_of_both (not (x == mark)) (has_none mark a) none) in
    rw here (omega (arith, rest))

pub before_mark : (mark : ℕ) (a b : List ℕ) → has_none mark a ≡ true → before_first (λ byte. byte == mark) (a ++ mark ∷ b) ≡ a
before_mark mark a b none = rw (first_place mark a b none) (take_at a (mark ∷ b) (length a) refl)

pub after_mark : (mark : ℕ) (a b : List ℕ) → has_none mark a ≡ true → after_first (λ byte. byte == mark) (a ++ mark ∷ b) ≡ b
after_mark mark a b none =
    let next : length a + 1 ≡ length (a ++ mark ∷ []) = omega (arith, length-append a (mark ∷ [])) in
    rw (first_place mark a b none, next) (ap (drop (length (a ++ mark ∷ []))) (sym (append_assoc a (mark ∷ []) b)) ∙ drop_at (a ++ mark ∷ []) b (length (a ++ mark ∷ [])) refl)

-- a text begins with what it begins with
begins_so : (a b : List ℕ) → starts_with nat_eq (a ++ b) a ≡ true
begins_so [] b = refl
begins_so (x ∷ a) b = rw (equal_to_itself x) (begins_so a b)

-- what stands behind a tag is read
pub tag_shown : (byte : ℕ) (tag text : List ℕ) → has_none 60 (byte ∷ tag) ≡ true → has_none 60 text ≡ true
    → behind_tags (byte ∷ tag) (60 ∷ ((byte ∷ tag) ++ text)) ≡ text ∷ []
tag_shown byte tag text in_tag in_text =
    let begins = begins_so (byte ∷ tag) text in
    let behind : drop (length (byte ∷ tag)) ((byte ∷ tag) ++ text) ≡ text = drop_at (byte ∷ tag) text (length (byte ∷ tag)) refl in
    rw (one_piece 60 ((byte ∷ tag) ++ text) (none_in_both 60 (byte ∷ tag) text in_tag in_text), begins, behind) refl
