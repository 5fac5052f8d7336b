-- the lines of a text
use Rattle.std.proofs.Common.{arith, refl, ap, ◌∙◌, ◌≡◌, ◌≢◌, ℕ, ◌==◌, true, false, ◌&&◌, List, [], ◌∷◌, ◌++◌, All, zero, suc, ◌+◌, ◌<◌, ◌≤◌, subst, add-one, length, take, drop, get_or}
use Rattle.std.proofs.lemmas.List.{take_all}
use Rattle.card_texts.specs.Lines.{are_ends, without_ends, with_byte, lines_from}

-- bytes within a line: none of them ends it
abbrev pub IsWithin : List ℕ → Type 0
IsWithin bytes = All (λ b. (b ≢ 10) × (b ≢ 13)) bytes

-- one end more behind ends
pub ends_behind : (xs : List ℕ) → are_ends (xs ++ 26 ∷ []) ≡ are_ends xs
ends_behind [] = refl
ends_behind (x ∷ xs) = ap (λ b. (x == 26) && b) (ends_behind xs)

-- a last byte that is an end is passed over
pub end_passed_over : (xs : List ℕ) → without_ends (xs ++ 26 ∷ []) ≡ without_ends xs
unfolding without_ends
end_passed_over [] = refl
end_passed_over (x ∷ xs) =
    rw (ends_behind (x ∷ xs)) (rw (end_passed_over xs) refl)

-- no bytes are ends where the last one is none
pub no_ends : (xs : List ℕ) (b : ℕ) → b ≢ 26 → are_ends (xs ++ b ∷ []) ≡ false
no_ends [] b other = grind (arith, other)
no_ends (x ∷ xs) b other = rw (no_ends xs b other) (grind arith)

-- a text whose last byte is no end stays
pub no_end_stays : (xs : List ℕ) (b : ℕ) → b ≢ 26 → without_ends (xs ++ b ∷ []) ≡ xs ++ b ∷ []
unfolding without_ends
no_end_stays [] b other = rw (no_ends [] b other) refl
no_end_stays (x ∷ xs) b other =
    rw (no_ends (x ∷ xs) b other) (rw (no_end_stays xs b other) refl)

-- the first byte within a line, and the others
pub first_within : (x : ℕ) (xs : List ℕ) → IsWithin (x ∷ xs) → (x ≢ 10) × (x ≢ 13)
first_within x xs within = within 0 x (omega arith)

pub others_within : (x : ℕ) (xs : List ℕ) → IsWithin (x ∷ xs) → IsWithin xs
others_within x xs within = λ k d below. within (suc k) d (omega (arith, below))

-- a byte that ends no line stands in the line of the bytes behind it
pub byte_within : (x : ℕ) (rest : List ℕ) → x ≢ 10 → x ≢ 13
    → lines_from false (x ∷ rest) ≡ with_byte x (lines_from false rest)
unfolding lines_from
byte_within x rest no_feed no_return = grind (arith, no_feed, no_return)

-- a line that ends with a line feed
pub line_before_feed : (xs rest : List ℕ) → IsWithin xs
    → lines_from false (xs ++ 10 ∷ rest) ≡ xs ∷ lines_from false rest
unfolding lines_from
line_before_feed [] rest within = refl
line_before_feed (x ∷ xs) rest within =
    let first = first_within x xs within in
    byte_within x (xs ++ 10 ∷ rest) first.0 first.1
    ∙ ap (with_byte x) (line_before_feed xs rest (others_within x xs within))

-- a line that ends with a carriage return
pub line_before_return : (xs rest : List ℕ) → IsWithin xs
    → lines_from false (xs ++ 13 ∷ rest) ≡ xs ∷ lines_from true rest
unfolding lines_from
line_before_return [] rest within = refl
line_before_return (x ∷ xs) rest within =
    let first = first_within x xs within in
    byte_within x (xs ++ 13 ∷ rest) first.0 first.1
    ∙ ap (with_byte x) (line_before_return xs rest (others_within x xs within))

-- a line that ends with the text
pub last_line : (x : ℕ) (xs : List ℕ) → IsWithin (x ∷ xs)
    → lines_from false (x ∷ xs) ≡ (x ∷ xs) ∷ []
unfolding lines_from
last_line x [] within =
    let first = first_within x [] within in byte_within x [] first.0 first.1
last_line x (y ∷ ys) within =
    let first = first_within x (y ∷ ys) within in
    byte_within x (y ∷ ys) first.0 first.1
    ∙ ap (with_byte x) (last_line y ys (others_within x (y ∷ ys) within))

-- a text is what stands before a place, what stands there, and what stands behind
pub at_place : (text : List ℕ) (place d : ℕ) → place < length text
    → text ≡ take place text ++ get_or text place d ∷ drop (suc place) text
at_place [] place d below = elim below [ ]
at_place (x ∷ xs) zero d below = refl
at_place (x ∷ xs) (suc place) d below =
    ap (λ rest. x ∷ rest) (at_place xs place d (omega (arith, below)))

-- the lines of a text that has a line feed at a place, with none before
pub split_at_feed : (text : List ℕ) (place : ℕ) → place < length text → IsWithin (take place text)
    → get_or text place 0 ≡ 10
    → lines_from false text ≡ take place text ∷ lines_from false (drop (place + 1) text)
split_at_feed text place below within feed =
    rw (add-one place)
    (ap (lines_from false) (at_place text place 0 below
    ∙ ap (λ b. take place text ++ b ∷ drop (suc place) text) feed)
    ∙ line_before_feed (take place text) (drop (suc place) text) within)

-- the same of a carriage return
pub split_at_return : (text : List ℕ) (place : ℕ) → place < length text
    → IsWithin (take place text) → get_or text place 0 ≡ 13
    → lines_from false text ≡ take place text ∷ lines_from true (drop (place + 1) text)
split_at_return text place below within feed =
    rw (add-one place)
    (ap (lines_from false) (at_place text place 0 below
    ∙ ap (λ b. take place text ++ b ∷ drop (suc place) text) feed)
    ∙ line_before_return (take place text) (drop (suc place) text) within)

-- a text that no line end is in, is one line
pub one_line : (text : List ℕ) (place : ℕ) → 0 < length text → length text ≤ place
    → IsWithin (take place text) → lines_from false text ≡ text ∷ []
one_line [] place more long within = elim more [ ]
one_line (x ∷ xs) place more long within =
    last_line x xs (subst IsWithin (take_all place (x ∷ xs) long) within)
