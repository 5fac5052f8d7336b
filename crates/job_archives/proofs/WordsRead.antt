-- Words of a line are read up to the mark behind them.
use Rattle.std.proofs.Common.{◌≡◌, ◌∙◌, ℕ, ◌+◌, ◌%◌, ◌<◌, ◌^◌, ◌==◌, ◌&&◌, Bool, true, false, not, List, [], ◌∷◌, ◌++◌, decimal, drop, get_or, refl, ap, sym, subst, arith, append_assoc}
use Rattle.std.specs.List.{list_all}
use Rattle.std.proofs.lemmas.Fmt.{decimal_by_steps, decimal_injective}
use Rattle.std.proofs.lemmas.List.{append_cancel_left}
use Rattle.job_archives.specs.Records.{line}

-- whether no byte of a text is a mark
abbrev pub has_none : ℕ → List ℕ → Bool
has_none mark text = list_all (λ byte. not (byte == mark)) text

pub first_of_both : (a b : Bool) → (a && b) ≡ true → a ≡ true
first_of_both true b both = refl
first_of_both false b both = both

pub second_of_both : (a b : Bool) → (a && b) ≡ true → b ≡ true
second_of_both true b both = both
second_of_both false b both = absurd (cc)

pub none_in_both : (mark : ℕ) (a b : List ℕ) → has_none mark a ≡ true → has_none mark b ≡ true → has_none mark (a ++ b) ≡ true
none_in_both mark [] b front back = back
none_in_both mark (x ∷ a) b front back =
    let here : not (x == mark) ≡ true = first_of_both (not (x == mark)) (has_none mark a) front in
    let rest = none_in_both mark a b (second_of_both (not (x == mark)) (has_none mark a) front) back in
    rw (here, rest) refl

-- no byte of a number is a mark that is no digit
none_in_decimal : (mark : ℕ) → ((d : ℕ) → d < 10 → not (48 + d == mark) ≡ true) → (n : ℕ) → n < 2 ^ 64 → has_none mark (decimal n) ≡ true
none_in_decimal mark other =
    decimal_by_steps (λ n digits. has_none mark digits ≡ true)
    (λ n small. rw (other n small) refl)
    (λ n digits large front. none_in_both mark digits ((48 + n % 10) ∷ []) front (rw (other (n % 10) (omega arith)) refl))

other_end : (d : ℕ) → d < 10 → not (48 + d == 10) ≡ true
other_end d small = grind arith

other_blank : (d : ℕ) → d < 10 → not (48 + d == 32) ≡ true
other_blank d small = grind arith

-- no byte of a number ends a line
pub no_end : (n : ℕ) → n < 2 ^ 64 → has_none 10 (decimal n) ≡ true
no_end = none_in_decimal 10 other_end

-- no byte of a number is a blank
pub no_blank : (n : ℕ) → n < 2 ^ 64 → has_none 32 (decimal n) ≡ true
no_blank = none_in_decimal 32 other_blank

itself : (n : ℕ) → (n == n) ≡ true
itself n = grind arith

-- a byte that is the mark is not none
marked : (x mark : ℕ) (rest : List ℕ) → x ≡ mark → has_none mark (x ∷ rest) ≡ true → ⊥
marked x mark rest same none =
    let here : not (x == mark) ≡ true = first_of_both (not (x == mark)) (has_none mark rest) none in
    let other : not true ≡ true = subst (λ b. not b ≡ true) (subst (λ y. (x == y) ≡ true) same (itself x)) here in
    absurd (cc)

-- two texts that begin with words without the mark, and the mark behind them
pub same_word : (mark : ℕ) (one other rest more : List ℕ) → has_none mark one ≡ true → has_none mark other ≡ true
    → one ++ mark ∷ rest ≡ other ++ mark ∷ more → (one ≡ other) × (rest ≡ more)
same_word mark [] [] rest more a b e = (refl, ap (drop 1) e)
same_word mark [] (y ∷ other) rest more a b e = absurd (marked y mark other (sym (ap (λ (l : List ℕ). get_or l 0 0) e)) b)
same_word mark (x ∷ one) [] rest more a b e = absurd (marked x mark one (ap (λ (l : List ℕ). get_or l 0 0) e) a)
same_word mark (x ∷ one) (y ∷ other) rest more a b e =
    let head : x ≡ y = ap (λ (l : List ℕ). get_or l 0 0) e in
    let tails = same_word mark one other rest more (second_of_both (not (x == mark)) (has_none mark one) a) (second_of_both (not (y == mark)) (has_none mark other) b) (ap (drop 1) e) in
    (ap (λ z. z ∷ one) head ∙ ap (λ zs. y ∷ zs) tails.0, tails.1)

-- a line before a rest, from its word on
line_before : (word value rest : List ℕ) → line word value ++ rest ≡ word ++ (32 ∷ (value ++ 10 ∷ rest))
line_before word value rest =
    append_assoc ((word ++ (32 ∷ [])) ++ value) (10 ∷ []) rest
    ∙ (append_assoc (word ++ (32 ∷ [])) value (10 ∷ rest) ∙ append_assoc word (32 ∷ []) (value ++ 10 ∷ rest))

-- two lines with the same word have the same value
pub same_line : (word one other rest more : List ℕ) → has_none 10 one ≡ true → has_none 10 other ≡ true
    → line word one ++ rest ≡ line word other ++ more → (one ≡ other) × (rest ≡ more)
same_line word one other rest more a b e =
    let all : word ++ (32 ∷ (one ++ 10 ∷ rest)) ≡ word ++ (32 ∷ (other ++ 10 ∷ more)) = sym (line_before word one rest) ∙ (e ∙ line_before word other more) in
    same_word 10 one other rest more a b (ap (drop 1) (append_cancel_left word _ _ all))

-- two lines with a number
pub same_number : (word rest more : List ℕ) (n m : ℕ) → n < 2 ^ 64 → m < 2 ^ 64
    → line word (decimal n) ++ rest ≡ line word (decimal m) ++ more → (n ≡ m) × (rest ≡ more)
same_number word rest more n m a b e =
    let it = same_line word (decimal n) (decimal m) rest more (no_end n a) (no_end m b) e in
    (decimal_injective n m a b it.0, it.1)

-- two lines whose words have no blank
pub same_pair : (word thing one other rest more : List ℕ) → has_none 32 word ≡ true → has_none 32 thing ≡ true
    → has_none 10 one ≡ true → has_none 10 other ≡ true → line word one ++ rest ≡ line thing other ++ more
    → (word ≡ thing) × ((one ≡ other) × (rest ≡ more))
same_pair word thing one other rest more blank none a b e =
    let all : word ++ (32 ∷ (one ++ 10 ∷ rest)) ≡ thing ++ (32 ∷ (other ++ 10 ∷ more)) = sym (line_before word one rest) ∙ (e ∙ line_before thing other more) in
    let words = same_word 32 word thing (one ++ 10 ∷ rest) (other ++ 10 ∷ more) blank none all in
    (words.0, same_word 10 one other rest more a b words.1)

-- two lines before a rest
pub after_two : (a b c d rest more : List ℕ) → (a ++ b) ++ rest ≡ (c ++ d) ++ more → a ++ (b ++ rest) ≡ c ++ (d ++ more)
after_two a b c d rest more is = sym (append_assoc a b rest) ∙ (is ∙ append_assoc c d more)

-- three lines before a rest
pub after_three : (a b c d e f rest more : List ℕ) → ((a ++ b) ++ c) ++ rest ≡ ((d ++ e) ++ f) ++ more
    → a ++ (b ++ (c ++ rest)) ≡ d ++ (e ++ (f ++ more))
after_three a b c d e f rest more is =
    after_two a b d e (c ++ rest) (f ++ more) (sym (append_assoc (a ++ b) c rest) ∙ (is ∙ append_assoc (d ++ e) f more))
