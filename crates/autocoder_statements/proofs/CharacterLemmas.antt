-- for `Class::run`, `begins` and `number_of` of `characters`: one more character of their loops
use Rattle.std.proofs.Common.{◌≡◌, ◌≢◌, ℕ, suc, ◌+◌, ◌*◌, ◌^◌, ◌==◌, ◌<◌, ◌≤◌, true, false, List, ◌∷◌, length, get_or, drop, refl, ap, sym, ◌∙◌, arith, add-one, drop-cons, length-drop}
use Rattle.std.proofs.Math.Seq.{drop-length}
use Rattle.std.proofs.Math.Nat.{pow-succ'}
use Rattle.std.proofs.lemmas.List.{drop_all}
use Rattle.std.proofs.lemmas.Bool.Decides.{nat_tests}
use Rattle.bcd.specs.Table.{glyph_of}
use Rattle.autocoder_statements.specs.Characters.{is_of, run, begins, number_of, digit_value}
use Rattle.autocoder_statements.specs.declared.characters.Class.{Class}

-- what is left begins with the character at this place
pub next : (text : List ℕ) (i code other : ℕ) → i < length text → code ≡ get_or text i other → drop i text ≡ code ∷ drop (i + 1) text
next text i code other h e = rw (add-one, drop-cons text i other) (ap (λ c. c ∷ drop (suc i) text) (sym e))

pub run_stops : (class : Class) (text : List ℕ) (i code : ℕ) → i < length text → code ≡ get_or text i code → is_of class code ≡ false →
    run class (drop i text) ≡ 0
unfolding run
run_stops class text i code h e t = rw (next text i code code h e, t) refl

pub run_goes : (class : Class) (text : List ℕ) (i code : ℕ) → i < length text → code ≡ get_or text i code → is_of class code ≡ true →
    run class (drop i text) ≡ 1 + run class (drop (i + 1) text)
unfolding run
run_goes class text i code h e t = rw (next text i code code h e, t) refl

pub run_ends : (class : Class) (text : List ℕ) → run class (drop (length text) text) ≡ 0
unfolding run
run_ends class text = rw (drop-length text) refl

pub begins_ends : (glyphs text : List ℕ) → begins (drop (length glyphs) glyphs) text ≡ true
unfolding begins
begins_ends glyphs text = rw (drop-length glyphs) refl

pub begins_short : (glyphs text : List ℕ) (i : ℕ) → i < length glyphs → length text ≤ i →
    begins (drop i glyphs) (drop i text) ≡ false
unfolding begins
begins_short glyphs text i h short = rw (next glyphs i (get_or glyphs i 0) 0 h refl, drop_all i text short) refl

test_off : (a b : ℕ) → a ≢ b → (a == b) ≡ false
test_off a b differ = grind (arith, nat_tests)

test_on : (a b : ℕ) → a ≡ b → (a == b) ≡ true
test_on a b same = grind (arith, nat_tests)

pub begins_differs : (glyphs text : List ℕ) (i code : ℕ) → i < length glyphs → i < length text → code ≡ get_or text i code →
    glyph_of code ≢ get_or glyphs i 0 → begins (drop i glyphs) (drop i text) ≡ false
unfolding begins
begins_differs glyphs text i code h k f differ = rw (next glyphs i (get_or glyphs i 0) 0 h refl, next text i code code k f, test_off _ _ differ) refl

pub begins_goes : (glyphs text : List ℕ) (i code : ℕ) → i < length glyphs → i < length text → code ≡ get_or text i code →
    glyph_of code ≡ get_or glyphs i 0 → begins (drop i glyphs) (drop i text) ≡ begins (drop (i + 1) glyphs) (drop (i + 1) text)
unfolding begins
begins_goes glyphs text i code h k f same = rw (next glyphs i (get_or glyphs i 0) 0 h refl, next text i code code k f, test_on _ _ same) refl

pub number_more : (digits : List ℕ) (i digit : ℕ) → i < length digits → digit ≡ get_or digits i digit →
    number_of (drop i digits) ≡ digit_value digit * 10 ^ length (drop (i + 1) digits) + number_of (drop (i + 1) digits)
unfolding number_of
number_more digits i digit h e = ap number_of (next digits i digit digit h e)

moved : (n d P Q r s w : ℕ) → Q ≡ 10 * P → s ≡ d * P + r → n * Q + s ≡ w → (10 * n + d) * P + r ≡ w
moved n d P Q r s w e f g = let h : n * Q ≡ 10 * (n * P) = ap (λ q. n * q) e ∙ omega arith in omega arith

place : (digits : List ℕ) (i : ℕ) → i < length digits → 10 ^ length (drop i digits) ≡ 10 * 10 ^ length (drop (i + 1) digits)
place digits i h =
    let e : length (drop i digits) ≡ suc (length (drop (i + 1) digits)) = simp length-drop (omega arith) in
    ap (λ n. 10 ^ n) e ∙ pow-succ' 10 (length (drop (i + 1) digits))

-- a digit more is read
pub number_goes : (digits : List ℕ) (i digit value number whole : ℕ) → i < length digits → digit ≡ get_or digits i digit → value ≡ digit_value digit →
    number * 10 ^ length (drop i digits) + number_of (drop i digits) ≡ whole →
    (10 * number + value) * 10 ^ length (drop (i + 1) digits) + number_of (drop (i + 1) digits) ≡ whole
number_goes digits i digit value number whole h e v before =
    moved number value _ _ _ _ whole (place digits i h) (rw v (number_more digits i digit h e)) before

pub number_below : (i value number : ℕ) → value < 10 → number < 10 ^ i → 10 * number + value < 10 ^ (i + 1)
number_below i value number v h = let e : 10 ^ (i + 1) ≡ 10 * 10 ^ i = rw add-one (pow-succ' 10 i) in omega arith

-- all digits are read
pub number_ends : (digits : List ℕ) (number whole : ℕ) →
    number * 10 ^ length (drop (length digits) digits) + number_of (drop (length digits) digits) ≡ whole → number ≡ whole
unfolding number_of
number_ends digits number whole h = let e = rw drop-length at h in omega arith
