-- codes and marks from right to left
use Rattle.std.proofs.Common.{zero, ◌≡◌, ◌≢◌, ℕ, suc, ◌+◌, ◌-◌, ◌<◌, ◌≤◌, ◌==◌, Bool, false, List, [], ◌∷◌, refl, sym, ◌∙◌, ap, arith, length, if◌then◌else◌, add-one, min}
use Rattle.std.proofs.Math.Decide.{dec_lt}
use Rattle.std.proofs.lemmas.Bool.{eq-eqb, ne_eqb}
use Rattle.std.proofs.lemmas.List.{length-set}
use Rattle.core_store.specs.Storage.{Storage, code_at, put, put_codes, codes_ending, codes_from, with_mark}
use Rattle.core_store.proofs.Fields.{length-put, length-put_codes, codes_ending_more, codes_ending-none, length-codes_ending, cell-put_codes_below, cell-put_codes_above, codes_ending-with_mark}
use Rattle.moves.specs.Characters.{bare, bare_units, from_right, blank}
use Rattle.core_store.specs.Operands.{is_overlapping}
use Rattle.core_store.proofs.OperandCuts.{not_overlapping}
use Rattle.moves.specs.Suppressed.{unmarked, suppressed}
use Rattle.moves.specs.Blanked.{ends, leading, blanked}
use Rattle.moves.specs.declared.blanking.Stop.TheVariants.{Other}
use Rattle.moves.proofs.BlankingLemmas.{blank_after, leading_within}

-- ---- marks

pub unmark_none : (s : Storage) (first : ℕ) → s ≡ unmarked s first 0
unfolding unmarked
unmark_none s first = refl

pub unmark_step : (s : Storage) (b i : ℕ) → i ≤ b → (now : Storage) → now ≡ unmarked s (b + 1 - i) i → with_mark now (b - i) false ≡ unmarked s (b + 1 - (i + 1)) (i + 1)
unfolding unmarked
unmark_step s b i le now is =
    let first : b + 1 - (i + 1) ≡ b - i = omega arith in
    let next : b - i + 1 ≡ b + 1 - i = omega arith in
    ap (λ t. with_mark t (b - i) false) (is ∙ ap (λ n. unmarked s n i) (sym next))
    ∙ ap (λ n. unmarked s n (suc i)) (sym first) ∙ ap (unmarked s (b + 1 - (i + 1))) (sym (add-one i))

pub length_with_mark : (s : Storage) (p : ℕ) (m : Bool) → length (with_mark s p m) ≡ length s
length_with_mark s p m = length-set s p (code_at s p, m)

-- ---- codes

pub length_bare_units : (codes : List ℕ) → length (bare_units codes) ≡ length codes
unfolding bare_units
length_bare_units [] = refl
length_bare_units (c ∷ codes) = ap suc (length_bare_units codes)

-- one more code of those up to a position
pub bare_units_more : (s : Storage) (p i : ℕ) → p < length s → i ≤ p → bare_units (codes_ending s p (i + 1)) ≡ (if i == 0 then bare (code_at s (p - i)) else code_at s (p - i)) ∷ bare_units (codes_ending s p i)
unfolding bare_units
bare_units_more s p i h le =
    ap bare_units (codes_ending_more s p i h le)
    ∙ ap (λ n. (if n == 0 then bare (code_at s (p - i)) else code_at s (p - i)) ∷ bare_units (codes_ending s p i)) (length-codes_ending s p i h (omega arith))

pub copy_none : (s : Storage) (a first : ℕ) → s ≡ put_codes s first (bare_units (codes_ending s a 0))
unfolding put_codes bare_units
copy_none s a first = sym (ap (λ xs. put_codes s first (bare_units xs)) (codes_ending-none s a))

module _ (s : Storage) (a b count i : ℕ) (a_in : a < length s) (a_from : count ≤ a + 1) (b_in : b < length s) (b_from : count ≤ b + 1) (i_in : i < count) (apart : is_overlapping a b count ≡ false) (now : Storage) (is : now ≡ put_codes s (b + 1 - i) (bare_units (codes_ending s a i))) where
  -- what is read at A is an old code
  copied : code_at now (a - i) ≡ code_at s (a - i)
  copied =
      let long : length (bare_units (codes_ending s a i)) ≡ i = length_bare_units (codes_ending s a i) ∙ length-codes_ending s a i a_in (omega arith) in
      ap (λ t. code_at t (a - i)) is
      ∙ elim (dec_lt b a) [
        | no before ↦ ap (λ c. c.0) (cell-put_codes_below s (b + 1 - i) (bare_units (codes_ending s a i)) (a - i) (omega arith))
        | yes after ↦ ap (λ c. c.0) (cell-put_codes_above s (b + 1 - i) (bare_units (codes_ending s a i)) (a - i) (omega (arith, far after)))
      ] where
        far : b < a → count ≤ a - b
        far h = omega (arith, not_overlapping a b count apart)

  pub copy_step : put now (b - i) (if i == 0 then bare (code_at now (a - i)) else code_at now (a - i)) ≡ put_codes s (b + 1 - (i + 1)) (bare_units (codes_ending s a (i + 1)))
  unfolding put_codes
  copy_step =
      let first : b + 1 - (i + 1) ≡ b - i = omega arith in
      let next : b - i + 1 ≡ b + 1 - i = omega arith in
      let code = if i == 0 then bare (code_at s (a - i)) else code_at s (a - i) in
      ap (λ c. put now (b - i) (if i == 0 then bare c else c)) copied
      ∙ ap (λ t. put t (b - i) code) (is ∙ ap (λ n. put_codes s n (bare_units (codes_ending s a i))) (sym next))
      ∙ ap (λ n. put_codes s n (code ∷ bare_units (codes_ending s a i))) (sym first)
      ∙ ap (put_codes s (b + 1 - (i + 1))) (sym (bare_units_more s a i a_in (omega arith)))

-- ---- the codes that are moved

pub length-unmarked : (s : Storage) (first count : ℕ) → length (unmarked s first count) ≡ length s
unfolding unmarked
length-unmarked s first zero = refl
length-unmarked s first (suc count) = length_with_mark (unmarked s (first + 1) count) first false ∙ length-unmarked s (first + 1) count

pub codes_ending-unmarked : (s : Storage) (first many p count : ℕ) → codes_ending (unmarked s first many) p count ≡ codes_ending s p count
unfolding unmarked
codes_ending-unmarked s first zero p count = refl
codes_ending-unmarked s first (suc many) p count = codes_ending-with_mark (unmarked s (first + 1) many) first false p count ∙ codes_ending-unmarked s (first + 1) many p count

-- ---- codes by their place from the right

pub from_right_past : (codes : List ℕ) (j : ℕ) → length codes ≤ j → from_right codes j ≡ blank
unfolding from_right
from_right_past [] j h = refl
from_right_past (c ∷ codes) j h =
    let ne : j ≢ length codes = omega arith in
    ap (λ b. if b then c else from_right codes j) (ne_eqb j (length codes) ne) ∙ from_right_past codes j (omega arith)

-- lists that grow by a code at the left have it at that place
from_right_grown : (lists : ℕ → List ℕ) (codes : ℕ → ℕ) (top : ℕ) → ((i : ℕ) → i < top → lists (i + 1) ≡ codes i ∷ lists i) → ((i : ℕ) → i ≤ top → length (lists i) ≡ i) →
    (n j : ℕ) → n ≤ top → j < n → from_right (lists n) j ≡ codes j
unfolding from_right
from_right_grown lists codes top grows long zero j le h = absurd (omega arith)
from_right_grown lists codes top grows long (suc n) j le h =
    let size : length (lists n) ≡ n = long n (omega arith) in
    ap (λ k. from_right (lists k) j) (sym (add-one n)) ∙ ap (λ xs. from_right xs j) (grows n (omega arith))
    ∙ elim (dec_lt j n) [
      | yes before ↦
          let ne : j ≢ length (lists n) = omega arith in
          ap (λ b. if b then codes n else from_right (lists n) j) (ne_eqb j (length (lists n)) ne) ∙ from_right_grown lists codes top grows long n j (omega arith) before
      | no last ↦
          let same : j ≡ length (lists n) = omega arith in
          let back : n ≡ j = omega arith in
          ap (λ b. if b then codes n else from_right (lists n) j) (eq-eqb j (length (lists n)) same) ∙ ap codes back
    ]

pub from_right_bare : (s : Storage) (p n j : ℕ) → p < length s → n ≤ p + 1 → j < n → from_right (bare_units (codes_ending s p n)) j ≡ (if j == 0 then bare (code_at s (p - j)) else code_at s (p - j))
from_right_bare s p n j h le lt =
    from_right_grown (λ i. bare_units (codes_ending s p i)) (λ i. if i == 0 then bare (code_at s (p - i)) else code_at s (p - i)) (p + 1)
    (λ i l. bare_units_more s p i h (omega arith)) (λ i l. length_bare_units (codes_ending s p i) ∙ length-codes_ending s p i h (omega arith)) n j le lt

pub from_right-ending : (s : Storage) (p n j : ℕ) → p < length s → n ≤ p + 1 → j < n → from_right (codes_ending s p n) j ≡ code_at s (p - j)
from_right-ending s p n j h le lt =
    from_right_grown (codes_ending s p) (λ i. code_at s (p - i)) (p + 1) (λ i l. codes_ending_more s p i h (omega arith)) (λ i l. length-codes_ending s p i h (omega arith)) n j le lt

-- ---- the whole of a suppression

module _ (s : Storage) (a b count : ℕ) (a_in : a < length s) (b_in : b < length s) (a_from : count ≤ a + 1) (b_from : count ≤ b + 1) where
  pub all_suppressed : (u : Storage) → u ≡ unmarked s (b + 1 - count) count →
      (t : Storage) → t ≡ put_codes u (b + 1 - count) (bare_units (codes_ending u a count)) →
      (new : Storage) → new ≡ put_codes t (b + 1 - count) (blanked (min count (leading (ends Other) (codes_from t (b + 1 - count) count))) (codes_from t (b + 1 - count) count)) →
      new ≡ put_codes (unmarked s (b + 1 - count) count) (b + 1 - count) (suppressed (bare_units (codes_ending s a count)))
  unfolding suppressed
  all_suppressed u u_is t t_is new new_is =
      let first = b + 1 - count in
      let size : length u ≡ length s = ap length u_is ∙ length-unmarked s (b + 1 - count) count in
      let moved = bare_units (codes_ending u a count) in
      let long : length moved ≡ count = length_bare_units (codes_ending u a count) ∙ length-codes_ending u a count (omega arith) a_from in
      let least : min count (leading (ends Other) moved) ≡ leading (ends Other) moved = omega (arith, leading_within (ends Other) moved) in
      new_is
      ∙ ap (λ x. put_codes x first (blanked (min count (leading (ends Other) (codes_from x first count))) (codes_from x first count))) t_is
      ∙ blank_after u first count count (ends Other) moved long (omega arith)
      ∙ ap (λ n. put_codes u first (blanked n moved)) least
      ∙ ap (λ x. put_codes x first (suppressed (bare_units (codes_ending x a count)))) u_is
      ∙ ap (λ cs. put_codes (unmarked s first count) first (suppressed (bare_units cs))) (codes_ending-unmarked s first count a count)

pub from_right_none : (s : Storage) (p n j : ℕ) → p < length s → n ≤ p + 1 → n ≤ j → from_right (bare_units (codes_ending s p n)) j ≡ blank
from_right_none s p n j h le past = from_right_past (bare_units (codes_ending s p n)) j (omega (arith, length_bare_units (codes_ending s p n), length-codes_ending s p n h le))

-- the same, of what the calls answered
pub size_on : (now new : Storage) (p code n : ℕ) → new ≡ put now p code → length now ≡ n → length new ≡ n
size_on now new p code n new_is size = ap length new_is ∙ length-put now p code ∙ size

pub copied_on : (s : Storage) (a b count i : ℕ) → a < length s → count ≤ a + 1 → b < length s → count ≤ b + 1 → i < count → is_overlapping a b count ≡ false →
    (now : Storage) → now ≡ put_codes s (b + 1 - i) (bare_units (codes_ending s a i)) →
    (code : ℕ) → code ≡ (if i == 0 then bare (code_at now (a - i)) else code_at now (a - i)) →
    (new : Storage) → new ≡ put now (b - i) code → new ≡ put_codes s (b + 1 - (i + 1)) (bare_units (codes_ending s a (i + 1)))
copied_on s a b count i a_in a_from b_in b_from i_in apart now is code code_is new new_is =
    new_is ∙ ap (put now (b - i)) code_is ∙ copy_step s a b count i a_in a_from b_in b_from i_in apart now is

pub put_codes_long : (s new : Storage) (first : ℕ) (codes : List ℕ) → new ≡ put_codes s first codes → length new ≡ length s
put_codes_long s new first codes is = ap length is ∙ length-put_codes s first codes
