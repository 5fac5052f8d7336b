-- characters that are moved one by one from the right
use Rattle.std.proofs.Common.{◌≡◌, ◌∷◌, false, ℕ, zero, suc, ◌+◌, ◌-◌, ◌%◌, ◌<◌, ◌≤◌, refl, sym, ◌∙◌, ap, arith, length, get_or, add-one, if◌then◌else◌}
use Rattle.std.proofs.Math.Nat.{mod-eq_of_lt, mod-eq-sub-mod}
use Rattle.std.proofs.Math.Decide.{dec_lt}
use Rattle.std.proofs.lemmas.Bool.{le-leb, lt-leb}
use Rattle.core_store.specs.Storage.{Storage, code_at, put, put_codes, codes_ending}
use Rattle.core_store.specs.Operands.{is_overlapping}
use Rattle.core_store.proofs.OperandCuts.{not_overlapping}
use Rattle.core_store.proofs.Fields.{cell-put_codes_below, cell-put_codes_above, code_at-put_codes, codes_ending-none, codes_ending_more}
use Rattle.moves.specs.Moved.{source, moved_codes}

pub length-moved_codes : (s : Storage) (a b count : ℕ) → length (moved_codes s a b count) ≡ count
unfolding moved_codes
length-moved_codes s a b zero = refl
length-moved_codes s a b (suc count) = ap suc (length-moved_codes s a b count)

-- the j-th code from the right
pub nth : (s : Storage) (a b count j place : ℕ) → place + j + 1 ≡ count → get_or (moved_codes s a b count) place 0 ≡ code_at s (source a b j)
unfolding moved_codes
nth s a b zero j place h = absurd (omega arith)
nth s a b (suc count) j zero h = let last : count ≡ j = omega arith in ap (λ n. code_at s (source a b n)) last
nth s a b (suc count) j (suc place) h = nth s a b count j place (omega arith)

source_before : (a b i : ℕ) → a ≤ b → source a b i ≡ a - i
source_before a b i h = ap (λ t. if t then a - i else a - i % (a - b)) (le-leb a b h)

source_after : (a b i : ℕ) → b < a → source a b i ≡ a - i % (a - b)
source_after a b i h = ap (λ t. if t then a - i else a - i % (a - b)) (lt-leb a b h)

module _ (s : Storage) (a b i : ℕ) (a_from : i ≤ a) (b_from : i ≤ b) (b_in : b < length s) where
  -- what is read at A is the old code of the source
  pub read_is : code_at (put_codes s (b + 1 - i) (moved_codes s a b i)) (a - i) ≡ code_at s (source a b i)
  read_is =
      let long : length (moved_codes s a b i) ≡ i = length-moved_codes s a b i in
      elim (dec_lt b a) [
        | no before ↦
            let le : a ≤ b = omega arith in
            ap (λ c. c.0) (cell-put_codes_below s (b + 1 - i) (moved_codes s a b i) (a - i) (omega arith)) ∙ ap (code_at s) (sym (source_before a b i le))
        | yes after ↦ elim (dec_lt i (a - b)) [
          | yes first ↦
              let same : a - i % (a - b) ≡ a - i = ap (λ n. a - n) (mod-eq_of_lt first) in
              ap (λ c. c.0) (cell-put_codes_above s (b + 1 - i) (moved_codes s a b i) (a - i) (omega arith)) ∙ ap (code_at s) (sym (source_after a b i after ∙ same))
          | no again ↦
              let far : a - b ≤ i = omega arith in
              let place : a - i ≡ b + 1 - i + (a - b - 1) = omega arith in
              ap (code_at (put_codes s (b + 1 - i) (moved_codes s a b i))) place
              ∙ code_at-put_codes s (b + 1 - i) (moved_codes s a b i) (a - b - 1) (omega arith) (omega arith)
              ∙ nth s a b i (i - (a - b)) (a - b - 1) (omega arith)
              ∙ ap (code_at s) (source_after a b (i - (a - b)) after ∙ ap (λ n. a - n) (sym (mod-eq-sub-mod far)) ∙ sym (source_after a b i after))
        ]
      ]

  pub move_step : (now : Storage) → now ≡ put_codes s (b + 1 - i) (moved_codes s a b i) →
      put now (b - i) (code_at now (a - i)) ≡ put_codes s (b + 1 - (i + 1)) (moved_codes s a b (i + 1))
  unfolding put_codes moved_codes
  move_step now is =
      let first : b + 1 - (i + 1) ≡ b - i = omega arith in
      let next : b - i + 1 ≡ b + 1 - i = omega arith in
      ap (λ t. put t (b - i) (code_at t (a - i))) is
      ∙ ap (λ c. put (put_codes s (b + 1 - i) (moved_codes s a b i)) (b - i) c) read_is
      ∙ ap (λ n. put (put_codes s n (moved_codes s a b i)) (b - i) (code_at s (source a b i))) (sym next)
      ∙ ap (λ n. put_codes s n (moved_codes s a b (suc i))) (sym first)
      ∙ ap (λ n. put_codes s (b + 1 - (i + 1)) (moved_codes s a b n)) (sym (add-one i))

pub move_none : (s : Storage) (a b first : ℕ) → s ≡ put_codes s first (moved_codes s a b 0)
unfolding put_codes moved_codes
move_none s a b first = refl

-- the step of the loop, of what the calls answered
pub moved_on : (s : Storage) (a b count i : ℕ) → count ≤ a + 1 → b < length s → count ≤ b + 1 → i < count →
    (now : Storage) → now ≡ put_codes s (b + 1 - i) (moved_codes s a b i) → (code : ℕ) → code ≡ code_at now (a - i) →
    (new : Storage) → new ≡ put now (b - i) code → new ≡ put_codes s (b + 1 - (i + 1)) (moved_codes s a b (i + 1))
moved_on s a b count i a_from b_in b_from i_in now is code code_is new new_is =
    new_is ∙ ap (put now (b - i)) code_is ∙ move_step s a b i (omega arith) (omega arith) b_in now is

-- ---- characters that are not written over before they are read

source_apart : (a b count i : ℕ) → i < count → is_overlapping a b count ≡ false → source a b i ≡ a - i
source_apart a b count i lt apart =
    elim (dec_lt b a) [
      | no before ↦ source_before a b i (omega arith)
      | yes after ↦
          let far : i < a - b = omega (arith, not_overlapping a b count apart) in
          source_after a b i after ∙ ap (λ n. a - n) (mod-eq_of_lt far)
    ]

moved_are_ending : (s : Storage) (a b count i : ℕ) → a < length s → count ≤ a + 1 → is_overlapping a b count ≡ false → i ≤ count → codes_ending s a i ≡ moved_codes s a b i
unfolding moved_codes
moved_are_ending s a b count zero a_in a_from apart le = codes_ending-none s a
moved_are_ending s a b count (suc i) a_in a_from apart le =
    ap (codes_ending s a) (sym (add-one i)) ∙ codes_ending_more s a i a_in (omega arith)
    ∙ ap (λ p. code_at s p ∷ codes_ending s a i) (sym (source_apart a b count i (omega arith) apart))
    ∙ ap (λ codes. code_at s (source a b i) ∷ codes) (moved_are_ending s a b count i a_in a_from apart (omega arith))

pub moved_apart : (s : Storage) (a b count : ℕ) → a < length s → count ≤ a + 1 → is_overlapping a b count ≡ false → (new : Storage) →
    new ≡ put_codes s (b + 1 - count) (codes_ending s a count) → new ≡ put_codes s (b + 1 - count) (moved_codes s a b count)
moved_apart s a b count a_in a_from apart new new_is =
    new_is ∙ ap (put_codes s (b + 1 - count)) (moved_are_ending s a b count count a_in a_from apart (omega arith))
