-- a field of at most sixteen characters that is loaded at once
use Rattle.std.proofs.Common.{◌≡◌, ◌≢◌, ℕ, zero, suc, ◌+◌, ◌-◌, ◌<◌, ◌≤◌, Bool, true, false, Some, Ok, List, refl, sym, ◌∙◌, ap, arith, length, get_or, set, drop, add-one}
use Rattle.std.proofs.lemmas.Bool.{le-leb}
use Rattle.std.proofs.lemmas.List.{get_or-set_same, get_or-set_other, set-set, set_comm}
use Rattle.core_store.specs.Storage.{Storage, code_at, is_marked, put, with_mark, put_codes, put_cells, codes_ending, cells_ending, field_length}
use Rattle.core_store.specs.Operands.{are_inside, is_overlapping, lowered_by}
use Rattle.core_store.specs.declared.registers.Registers.{Registers}
use Rattle.core_store.proofs.Fields.{codes_ending_more, codes_ending-none, cells_ending_more, cells_ending-none, with_mark-put, length-put_codes}
use Rattle.core_store.proofs.NearCodes.{last_of_sixteen}
use Rattle.moves.specs.Suppressed.{unmarked}
use Rattle.moves.specs.Loaded.{field_loaded}
use Rattle.moves.proofs.Copying.{length-unmarked}
use Rattle.moves.proofs.PositionLaw.{IsField, field_is}

mark_after_put : (s : Storage) (p q code : ℕ) (m : Bool) → p < q → with_mark (put s p code) q m ≡ put (with_mark s q m) p code
mark_after_put s p q code m lt =
    let ne : q ≢ p = omega arith in
    let back : p ≢ q = omega arith in
    ap (λ c. set (put s p code) q (c.0, m)) (get_or-set_other s p q (code, is_marked s p) (0, false) ne)
    ∙ set_comm s p q (code, is_marked s p) (code_at s q, m) back
    ∙ ap (λ c. set (with_mark s q m) p (code, c.1)) (sym (get_or-set_other s q p (code_at s q, m) (0, false) back))

-- marks cleared above a position where a character is put
unmarked_put : (s : Storage) (p code first count : ℕ) → p < first → unmarked (put s p code) first count ≡ put (unmarked s first count) p code
unfolding unmarked
unmarked_put s p code first zero lt = refl
unmarked_put s p code first (suc count) lt =
    ap (λ t. with_mark t first false) (unmarked_put s p code (first + 1) count (omega arith))
    ∙ mark_after_put (unmarked s (first + 1) count) p first code false lt

module _ (s : Storage) (a : ℕ) (a_in : a < length s) where
  -- the characters at the right of a field's mark
  bare_loaded : (n first : ℕ) → n ≤ a → first + n ≤ length s → ((j : ℕ) → j < n → is_marked s (a - j) ≡ false) →
      put_cells s first (cells_ending s a n) ≡ unmarked (put_codes s first (codes_ending s a n)) first n
  unfolding put_cells put_codes unmarked
  bare_loaded zero first le room bare =
      ap (put_cells s first) (cells_ending-none s a) ∙ sym (ap (put_codes s first) (codes_ending-none s a))
  bare_loaded (suc n) first le room bare =
      let code = code_at s (a - n) in
      let rest = put_codes s (first + 1) (codes_ending s a n) in
      let long : length (unmarked rest (first + 1) n) ≡ length s = length-unmarked rest (first + 1) n ∙ length-put_codes s (first + 1) (codes_ending s a n) in
      ap (λ k. put_cells s first (cells_ending s a k)) (sym (add-one n))
      ∙ ap (put_cells s first) (cells_ending_more s a n a_in (omega arith))
      ∙ ap (λ m. set (put_cells s (first + 1) (cells_ending s a n)) first (code, m)) (bare n (omega arith))
      ∙ ap (λ t. set t first (code, false)) (bare_loaded n (first + 1) (omega arith) (omega arith) (λ j lt. bare j (omega arith)))
      ∙ sym (with_mark-put (unmarked rest (first + 1) n) first code false (omega arith))
      ∙ ap (λ t. with_mark t first false) (sym (unmarked_put rest first code (first + 1) n (omega arith)))
      ∙ ap (λ xs. unmarked (put_codes s first xs) first (suc n)) (sym (codes_ending_more s a n a_in (omega arith)))
      ∙ ap (λ k. unmarked (put_codes s first (codes_ending s a k)) first (suc n)) (add-one n)

  field_at_once : (count n first : ℕ) → count ≡ suc n → IsField s a count → first + count ≤ length s →
      with_mark (unmarked (put_codes s first (codes_ending s a count)) first count) first true ≡ put_cells s first (cells_ending s a count)
  unfolding put_cells put_codes unmarked
  field_at_once count n first count_is known room =
      let from : count ≤ a + 1 = known.from in
      let more : count ≡ n + 1 = omega arith in
      let code = code_at s (a - n) in
      let left : a + 1 - count ≡ a - n = omega arith in
      let marked : true ≡ is_marked s (a - n) = sym (ap (is_marked s) (sym left) ∙ known.first) in
      let rest = put_codes s (first + 1) (codes_ending s a n) in
      let bare = unmarked rest (first + 1) n in
      let long : length bare ≡ length s = length-unmarked rest (first + 1) n ∙ length-put_codes s (first + 1) (codes_ending s a n) in
      let inside : first < length bare = omega arith in
      ap (λ k. with_mark (unmarked (put_codes s first (codes_ending s a count)) first k) first true) count_is
      ∙ ap (λ k. with_mark (unmarked (put_codes s first (codes_ending s a k)) first (suc n)) first true) more
      ∙ ap (λ xs. with_mark (unmarked (put_codes s first xs) first (suc n)) first true) (codes_ending_more s a n a_in (omega arith))
      ∙ ap (λ t. with_mark (with_mark t first false) first true) (unmarked_put rest first code (first + 1) n (omega arith))
      ∙ ap (λ t. with_mark t first true) (with_mark-put bare first code false inside)
      ∙ ap (λ c. set (set bare first (code, false)) first (c.0, true)) (get_or-set_same bare first (code, false) (0, false) inside)
      ∙ set-set bare first (code, false) (code, true)
      ∙ ap (λ m. set bare first (code, m)) marked
      ∙ ap (λ t. set t first (get_or s (a - n) (0, false))) (sym (bare_loaded n (first + 1) (omega arith) (omega arith) (λ j lt. known.others j (omega arith))))
      ∙ ap (put_cells s first) (sym (cells_ending_more s a n a_in (omega arith)))
      ∙ ap (λ k. put_cells s first (cells_ending s a k)) (sym more)

pub near_loaded : (s : Storage) (a b count : ℕ) → a < length s → b < length s → 15 ≤ a → 15 ≤ b → count ≤ 16 → field_length s a ≡ Some count →
    (xs : List ℕ) → xs ≡ codes_ending s a 16 → (t : Storage) → t ≡ put_codes s (b + 1 - count) (drop (16 - count) xs) → (u : Storage) → u ≡ unmarked t (b + 1 - count) count →
    (new : Storage) → new ≡ with_mark u (b + 1 - count) true → new ≡ put_cells s (b + 1 - count) (cells_ending s a count)
near_loaded s a b count a_in b_in room room' most field xs xs_is t t_is u u_is new new_is =
    let first = b + 1 - count in
    let known = field_is s a count field in
    let some : 1 ≤ count = known.some in
    new_is ∙ ap (λ v. with_mark v first true) (u_is ∙ ap (λ v. unmarked v first count) (t_is ∙ ap (λ l. put_codes s first (drop (16 - count) l)) xs_is ∙ ap (put_codes s first) (last_of_sixteen s a count room a_in most)))
    ∙ field_at_once s a a_in count (count - 1) first (omega arith) known (omega arith)

-- a load that passes all checks
pub load_passes : (s : Storage) (r : Registers) (count : ℕ) → are_inside s r.a r.b ≡ true → field_length s r.a ≡ Some count → count ≤ r.b + 1 → is_overlapping r.a r.b count ≡ false →
    (new : Storage) → new ≡ put_cells s (r.b + 1 - count) (cells_ending s r.a count) → (after : Registers) → after ≡ lowered_by r count count → field_loaded s r ≡ Ok (new, after)
unfolding field_loaded
load_passes s r count inside field room apart new new_is after after_is =
    rw (inside, field, le-leb count (r.b + 1) room, apart) (ap (λ t. Ok (t, lowered_by r count count)) (sym new_is) ∙ ap (λ x. Ok (new, x)) (sym after_is))
