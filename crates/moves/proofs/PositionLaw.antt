-- what a move and a load write, position by position
use Rattle.std.proofs.Common.{◌≡◌, ℕ, ◌+◌, ◌-◌, ◌<◌, ◌≤◌, ◌&&◌, Bool, true, false, Option, Some, None, Ok, sym, ◌∙◌, refl, ap, arith, length, nat_lt, nat_le}
use Rattle.std.specs.Option.{option_map}
use Rattle.std.proofs.lemmas.Bool.Decides.{nat_tests}
use Rattle.core_store.specs.Storage.{Storage, code_at, cell_at, is_marked, greatest_mark, GreatestMark, field_length, put_codes, put_cells, cells_ending}
use Rattle.core_store.specs.Operands.{are_inside}
use Rattle.core_store.specs.Checked.{require, find_or}
use Rattle.core_store.specs.declared.registers.Registers.{Registers}
use Rattle.core_store.specs.declared.checks.Check.TheVariants.{Address}
use Rattle.core_store.proofs.Marks.{greatest_is_greatest}
use Rattle.core_store.proofs.Fields.{cell-put_codes_below, cell-put_codes_above, code_at-put_codes, is_marked-put_codes, cell-put_cells_below, cell-put_cells_above, cell-put_cells, nth-cells_ending, length-cells_ending}
use Rattle.moves.specs.Moved.{moved_codes, moved, move_length, IsMoved}
use Rattle.moves.specs.Loaded.{field_loaded, IsLoaded}
use Rattle.moves.proofs.MovingLemmas.{length-moved_codes, nth}

-- ---- what passed the checks

passed : (test : Bool) (made out : Storage × Registers) → require test Address (Ok made) ≡ Ok out → (test ≡ true) × (made ≡ out)
passed true made out h = (cc, cc)
passed false made out h = absurd (cc)

found_moved : (inside : Bool) (found : Option ℕ) (room : ℕ → Bool) (made : ℕ → Storage × Registers) (count : ℕ) (out : Storage × Registers) → found ≡ Some count →
    require inside Address (find_or found Address (λ n. require (room n) Address (Ok (made n)))) ≡ Ok out → (inside ≡ true) × (room count ≡ true) × (made count ≡ out)
found_moved false found room made count out f h = absurd (cc)
found_moved true None room made count out f h = absurd (cc)
found_moved true (Some n) room made count out f h =
    let same : n ≡ count = cc in
    let known = passed (room n) (made n) out h in
    (refl, ap room (sym same) ∙ known.0, ap made (sym same) ∙ known.1)

found_apart : (inside : Bool) (found : Option ℕ) (room apart : ℕ → Bool) (made : ℕ → Storage × Registers) (count : ℕ) (out : Storage × Registers) → found ≡ Some count →
    require inside Address (find_or found Address (λ n. require (room n) Address (require (apart n) Address (Ok (made n))))) ≡ Ok out →
    (inside ≡ true) × (room count ≡ true) × (apart count ≡ true) × (made count ≡ out)
found_apart false found room apart made count out f h = absurd (cc)
found_apart true None room apart made count out f h = absurd (cc)
found_apart true (Some n) room apart made count out f h =
    let same : n ≡ count = cc in
    let known = both (room n) (apart n) (made n) h in
    (refl, ap room (sym same) ∙ known.0, ap apart (sym same) ∙ known.1, ap made (sym same) ∙ known.2) where
      both : (fits far : Bool) (one : Storage × Registers) → require fits Address (require far Address (Ok one)) ≡ Ok out → (fits ≡ true) × (far ≡ true) × (one ≡ out)
      both false far one h = absurd (cc)
      both true far one h = let known = passed far one out h in (refl, known.0, known.1)

both_below : (a b n : ℕ) → (nat_lt a n && nat_lt b n) ≡ true → (a < n) × (b < n)
both_below a b n h = (grind (arith, nat_tests), grind (arith, nat_tests))

both_within : (n a b : ℕ) → (nat_le n a && nat_le n b) ≡ true → (n ≤ a) × (n ≤ b)
both_within n a b h = (grind (arith, nat_tests), grind (arith, nat_tests))

within : (n b : ℕ) → nat_le n b ≡ true → n ≤ b
within n b h = grind (arith, nat_tests)

-- ---- a move

moved_at : (s : Storage) (a b count : ℕ) → b < length s → count ≤ b + 1 → IsMoved s a b count (put_codes s (b + 1 - count) (moved_codes s a b count))
moved_at s a b count b_in b_from =
    let put = moved_codes s a b count in
    let long : length put ≡ count = length-moved_codes s a b count in
    let first = b + 1 - count in
    record {
      codes = λ i lt.
          let place : b - i ≡ b + 1 - count + (count - 1 - i) = omega arith in
          ap (code_at (put_codes s first put)) place ∙ code_at-put_codes s first put (count - 1 - i) (omega arith) (omega arith) ∙ nth s a b count i (count - 1 - i) (omega arith);
      below = λ p h. ap (λ c. c.0) (cell-put_codes_below s first put p (omega arith));
      above = λ p h. ap (λ c. c.0) (cell-put_codes_above s first put p (omega arith));
      marks = λ p. is_marked-put_codes s first put p;
    }

pub is_moved : (s new : Storage) (r after : Registers) (count : ℕ) → move_length s r.a r.b ≡ Some count → moved s r ≡ Ok (new, after) → IsMoved s r.a r.b count new
unfolding moved
is_moved s new r after count many h =
    let known = found_moved (are_inside s r.a r.b) (move_length s r.a r.b) _ _ count (new, after) many h in
    let inside = both_below r.a r.b (length s) known.0 in
    let room = both_within count (r.a + 1) (r.b + 1) known.1 in
    let made : put_codes s (r.b + 1 - count) (moved_codes s r.a r.b count) ≡ new = ap (λ o. o.0) known.2 in
    rw (← made) (moved_at s r.a r.b count inside.1 room.1)

-- ---- a field

pub record IsField (s : Storage) (p count : ℕ) : Type 0 where
  pub some : 1 ≤ count
  pub from : count ≤ p + 1
  pub first : is_marked s (p + 1 - count) ≡ true
  pub others : (i : ℕ) → i + 1 < count → is_marked s (p - i) ≡ false

field_of : (s : Storage) (p count : ℕ) (found : Option ℕ) → GreatestMark s p found → option_map (λ first. p + 1 - first) found ≡ Some count → IsField s p count
field_of s p count None h e = absurd (cc)
field_of s p count (Some q) h e =
    let many : p + 1 - q ≡ count = cc in
    let le : q ≤ p = h.not_above in
    let start : p + 1 - count ≡ q = omega arith in
    record {
      some = omega arith;
      from = omega arith;
      first = ap (is_marked s) start ∙ h.marked;
      others = λ i lt. h.none_between (p - i) (omega arith) (omega arith);
    }

pub field_is : (s : Storage) (p count : ℕ) → field_length s p ≡ Some count → IsField s p count
unfolding field_length
field_is s p count h = field_of s p count (greatest_mark s p) (greatest_is_greatest s p) h

-- ---- a load

loaded_at : (s : Storage) (a b count : ℕ) → a < length s → b < length s → count ≤ b + 1 → IsField s a count → IsLoaded s a b count (put_cells s (b + 1 - count) (cells_ending s a count))
loaded_at s a b count a_in b_in b_from known =
    let put = cells_ending s a count in
    let some : 1 ≤ count = known.some in
    let long : length put ≡ count = length-cells_ending s a count a_in known.from in
    let first = b + 1 - count in
    let new = put_cells s first put in
    record {
      codes = λ i lt. ap (λ c. c.0) (cell i lt);
      first = let left : b + 1 - count ≡ b - (count - 1) = omega arith in
          let start : a - (count - 1) ≡ a + 1 - count = omega arith in
          ap (is_marked new) left ∙ ap (λ c. c.1) (cell (count - 1) (omega arith)) ∙ ap (is_marked s) start ∙ known.first;
      others = λ i lt. ap (λ c. c.1) (cell i (omega arith)) ∙ known.others i lt;
      below = λ p h. cell-put_cells_below s first put p (omega arith);
      above = λ p h. cell-put_cells_above s first put p (omega arith);
    } where
      cell : (i : ℕ) → i < count → cell_at (put_cells s (b + 1 - count) (cells_ending s a count)) (b - i) ≡ cell_at s (a - i)
      cell i lt =
          let fits : count ≤ a + 1 = known.from in
          let size : length (cells_ending s a count) ≡ count = length-cells_ending s a count a_in known.from in
          let place : b - i ≡ b + 1 - count + (count - 1 - i) = omega arith in
          ap (cell_at (put_cells s (b + 1 - count) (cells_ending s a count))) place
          ∙ cell-put_cells s (b + 1 - count) (cells_ending s a count) (count - 1 - i) (omega arith) (omega arith)
          ∙ nth-cells_ending s a count (count - 1 - i) i a_in fits (omega arith)

pub is_loaded : (s new : Storage) (r after : Registers) (count : ℕ) → field_length s r.a ≡ Some count → field_loaded s r ≡ Ok (new, after) → IsLoaded s r.a r.b count new
unfolding field_loaded
is_loaded s new r after count many h =
    let known = found_apart (are_inside s r.a r.b) (field_length s r.a) _ _ _ count (new, after) many h in
    let inside = both_below r.a r.b (length s) known.0 in
    let room : count ≤ r.b + 1 = within count (r.b + 1) known.1 in
    let made : put_cells s (r.b + 1 - count) (cells_ending s r.a count) ≡ new = ap (λ o. o.0) known.3 in
    rw (← made) (loaded_at s r.a r.b count inside.0 inside.1 room (field_is s r.a count many))
