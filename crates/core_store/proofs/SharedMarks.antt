-- marks in two fields, side by side
use Rattle.std.proofs.Common.{◌≡◌, ◌⊎◌, ℕ, ◌+◌, ◌-◌, ◌<◌, ◌≤◌, ◌∙◌, if◌then◌else◌, true, false, min, Option, Some, None, refl, sym, ap, arith, inl, inr}
use Rattle.std.proofs.Math.Decide.{dec_lt}
use Rattle.std.proofs.lemmas.Bool.{le-leb, lt-leb}
use Rattle.std.specs.Option.{option_map}
use Rattle.core_store.specs.Storage.{Storage, is_marked, greatest_mark, GreatestMark, field_length}
use Rattle.core_store.specs.Operands.{least_of, shared_length, up_to}
use Rattle.core_store.proofs.Marks.{greatest_is_greatest}
use Rattle.core_store.proofs.NearMarks.{Bare, field_here}

-- there is no count, or it is greater than this one
abbrev IsAbove : ℕ → Option ℕ → Type 0
IsAbove count None = Unit {0}
IsAbove count (Some m) = count < m

above : (s : Storage) (p count : ℕ) (found : Option ℕ) → GreatestMark s p found → Bare s p count → IsAbove count (option_map (λ q. p + 1 - q) found)
above s p count None h none = tt
above s p count (Some q) h none =
    let not_above : q ≤ p = h.not_above in
    elim (dec_lt (p - q) count) [
      | yes near ↦
          let back : q ≡ p - (p - q) = omega arith in
          let clash : true ≡ false = sym h.marked ∙ ap (is_marked s) back ∙ none (p - q) near in
          absurd (cc)
      | no off ↦ omega arith
    ]

-- a field is longer than the positions without a mark at its end
field_above : (s : Storage) (p count : ℕ) → Bare s p count → IsAbove count (field_length s p)
unfolding field_length
field_above s p count none = above s p count (greatest_mark s p) (greatest_is_greatest s p) none

inside : (m n : ℕ) → Some m ≡ Some n → m ≡ n
inside m n e = cc

least_here : (first second : Option ℕ) (n : ℕ) → first ≡ Some (n + 1) → IsAbove n second → least_of first second ≡ Some (n + 1)
least_here None second n is later = absurd (cc)
least_here (Some m) None n is later = is
least_here (Some m) (Some k) n is later =
    let same : m ≡ n + 1 = inside m (n + 1) is in
    let least : min m k ≡ n + 1 = omega (arith, same) in ap Some least

least_there : (first second : Option ℕ) (n : ℕ) → second ≡ Some (n + 1) → IsAbove n first → least_of first second ≡ Some (n + 1)
least_there first None n is later = absurd (cc)
least_there None (Some k) n is later = is
least_there (Some m) (Some k) n is later =
    let same : k ≡ n + 1 = inside k (n + 1) is in
    let least : min m k ≡ n + 1 = omega (arith, same) in ap Some least

least_above : (first second : Option ℕ) (n : ℕ) → IsAbove n first → IsAbove n second → IsAbove n (least_of first second)
least_above None second n one other = other
least_above (Some m) None n one other = one
least_above (Some m) (Some k) n one other = omega (arith, one, other)

up_here : (n limit : ℕ) → n ≤ limit → up_to limit (Some n) ≡ Some n
up_here n limit le = ap (λ b. if b then Some n else None) (le-leb n limit le)

up_none : (found : Option ℕ) (limit : ℕ) → IsAbove limit found → up_to limit found ≡ None
up_none None limit later = refl
up_none (Some n) limit later = ap (λ b. if b then Some n else None) (lt-leb n limit later)

-- where one of two fields has its mark, and neither has one before, they share so many characters
pub shared_here : (s : Storage) (a b count : ℕ) → count ≤ a → count ≤ b → (is_marked s (a - count) ≡ true) ⊎ (is_marked s (b - count) ≡ true)
    → Bare s a count → Bare s b count → Some (count + 1) ≡ shared_length s a b
unfolding shared_length
shared_here s a b count a_room b_room (inl marked) a_bare b_bare =
    sym (ap (up_to (min a b + 1)) (least_here (field_length s a) (field_length s b) count (field_here s a count a_room marked a_bare) (field_above s b count b_bare))
    ∙ up_here (count + 1) (min a b + 1) (omega arith))
shared_here s a b count a_room b_room (inr marked) a_bare b_bare =
    sym (ap (up_to (min a b + 1)) (least_there (field_length s a) (field_length s b) count (field_here s b count b_room marked b_bare) (field_above s a count a_bare))
    ∙ up_here (count + 1) (min a b + 1) (omega arith))

-- where neither has a mark down to position 0 of one of them, they share none
pub shared_none : (s : Storage) (a b count : ℕ) → count ≡ min a b + 1 → Bare s a count → Bare s b count → None ≡ shared_length s a b
unfolding shared_length
shared_none s a b count all a_bare b_bare =
    let above_all = least_above (field_length s a) (field_length s b) count (field_above s a count a_bare) (field_above s b count b_bare) in
    sym (ap (λ n. up_to n (least_of (field_length s a) (field_length s b))) (sym all) ∙ up_none (least_of (field_length s a) (field_length s b)) count above_all)
