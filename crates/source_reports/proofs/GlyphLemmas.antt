-- for `push_taken_glyphs` of `expected_operands`: the texts of so many numbers, and of one more
use Rattle.std.proofs.Common.{◌≡◌, ◌∙◌, ap, sym, ℕ, zero, suc, ◌+◌, List, ◌++◌, append_assoc, arith}
use Rattle.std.specs.List.{flat_map, range_with_len}
use Rattle.std.proofs.lemmas.Grind.{common_steps}

from_on : (f : ℕ → List ℕ) (a n j : ℕ) → a + n ≡ j
    → flat_map f (range_with_len a (suc n)) ≡ flat_map f (range_with_len a n) ++ f j
from_on f a zero j is = let same : a ≡ j = omega (arith, is) in grind (arith, common_steps, same)
from_on f a (suc n) j is =
    ap (λ rest. f a ++ rest) (from_on f (a + 1) n j (omega (arith, is)))
    ∙ sym (append_assoc (f a) (flat_map f (range_with_len (a + 1) n)) (f j))

pub one_more : (f : ℕ → List ℕ) (n : ℕ) → flat_map f (range_with_len 0 (n + 1))
    ≡ flat_map f (range_with_len 0 n) ++ f n
one_more f n =
    let next : n + 1 ≡ suc n = omega arith in
    ap (λ count. flat_map f (range_with_len 0 count)) next ∙ from_on f 0 n n (omega arith)
