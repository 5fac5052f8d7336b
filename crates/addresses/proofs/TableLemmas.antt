-- the tables of addresses
use Rattle.std.proofs.Common.{◌≡◌, ℕ, ◌+◌, ◌<◌, ◌≤◌, Option, Some, None, refl, arith, eqb, leb, get_or, unwrap_or}
use Rattle.std.proofs.lemmas.Bool.{eqb-true, leb-true}
use Rattle.bcd.proofs.Tables.{at_each}
use Rattle.bcd.specs.Table.{digit_of, zone_of}
use Rattle.addresses.specs.Addresses.{weighed, sum_of, Spells}
use Rattle.addresses.specs.declared.tables.TheConstants.{FIRST, SECOND, THIRD, UNREADABLE}

pub first_at : (n : ℕ) → n < 64 → get_or FIRST n 0 ≡ unwrap_or (weighed 100 1000 n) UNREADABLE
unfolding weighed digit_of zone_of
first_at n h = eqb-true _ _ (at_each (λ k. eqb (get_or FIRST k 0) (unwrap_or (weighed 100 1000 k) UNREADABLE)) 64 refl n h)

pub first_most : (n : ℕ) → n < 64 → get_or FIRST n 0 ≤ UNREADABLE
first_most n h = leb-true _ _ (at_each (λ k. leb (get_or FIRST k 0) UNREADABLE) 64 refl n h)

pub second_at : (n : ℕ) → n < 64 → get_or SECOND n 0 ≡ unwrap_or (weighed 10 0 n) UNREADABLE
unfolding weighed digit_of zone_of
second_at n h = eqb-true _ _ (at_each (λ k. eqb (get_or SECOND k 0) (unwrap_or (weighed 10 0 k) UNREADABLE)) 64 refl n h)

pub second_most : (n : ℕ) → n < 64 → get_or SECOND n 0 ≤ UNREADABLE
second_most n h = leb-true _ _ (at_each (λ k. leb (get_or SECOND k 0) UNREADABLE) 64 refl n h)

pub third_at : (n : ℕ) → n < 64 → get_or THIRD n 0 ≡ unwrap_or (weighed 1 4000 n) UNREADABLE
unfolding weighed digit_of zone_of
third_at n h = eqb-true _ _ (at_each (λ k. eqb (get_or THIRD k 0) (unwrap_or (weighed 1 4000 k) UNREADABLE)) 64 refl n h)

pub third_most : (n : ℕ) → n < 64 → get_or THIRD n 0 ≤ UNREADABLE
third_most n h = leb-true _ _ (at_each (λ k. leb (get_or THIRD k 0) UNREADABLE) 64 refl n h)

-- what is read from each table, where it is there, leaves a sum below 16000
pub first_below : (n : ℕ) → n < 64 → unwrap_or (weighed 100 1000 n) 0 ≤ 3900
unfolding weighed digit_of zone_of
first_below n h = leb-true _ _ (at_each (λ k. leb (unwrap_or (weighed 100 1000 k) 0) 3900) 64 refl n h)

pub second_below : (n : ℕ) → n < 64 → unwrap_or (weighed 10 0 n) 0 ≤ 90
unfolding weighed digit_of zone_of
second_below n h = leb-true _ _ (at_each (λ k. leb (unwrap_or (weighed 10 0 k) 0) 90) 64 refl n h)

pub third_below : (n : ℕ) → n < 64 → unwrap_or (weighed 1 4000 n) 0 ≤ 12009
unfolding weighed digit_of zone_of
third_below n h = leb-true _ _ (at_each (λ k. leb (unwrap_or (weighed 1 4000 k) 0) 12009) 64 refl n h)

-- the sum of three entries is what was spelled, or too great where one of them is
pub spells : (x y z : Option ℕ) (p q r : ℕ) → p ≡ unwrap_or x UNREADABLE → q ≡ unwrap_or y UNREADABLE → r ≡ unwrap_or z UNREADABLE →
    unwrap_or x 0 ≤ 3900 → unwrap_or y 0 ≤ 90 → unwrap_or z 0 ≤ 12009 → Spells (sum_of x y z) (p + q + r)
spells (Some x) (Some y) (Some z) p q r e f g first second third = (omega arith, omega arith)
spells (Some x) (Some y) None p q r e f g first second third = omega arith
spells (Some x) None z p q r e f g first second third = omega arith
spells None y z p q r e f g first second third = omega arith
