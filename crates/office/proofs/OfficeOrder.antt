-- Lists of jobs in order.
use Rattle.std.proofs.Common.{◌≡◌, ℕ, List, [], ◌∷◌, filter, Bool, true, false, ◌==◌, bytes_eq, not, Ordering, Less, Equal, Greater, refl, sym, ◌∙◌, true≢false, arith}
use Rattle.std.specs.List.{AllByRecursion}
use Rattle.std.specs.Ordering.{is_eq, ordering_then, nat_cmp}
use Rattle.std.specs.Cmp.{IsTotalOrder}
use Rattle.std.specs.Cmp.Lexicographic.{slice_cmp}
use Rattle.std.specs.List.Sorted.{IsStrictlySortedBy}
use Rattle.std.proofs.lemmas.Cmp.{nat_cmp_total, nat_list_cmp_total, on_total, then_total}
use Rattle.std.proofs.lemmas.Bool.Decides.{nat_tests}
use Rattle.std.proofs.lemmas.Map.Text.{is_eq-slice_cmp}
use Rattle.std.proofs.lemmas.Slice.Eq.{bytes_eq-Decides}
use Rattle.bcd.specs.Orders.{in_order}
use Rattle.bcd.proofs.Orders.{AreApart, in_order_rises}
use Rattle.office.specs.Office.{Entry, Office, is_entry, own, free_jobs, AreDistinct, by_number, by_name}

-- ---- jobs

pub lost : (b : Bool) → (b ≡ true → ⊥) → b ≡ false
lost true no_way = absurd (no_way refl)
lost false no_way = refl

pub named_alike : (a b : Entry) → b.customer ≡ a.customer → b.number ≡ a.number → is_entry a.customer a.number b ≡ true
named_alike a b customer number =
    let one : bytes_eq b.customer a.customer ≡ true = (bytes_eq-Decides b.customer a.customer).1 customer in
    let two : (b.number == a.number) ≡ true = grind (arith, nat_tests) in
    rw (one, two)

module _ (test : Entry → Bool) (cmp : Entry → Entry → Ordering)
    (tied : (a b : Entry) → test a ≡ true → test b ≡ true → is_eq (cmp a b) ≡ true → (b.customer ≡ a.customer) × (b.number ≡ a.number)) where
  apart_from : (a : Entry) → test a ≡ true → (office : Office) → AllByRecursion (λ b. is_entry a.customer a.number b ≡ false) office → AllByRecursion (λ b. is_eq (cmp a b) ≡ false) (filter test office)
  apart_from a is [] all = tt
  apart_from a is (b ∷ office) all = go (test b) refl (apart_from a is office all.1)
    where
      go : (t : Bool) → test b ≡ t → AllByRecursion (λ b. is_eq (cmp a b) ≡ false) (filter test office) → AllByRecursion (λ b. is_eq (cmp a b) ≡ false) (filter test (b ∷ office))
      go true this rest =
          let here : is_eq (cmp a b) ≡ false = lost (is_eq (cmp a b)) (λ e. let name = tied a b is this e in true≢false (sym (named_alike a b name.0 name.1) ∙ all.0)) in
          rw this (here, rest)
      go false this rest = rw this rest

  all_apart : (office : Office) → AreDistinct office → AreApart cmp (filter test office)
  all_apart [] distinct = tt
  all_apart (a ∷ office) distinct = go (test a) refl (all_apart office distinct.1)
    where
      go : (t : Bool) → test a ≡ t → AreApart cmp (filter test office) → AreApart cmp (filter test (a ∷ office))
      go true this rest = rw this (apart_from a this office distinct.0, rest)
      go false this rest = rw this rest

same_numbers : (m n : ℕ) → is_eq (nat_cmp m n) ≡ true → n ≡ m
same_numbers m n h = grind (arith, nat_tests)

number_total : IsTotalOrder by_number
number_total = on_total (λ (e : Entry). e.number) nat_cmp_total

name_total : IsTotalOrder by_name
name_total = then_total (on_total (λ (e : Entry). e.customer) nat_list_cmp_total) (on_total (λ (e : Entry). e.number) nat_cmp_total)

pub own_rise : (customer : List ℕ) (office : Office) → AreDistinct office → IsStrictlySortedBy by_number (in_order by_number (own customer office))
own_rise customer office distinct = in_order_rises by_number number_total (own customer office)
    (all_apart (λ e. bytes_eq e.customer customer) by_number
    (λ a b p q e. (let one = (bytes_eq-Decides a.customer customer).0 p in let two = (bytes_eq-Decides b.customer customer).0 q in two ∙ sym one, same_numbers a.number b.number e))
    office distinct)

tied_both : (o p : Ordering) → is_eq (ordering_then o p) ≡ true → (is_eq o ≡ true) × (is_eq p ≡ true)
tied_both Less p h = absurd (true≢false (sym h))
tied_both Equal p h = (refl, h)
tied_both Greater p h = absurd (true≢false (sym h))

same_names : (a b : Entry) → is_eq (by_name a b) ≡ true → (b.customer ≡ a.customer) × (b.number ≡ a.number)
same_names a b h =
    let both = tied_both (slice_cmp nat_cmp a.customer b.customer) (nat_cmp a.number b.number) h in
    (sym ((bytes_eq-Decides a.customer b.customer).0 (sym (is_eq-slice_cmp a.customer b.customer) ∙ both.0)), same_numbers a.number b.number both.1)

pub free_rise : (office : Office) → AreDistinct office → IsStrictlySortedBy by_name (in_order by_name (free_jobs office))
free_rise office distinct = in_order_rises by_name name_total (free_jobs office) (all_apart (λ e. not e.job.held) by_name (λ a b p q e. same_names a b e) office distinct)
