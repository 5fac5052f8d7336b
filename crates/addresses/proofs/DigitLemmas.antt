-- digits under zones, and addresses written and read
use Rattle.std.proofs.Common.{◌≡◌, ℕ, ◌+◌, ◌*◌, ◌/◌, ◌%◌, ◌<◌, ◌==◌, Option, Some, None, refl, sym, ◌∙◌, ap, arith, eqb, if◌then◌else◌, unwrap_or}
use Rattle.std.proofs.lemmas.Bool.{eqb-true}
use Rattle.std.specs.Option.{option_map}
use Rattle.bcd.proofs.Tables.{at_each}
use Rattle.bcd.specs.Table.{digit_of, zone_of, zone_number}
use Rattle.bcd.specs.declared.Zone.{Zone}
use Rattle.bcd.specs.declared.Zone.TheVariants.{Bare, A, B, AB}
use Rattle.addresses.specs.Digits.{code_of, digit_under}
use Rattle.addresses.specs.Addresses.{weighed, sum_of, base, tagged, decoded, zone_numbered, written, location_of}

abbrev number_of : Zone → ℕ → ℕ
number_of zone digit = 16 * zone_number zone + (if digit == 0 then 10 else digit)

-- the number of a digit's character, by the bits of its zone and its numeric part
pub digit_number : (zone : Zone) (digit : ℕ) → digit < 10 → 16 * zone_number zone + (if digit == 0 then 10 else digit) ≡ digit_under zone digit
unfolding digit_under code_of
digit_number Bare digit h = eqb-true _ _ (at_each (λ d. eqb (number_of Bare d) (digit_under Bare d)) 10 refl digit h)
digit_number A digit h = eqb-true _ _ (at_each (λ d. eqb (number_of A d) (digit_under A d)) 10 refl digit h)
digit_number B digit h = eqb-true _ _ (at_each (λ d. eqb (number_of B d) (digit_under B d)) 10 refl digit h)
digit_number AB digit h = eqb-true _ _ (at_each (λ d. eqb (number_of AB d) (digit_under AB d)) 10 refl digit h)

-- ---- its numeric value and its zone

is_some_of : (found : Option ℕ) (n : ℕ) → n < 10 → unwrap_or found 10 ≡ n → found ≡ Some n
is_some_of (Some x) n h e = ap Some e
is_some_of None n h e = absurd (omega arith)

abbrev value_of : Zone → ℕ → ℕ
value_of zone digit = unwrap_or (digit_of (digit_under zone digit)) 10

digit_read : (zone : Zone) (digit : ℕ) → digit < 10 → value_of zone digit ≡ digit
unfolding digit_under code_of digit_of
digit_read Bare digit h = eqb-true _ _ (at_each (λ d. eqb (value_of Bare d) d) 10 refl digit h)
digit_read A digit h = eqb-true _ _ (at_each (λ d. eqb (value_of A d) d) 10 refl digit h)
digit_read B digit h = eqb-true _ _ (at_each (λ d. eqb (value_of B d) d) 10 refl digit h)
digit_read AB digit h = eqb-true _ _ (at_each (λ d. eqb (value_of AB d) d) 10 refl digit h)

pub digit_of-digit_under : (zone : Zone) (digit : ℕ) → digit < 10 → digit_of (digit_under zone digit) ≡ Some digit
digit_of-digit_under zone digit h = is_some_of (digit_of (digit_under zone digit)) digit h (digit_read zone digit h)

pub zone_numbered-zone_number : (zone : Zone) → zone_numbered (zone_number zone) ≡ zone
zone_numbered-zone_number Bare = refl
zone_numbered-zone_number A = refl
zone_numbered-zone_number B = refl
zone_numbered-zone_number AB = refl

abbrev zone_read_as : Zone → ℕ → ℕ
zone_read_as zone digit = zone_number (zone_of (digit_under zone digit))

zone_read : (zone : Zone) (digit : ℕ) → digit < 10 → zone_read_as zone digit ≡ zone_number zone
unfolding digit_under code_of zone_of
zone_read Bare digit h = eqb-true _ _ (at_each (λ d. eqb (zone_read_as Bare d) 0) 10 refl digit h)
zone_read A digit h = eqb-true _ _ (at_each (λ d. eqb (zone_read_as A d) 1) 10 refl digit h)
zone_read B digit h = eqb-true _ _ (at_each (λ d. eqb (zone_read_as B d) 2) 10 refl digit h)
zone_read AB digit h = eqb-true _ _ (at_each (λ d. eqb (zone_read_as AB d) 3) 10 refl digit h)

pub zone_of-digit_under : (zone : Zone) (digit : ℕ) → digit < 10 → zone_of (digit_under zone digit) ≡ zone
zone_of-digit_under zone digit h =
    sym (zone_numbered-zone_number (zone_of (digit_under zone digit))) ∙ ap zone_numbered (zone_read zone digit h) ∙ zone_numbered-zone_number zone

-- ---- an address that was written is read again

pub weighed_digit : (of_digit of_zone : ℕ) (zone : Zone) (digit : ℕ) → digit < 10 → weighed of_digit of_zone (digit_under zone digit) ≡ Some (of_digit * digit + of_zone * zone_number zone)
unfolding weighed
weighed_digit of_digit of_zone zone digit h = rw (digit_of-digit_under zone digit h, zone_of-digit_under zone digit h) refl

pub zone_number-zone_numbered : (k : ℕ) → k < 4 → zone_number (zone_numbered k) ≡ k
zone_number-zone_numbered k h = eqb-true _ _ (at_each (λ n. eqb (zone_number (zone_numbered n)) n) 4 refl k h)

spelled_again : (n p tag q : ℕ) → n < 16000 → p ≡ n / 1000 % 4 → q ≡ n / 4000 →
    100 * (n / 100 % 10) + 1000 * p + (10 * (n / 10 % 10) + 0 * tag) + (1 * (n % 10) + 4000 * q) ≡ n
spelled_again n p tag q h e f = omega arith

base_written : (n : ℕ) → n < 16000 → (tag : Zone) →
    base (digit_under (zone_numbered (n / 1000 % 4)) (n / 100 % 10)) (digit_under tag (n / 10 % 10)) (digit_under (zone_numbered (n / 4000)) (n % 10)) ≡ Some n
unfolding base
base_written n h tag =
    let p = zone_numbered (n / 1000 % 4) in
    let q = zone_numbered (n / 4000) in
    let hundreds : n / 100 % 10 < 10 = omega arith in
    let tens : n / 10 % 10 < 10 = omega arith in
    let ones : n % 10 < 10 = omega arith in
    let thousands : n / 1000 % 4 < 4 = omega arith in
    let fours : n / 4000 < 4 = omega arith in
    ap (λ x. sum_of x (weighed 10 0 (digit_under tag (n / 10 % 10))) (weighed 1 4000 (digit_under q (n % 10)))) (weighed_digit 100 1000 p (n / 100 % 10) hundreds)
    ∙ ap (λ y. sum_of (Some (100 * (n / 100 % 10) + 1000 * zone_number p)) y (weighed 1 4000 (digit_under q (n % 10)))) (weighed_digit 10 0 tag (n / 10 % 10) tens)
    ∙ ap (λ z. sum_of (Some (100 * (n / 100 % 10) + 1000 * zone_number p)) (Some (10 * (n / 10 % 10) + 0 * zone_number tag)) z) (weighed_digit 1 4000 q (n % 10) ones)
    ∙ ap Some (spelled_again n (zone_number p) (zone_number tag) (zone_number q) h (zone_number-zone_numbered (n / 1000 % 4) thousands) (zone_number-zone_numbered (n / 4000) fours))

pub written_read : (n : ℕ) → n < 16000 → (tag : Zone) → decoded (written tag n) ≡ Some (record { base = n; index = location_of tag })
unfolding written tagged
written_read n h tag =
    let tens : n / 10 % 10 < 10 = omega arith in
    ap (λ found. option_map (λ k. record { base = k; index = location_of (zone_of (digit_under tag (n / 10 % 10))) }) found) (base_written n h tag)
    ∙ ap (λ zone. Some (record { base = n; index = location_of zone })) (zone_of-digit_under tag (n / 10 % 10) tens)
