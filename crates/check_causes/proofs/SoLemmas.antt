-- what holds of each cause that tests tell
use Rattle.std.proofs.Common.{◌≡◌, ◌⊎◌, inl, inr, ℕ, zero, suc, ◌+◌, ◌-◌, ◌*◌, ◌<◌, ◌≤◌, not, Bool, true, false, Option, Some, None, Result, Ok, Err, refl, subst, arith, length, ltb, leb, is_some, if◌then◌else◌}
use Rattle.std.proofs.Math.Decide.{dec_lt}
use Rattle.std.proofs.lemmas.Bool.{lt-ltb, le-leb}
use Rattle.std.specs.Option.{option_map}
use Rattle.bcd.specs.Table.{glyph_of, digit_of, zone_of, zone_number}
use Rattle.core_store.specs.Storage.{Storage, code_at, field_length}
use Rattle.core_store.specs.Operands.{cut_length}
use Rattle.addresses.specs.Effective.{base_ending}
use Rattle.addresses.specs.Addresses.{base, weighed, sum_of}
use Rattle.check_causes.specs.declared.causes.Cause.{Cause}
use Rattle.check_causes.specs.declared.causes.Cause.TheVariants.{FieldPast, NoFieldMark, TooFew, NoDigit, NoNumber, Overlap}
use Rattle.check_causes.specs.Tested.{Tested, passed, needs, finds, given, after, told}
use Rattle.check_causes.specs.Fields.{place_told, places_told, room_told, three_told, length_told, cut_told, counts_told, apart_told, digit_told, digits_told, first_without_digit, number_told}
use Rattle.check_causes.specs.Sentences.{HasNoMark, IsField, OneHasNoDigit}
use Rattle.check_causes.proofs.FieldFacts.{place_in, places_in, no_mark, uncut, cut_few, whole, found_ok}

-- it holds of the cause that is told, if one is
abbrev pub So : {T : Type 0} → (Cause → Type 0) → Result T Cause → Type 0
So P (Ok x) = Unit {0}
So P (Err cause) = P cause

pub so_needs : {T : Type 0} (P : Cause → Type 0) (b : Bool) (c : Cause) (rest : Result T Cause) → (b ≡ false → P c) → (b ≡ true → So P rest) → So P (needs b c rest)
so_needs P true c rest h k = k refl
so_needs P false c rest h k = h refl

pub so_finds : {S T : Type 0} (P : Cause → Type 0) (found : Option S) (c : Cause) (rest : S → Result T Cause) → (found ≡ None → P c) → ((x : S) → found ≡ Some x → So P (rest x)) → So P (finds found c rest)
so_finds P (Some x) c rest h k = k x refl
so_finds P None c rest h k = h refl

pub so_given : {S T : Type 0} (P : Cause → Type 0) (found : Result S Cause) (rest : S → Result T Cause) → So P found → ((x : S) → found ≡ Ok x → So P (rest x)) → So P (given found rest)
so_given P (Ok x) rest h k = k x refl
so_given P (Err cause) rest h k = h

pub so_after : {T : Type 0} (P : Cause → Type 0) (tests : Tested) (rest : Result T Cause) → So P tests → (tests ≡ passed → So P rest) → So P (after tests rest)
so_after P (Ok done) rest h k = k refl
so_after P (Err cause) rest h k = h

pub so_if : {T : Type 0} (P : Cause → Type 0) (b : Bool) (one other : Result T Cause) → (b ≡ true → So P one) → (b ≡ false → So P other) → So P (if b then one else other)
so_if P true one other h k = h refl
so_if P false one other h k = k refl

pub so_told : (P : Cause → Type 0) (tests : Tested) (c : Cause) → So P tests → told tests ≡ Some c → P c
so_told P (Ok x) c h e = absurd (cc)
so_told P (Err cause) c h e = let same : cause ≡ c = cc in subst P same h

-- ---- tests that fail

clash : {X : Type 0} (b : Bool) → b ≡ true → b ≡ false → X
clash true e f = absurd (cc)
clash false e f = absurd (cc)

pub not_below : (a b : ℕ) → ltb a b ≡ false → b ≤ a
not_below a b f = elim (dec_lt a b) [ yes lt ↦ clash (ltb a b) (lt-ltb a b lt) f | no ge ↦ omega arith ]

pub not_most : (a b : ℕ) → leb a b ≡ false → b < a
not_most a b f = elim (dec_lt b a) [ yes lt ↦ lt | no ge ↦ clash (leb a b) (le-leb a b (omega arith)) f ]

pub not_false : (b : Bool) → not b ≡ false → b ≡ true
not_false true f = refl
not_false false f = absurd (cc)

-- ---- fields

module _ (P : Cause → Type 0) (s : Storage) where
  pub place_so : (p : ℕ) → (length s ≤ p → P (FieldPast p)) → So P (place_told s p)
  unfolding place_told
  place_so p past = so_needs P (ltb p (length s)) (FieldPast p) passed (λ f. past (not_below p (length s) f)) (λ t. tt)

  pub places_so : (a b : ℕ) → (length s ≤ a → P (FieldPast a)) → (length s ≤ b → P (FieldPast b)) → So P (places_told s a b)
  unfolding places_told
  places_so a b a_past b_past = so_after P (place_told s a) (place_told s b) (place_so a a_past) (λ t. place_so b b_past)

  pub three_so : (p : ℕ) → (length s ≤ p → P (FieldPast p)) → (p < length s → p + 1 < 3 → P (TooFew p)) → So P (three_told s p)
  unfolding three_told room_told
  three_so p past few =
      so_after P (place_told s p) _ (place_so p past) (λ inside.
      so_needs P (leb 3 (p + 1)) (TooFew p) passed (λ f. few (place_in s p inside) (not_most 3 (p + 1) f)) (λ t. tt))

  pub length_so : (p : ℕ) → (HasNoMark s p → P (NoFieldMark p)) → So P (length_told s p)
  unfolding length_told
  length_so p none = so_finds P (field_length s p) (NoFieldMark p) (λ count. Ok count) (λ e. none (no_mark s p e)) (λ count e. tt)

  pub cut_so : (p limit : ℕ) → (p + 1 < limit → HasNoMark s p → P (NoFieldMark p)) → So P (cut_told s p limit)
  unfolding cut_told
  cut_so p limit none = so_finds P (cut_length s p limit) (NoFieldMark p) (λ count. Ok count) (λ e. none (cut_few s p limit e) (uncut s p limit e)) (λ count e. tt)

  pub counts_so : (a b : ℕ) → (length s ≤ a → P (FieldPast a)) → (length s ≤ b → P (FieldPast b)) → ((count : ℕ) → a < length s → IsField s b count → a + 1 < count → HasNoMark s a → P (NoFieldMark a)) →
      (b < length s → HasNoMark s b → P (NoFieldMark b)) → So P (counts_told s a b)
  unfolding counts_told length_told
  counts_so a b a_past b_past a_none b_none =
      so_after P (places_told s a b) _ (places_so a b a_past b_past) (λ inside.
      so_given P (length_told s b) _ (length_so b (b_none (places_in s a b inside).1)) (λ b_count e.
      let field = whole s b b_count (found_ok (field_length s b) (NoFieldMark b) b_count e) in
      so_given P (cut_told s a b_count) _ (cut_so a b_count (λ few none. a_none b_count (places_in s a b inside).0 field few none)) (λ a_count f. tt)))

pub room_so : (P : Cause → Type 0) (count p : ℕ) → (p + 1 < count → P (TooFew p)) → So P (room_told count p)
unfolding room_told
room_so P count p few = so_needs P (leb count (p + 1)) (TooFew p) passed (λ f. few (not_most count (p + 1) f)) (λ t. tt)

pub apart_so : (P : Cause → Type 0) (overlap : Bool) → (overlap ≡ true → P Overlap) → So P (apart_told overlap)
unfolding apart_told
apart_so P overlap h = so_needs P (not overlap) Overlap passed (λ f. h (not_false overlap f)) (λ t. tt)

-- ---- digits

-- what was found without a digit is among the positions
pub record IsWithout (s : Storage) (p count q : ℕ) : Type 0 where
  pub upto : q ≤ p
  pub among : p < q + count
  pub none : digit_of (code_at s q) ≡ None

is_none : (found : Option ℕ) → is_some found ≡ false → found ≡ None
is_none (Some x) h = absurd (cc)
is_none None h = refl

pub without : (s : Storage) (p count q : ℕ) → count ≤ p + 1 → first_without_digit s p count ≡ Some q → IsWithout s p count q
unfolding first_without_digit
without s p zero q le h = absurd (cc)
without s p (suc count) q le h = go (is_some (digit_of (code_at s (p - count)))) refl (without s p count q (omega arith)) h
  where
    go : (b : Bool) → is_some (digit_of (code_at s (p - count))) ≡ b → (first_without_digit s p count ≡ Some q → IsWithout s p count q) → (if b then first_without_digit s p count else Some (p - count)) ≡ Some q → IsWithout s p (suc count) q
    go true e earlier h = let found = earlier h in record { upto = found.upto; among = omega (arith, found.among); none = found.none }
    go false e earlier h =
        let same : p - count ≡ q = cc in
        record { upto = omega arith; among = omega arith; none = subst (λ n. digit_of (code_at s n) ≡ None) same (is_none (digit_of (code_at s (p - count))) e) }

pub digits_so : (P : Cause → Type 0) (s : Storage) (p count : ℕ) → count ≤ p + 1 → ((q : ℕ) → IsWithout s p count q → P (NoDigit (glyph_of (code_at s q)) q)) → So P (digits_told s p count)
unfolding digits_told digit_told
digits_so P s p count le h = go (first_without_digit s p count) refl
  where
    go : (found : Option ℕ) → first_without_digit s p count ≡ found → So P (digit_told s found)
    go (Some q) e = h q (without s p count q le e)
    go None e = tt

-- ---- numbers of three characters

unmapped : (f : ℕ → ℕ) (found : Option ℕ) → option_map f found ≡ None → found ≡ None
unmapped f (Some x) h = absurd (cc)
unmapped f None h = refl

unweighed : (of_digit of_zone code : ℕ) → weighed of_digit of_zone code ≡ None → digit_of code ≡ None
unfolding weighed
unweighed of_digit of_zone code h = unmapped (λ digit. of_digit * digit + of_zone * zone_number (zone_of code)) (digit_of code) h

no_sum : (x y z : Option ℕ) → sum_of x y z ≡ None → (x ≡ None) ⊎ (y ≡ None) ⊎ (z ≡ None)
no_sum (Some x) (Some y) (Some z) h = absurd (cc)
no_sum (Some x) (Some y) None h = inr (inr refl)
no_sum (Some x) None z h = inr (inl refl)
no_sum None y z h = inl refl

pub no_base : (first second third : ℕ) → base first second third ≡ None → OneHasNoDigit first second third
unfolding base
no_base first second third h = elim (no_sum (weighed 100 1000 first) (weighed 10 0 second) (weighed 1 4000 third) h) [
  | inl e ↦ inl (unweighed 100 1000 first e)
  | inr (inl e) ↦ inr (inl (unweighed 10 0 second e))
  | inr (inr e) ↦ inr (inr (unweighed 1 4000 third e))
]

pub no_number : (s : Storage) (p : ℕ) → base_ending s p ≡ None → OneHasNoDigit (code_at s (p - 2)) (code_at s (p - 1)) (code_at s p)
unfolding base_ending
no_number s p h = no_base (code_at s (p - 2)) (code_at s (p - 1)) (code_at s p) h

pub number_so : (P : Cause → Type 0) (s : Storage) (p : ℕ) → (OneHasNoDigit (code_at s (p - 2)) (code_at s (p - 1)) (code_at s p) → P (NoNumber p)) → So P (number_told s p)
unfolding number_told base_ending
number_so P s p h =
    so_finds P (base_ending s p) (NoNumber p) (λ number. passed) (λ e. h (no_base (code_at s (p - 2)) (code_at s (p - 1)) (code_at s p) e)) (λ number e. tt)
