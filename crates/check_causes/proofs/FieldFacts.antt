-- what the lengths of fields say of marks and positions
use Rattle.std.proofs.Common.{◌≡◌, ℕ, ◌+◌, ◌-◌, ◌<◌, ◌≤◌, Bool, true, false, Option, Some, None, Result, Ok, Err, refl, sym, subst, ◌∙◌, arith, length, ltb, leb, if◌then◌else◌}
use Rattle.std.specs.Option.{option_map}
use Rattle.std.proofs.lemmas.Bool.{ltb-true, leb-true, le-leb}
use Rattle.std.proofs.Math.Decide.{dec_lt}
use Rattle.core_store.specs.Storage.{Storage, is_marked, greatest_mark, GreatestMark, field_length}
use Rattle.core_store.specs.Operands.{cut_length, is_within}
use Rattle.core_store.proofs.Marks.{greatest_is_greatest}
use Rattle.arith.specs.declared.operands.Counts.{Counts}
use Rattle.check_causes.specs.declared.causes.Cause.{Cause}
use Rattle.check_causes.specs.declared.causes.Cause.TheVariants.{FieldPast, NoFieldMark}
use Rattle.check_causes.specs.Tested.{Tested, passed, needs, finds, given, after}
use Rattle.check_causes.specs.Sentences.{IsField}
use Rattle.check_causes.specs.Fields.{place_told, places_told, length_told, cut_told, counts_told}

-- ---- what passed tests leave

pub needs_ok : {T : Type 0} (b : Bool) (c : Cause) (rest : Result T Cause) (x : T) → needs b c rest ≡ Ok x → (b ≡ true) × (rest ≡ Ok x)
needs_ok true c rest x h = (refl, h)
needs_ok false c rest x h = absurd (cc)

pub after_ok : {T : Type 0} (tests : Tested) (rest : Result T Cause) (x : T) → after tests rest ≡ Ok x → (tests ≡ passed) × (rest ≡ Ok x)
after_ok (Ok done) rest x h = (refl, h)
after_ok (Err cause) rest x h = absurd (cc)

-- what was found on the way to a value
pub record Found {S T : Type 0} (found : Result S Cause) (rest : S → Result T Cause) (x : T) : Type 0 where
  pub it : S
  pub is : found ≡ Ok it
  pub then_is : rest it ≡ Ok x

pub given_ok : {S T : Type 0} (found : Result S Cause) (rest : S → Result T Cause) (x : T) → given found rest ≡ Ok x → Found found rest x
given_ok (Ok y) rest x h = record { it = y; is = refl; then_is = h }
given_ok (Err cause) rest x h = absurd (cc)

pub found_ok : {S : Type 0} (found : Option S) (c : Cause) (x : S) → finds found c (λ y. Ok y) ≡ Ok x → found ≡ Some x
found_ok (Some y) c x h = cc
found_ok None c x h = absurd (cc)

-- ---- places

pub place_in : (s : Storage) (p : ℕ) → place_told s p ≡ passed → p < length s
unfolding place_told
place_in s p h = ltb-true p (length s) (needs_ok (ltb p (length s)) (FieldPast p) passed tt h).0

pub places_in : (s : Storage) (a b : ℕ) → places_told s a b ≡ passed → (a < length s) × (b < length s)
unfolding places_told
places_in s a b h = let both = after_ok (place_told s a) (place_told s b) tt h in (place_in s a both.0, place_in s b both.1)

-- ---- lengths

-- the count positions up to p are those of a field, or the last of it: none but the first is marked
pub record IsUpTo (s : Storage) (p count : ℕ) : Type 0 where
  pub some : 1 ≤ count
  pub room : count ≤ p + 1
  pub unmarked : (q : ℕ) → p + 1 < q + count → q ≤ p → is_marked s q ≡ false

whole_by : (s : Storage) (p count : ℕ) (found : Option ℕ) → GreatestMark s p found → option_map (λ first. p + 1 - first) found ≡ Some count → IsField s p count
whole_by s p count None g h = absurd (cc)
whole_by s p count (Some first) g h =
    let below : first ≤ p = g.not_above in
    let many : p + 1 - first ≡ count = cc in
    let back : first ≡ p + 1 - count = omega arith in
    record {
      some = omega arith;
      room = omega arith;
      unmarked = λ q after upto. g.none_between q (omega arith) upto;
      marked = subst (λ n. is_marked s n ≡ true) back g.marked;
    }

pub whole : (s : Storage) (p count : ℕ) → field_length s p ≡ Some count → IsField s p count
unfolding field_length
whole s p count h = whole_by s p count (greatest_mark s p) (greatest_is_greatest s p) h

none_by : (s : Storage) (p : ℕ) (found : Option ℕ) → GreatestMark s p found → option_map (λ first. p + 1 - first) found ≡ None → (q : ℕ) → q ≤ p → is_marked s q ≡ false
none_by s p None g h = g
none_by s p (Some first) g h = absurd (cc)

-- without a field there is no mark
pub no_mark : (s : Storage) (p : ℕ) → field_length s p ≡ None → (q : ℕ) → q ≤ p → is_marked s q ≡ false
unfolding field_length
no_mark s p h = none_by s p (greatest_mark s p) (greatest_is_greatest s p) h

-- what is cut is no longer than its limit
pub record IsCut (s : Storage) (p limit count : ℕ) : Type 0 where
  pub up_to : IsUpTo s p count
  pub most : count ≤ limit

cut_by : (s : Storage) (p limit count : ℕ) (found : Option ℕ) → field_length s p ≡ found → 1 ≤ limit
    → (if is_within found limit then found else (if leb limit (p + 1) then Some limit else None)) ≡ Some count → IsCut s p limit count
cut_by s p limit count None e some h = go (leb limit (p + 1)) refl h
  where
    go : (b : Bool) → leb limit (p + 1) ≡ b → (if b then Some limit else None) ≡ Some count → IsCut s p limit count
    go true fits h =
        let same : limit ≡ count = cc in
        let room : limit ≤ p + 1 = leb-true limit (p + 1) fits in
        record { up_to = record { some = omega arith; room = omega arith; unmarked = λ q after upto. no_mark s p e q upto }; most = omega arith }
    go false fits h = absurd (cc)
cut_by s p limit count (Some long) e some h = go (leb long limit) refl h
  where
    field : IsField s p long
    field = whole s p long e

    cut_off : (b : Bool) → limit < long → (if b then Some limit else None) ≡ Some count → IsCut s p limit count
    cut_off true over h =
        let same : limit ≡ count = cc in
        let room : long ≤ p + 1 = field.room in
        record { up_to = record { some = omega arith; room = omega arith; unmarked = λ q after upto. field.unmarked q (omega arith) upto }; most = omega arith }
    cut_off false over h = absurd (cc)

    go : (b : Bool) → leb long limit ≡ b → (if b then Some long else (if leb limit (p + 1) then Some limit else None)) ≡ Some count → IsCut s p limit count
    go true fits h =
        let same : long ≡ count = cc in
        let least : 1 ≤ long = field.some in
        let room : long ≤ p + 1 = field.room in
        record { up_to = record { some = omega arith; room = omega arith; unmarked = λ q after upto. field.unmarked q (omega arith) upto }; most = omega (arith, leb-true long limit fits) }
    go false fits h = cut_off (leb limit (p + 1)) (over long limit fits) h
      where
        over : (n m : ℕ) → leb n m ≡ false → m < n
        over n m f = elim (dec_lt m n) [ yes lt ↦ lt | no ge ↦ absurd (let e : leb n m ≡ true = le-leb n m (omega arith) in let clash : true ≡ false = sym e ∙ f in cc) ]

pub is_cut : (s : Storage) (p limit count : ℕ) → 1 ≤ limit → cut_length s p limit ≡ Some count → IsCut s p limit count
unfolding cut_length
is_cut s p limit count some h = cut_by s p limit count (field_length s p) refl some h

none_cut : (s : Storage) (p limit : ℕ) (found : Option ℕ) → field_length s p ≡ found
    → (if is_within found limit then found else (if leb limit (p + 1) then Some limit else None)) ≡ None → field_length s p ≡ None
none_cut s p limit None e h = e
none_cut s p limit (Some long) e h = go (leb long limit) (leb limit (p + 1)) refl refl h
  where
    go : (b c : Bool) → leb long limit ≡ b → leb limit (p + 1) ≡ c → (if b then Some long else (if c then Some limit else None)) ≡ None → field_length s p ≡ None
    go true c eb ec h = absurd (cc)
    go false true eb ec h = absurd (cc)
    go false false eb ec h =
        let room : long ≤ p + 1 = (whole s p long e).room in
        let fits : long ≤ limit = elim (dec_lt limit (p + 1 + 1)) [ yes lt ↦ absurd (let t : leb limit (p + 1) ≡ true = le-leb limit (p + 1) (omega arith) in let clash : true ≡ false = sym t ∙ ec in cc) | no ge ↦ omega arith ] in
        absurd (let t : leb long limit ≡ true = le-leb long limit fits in let clash : true ≡ false = sym t ∙ eb in cc)

-- nothing can be cut only where no mark is
pub uncut : (s : Storage) (p limit : ℕ) → cut_length s p limit ≡ None → (q : ℕ) → q ≤ p → is_marked s q ≡ false
unfolding cut_length
uncut s p limit h = no_mark s p (none_cut s p limit (field_length s p) refl h)

few_by : (limit : ℕ) (found : Option ℕ) (b : Bool) → (if is_within found limit then found else (if b then Some limit else None)) ≡ None → b ≡ false
few_by limit None true h = absurd (cc)
few_by limit None false h = refl
few_by limit (Some long) true h = go (leb long limit) h
  where
    go : (c : Bool) → (if c then Some long else Some limit) ≡ None → true ≡ false
    go true h = absurd (cc)
    go false h = absurd (cc)
few_by limit (Some long) false h = refl

-- nothing can be cut only where there are too few positions
pub cut_few : (s : Storage) (p limit : ℕ) → cut_length s p limit ≡ None → p + 1 < limit
unfolding cut_length
cut_few s p limit h = over (few_by limit (field_length s p) (leb limit (p + 1)) h)
  where
    over : leb limit (p + 1) ≡ false → p + 1 < limit
    over f = elim (dec_lt (p + 1) limit) [ yes lt ↦ lt | no ge ↦ absurd (let e : leb limit (p + 1) ≡ true = le-leb limit (p + 1) (omega arith) in let clash : true ≡ false = sym e ∙ f in cc) ]

-- the lengths that were told of two fields
pub record IsCounted (s : Storage) (a b : ℕ) (counts : Counts) : Type 0 where
  pub a_in : a < length s
  pub b_in : b < length s
  pub field : IsField s b counts.b
  pub cut : IsCut s a counts.b counts.a

with_cut : Storage → ℕ → ℕ → Result Counts Cause
with_cut s a b_count = given (cut_told s a b_count) (λ a_count. Ok (record { a = a_count; b = b_count }))

abbrev the_counts : Counts → Result Counts Cause
the_counts counts = Ok counts

same_counts : (x y : Counts) → the_counts x ≡ the_counts y → x ≡ y
same_counts x y h = cc

cut_counted : (s : Storage) (a b b_count a_count : ℕ) (counts : Counts) → a < length s → b < length s → IsField s b b_count → IsCut s a b_count a_count → the_counts (record { a = a_count; b = b_count }) ≡ the_counts counts → IsCounted s a b counts
cut_counted s a b b_count a_count counts a_in b_in field cut h = subst (IsCounted s a b) (same_counts _ counts h) (record { a_in = a_in; b_in = b_in; field = field; cut = cut })

pub counted : (s : Storage) (a b : ℕ) (counts : Counts) → counts_told s a b ≡ Ok counts → IsCounted s a b counts
unfolding counts_told length_told cut_told with_cut
counted s a b counts h =
    let start = after_ok (places_told s a b) (given (length_told s b) (with_cut s a)) counts h in
    let inside = places_in s a b start.0 in
    let first = given_ok (length_told s b) (with_cut s a) counts start.1 in
    let second = given_ok (cut_told s a first.it) (λ a_count. Ok (record { a = a_count; b = first.it })) counts first.then_is in
    let field = whole s b first.it (found_ok (field_length s b) (NoFieldMark b) first.it first.is) in
    let cut = is_cut s a first.it second.it field.some (found_ok (cut_length s a first.it) (NoFieldMark a) second.it second.is) in
    cut_counted s a b first.it second.it counts inside.0 inside.1 field cut second.then_is
