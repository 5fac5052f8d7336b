-- zeros and commas made blank among sixteen lanes
use Rattle.std.proofs.Common.{◌≡◌, ◌++◌, ℕ, zero, suc, ◌+◌, ◌-◌, ◌/◌, ◌%◌, ◌^◌, ◌<◌, ◌≤◌, ◌==◌, All, Bool, true, false, cond, eqb, ltb, not, Some, Ok, if◌then◌else◌, List, [], ◌∷◌, refl, sym, ◌∙◌, ap, arith, length, take, drop, map, min, bit_and, replicate}
use Rattle.std.specs.Int.Count.{count_trailing_zeros}
use Rattle.std.specs.List.{prefix_len}
use Rattle.std.specs.Simd.Lanes.{mask_l, zip2}
use Rattle.std.proofs.Math.Dec.{eqb-suc-zero}
use Rattle.std.proofs.Math.Nat.{mod-eq_of_lt}
use Rattle.std.proofs.lemmas.Bool.{eqb-true, ltb-true, le-leb}
use Rattle.std.proofs.lemmas.List.{drop-map, drop-drop, drop-take, drop-append-le, length-drop, length-map, length-take-le, length-append}
use Rattle.std.proofs.lemmas.List.Elements.{All-cons, All-head, All-tail, All-same, All-append, All-take, All-drop, All-map, All-weaker}
use Rattle.std.proofs.lemmas.Nat.{and_mask}
use Rattle.std.proofs.lemmas.Simd.{map-map, first_set_mask_l}
use Rattle.bcd.specs.Table.{glyph_of}
use Rattle.bcd.proofs.Tables.{at_each}
use Rattle.core_store.specs.Storage.{Storage, codes_ending, field_length, put_codes}
use Rattle.core_store.specs.Operands.{are_inside, is_overlapping, lowered_by}
use Rattle.core_store.specs.declared.registers.Registers.{Registers}
use Rattle.core_store.proofs.Fields.{length-codes_ending}
use Rattle.core_store.proofs.NearCodes.{last_of_sixteen}
use Rattle.moves.specs.Characters.{is_any, bare, bare_units}
use Rattle.moves.specs.Blanked.{ends, leading, faded, blanked}
use Rattle.moves.specs.declared.blanking.Stop.{Stop}
use Rattle.moves.specs.declared.blanking.Stop.TheVariants.{Other, Digit}
use Rattle.moves.specs.Suppressed.{zeros_suppressed, unmarked, suppressed}
use Rattle.moves.proofs.BlankingLemmas.{leading_within}
use Rattle.moves.proofs.Copying.{length_bare_units, length-unmarked, codes_ending-unmarked}
use Rattle.moves.proofs.LaneLemmas.{agree, agreed, mask_drop}

-- ---- lane by lane

pub map_same : {B : Type 0} (f g : ℕ → B) (xs : List ℕ) → All (λ code. code < 64) xs → ((code : ℕ) → code < 64 → f code ≡ g code) → map f xs ≡ map g xs
map_same f g [] all same = refl
map_same f g (x ∷ xs) all same =
    ap (λ y. y ∷ map f xs) (same x (All-head (λ code. code < 64) x xs all)) ∙ ap (λ l. g x ∷ l) (map_same f g xs (All-tail (λ code. code < 64) x xs all) same)

abbrev without_zero : ℕ → ℕ
without_zero code = if code == 10 then 0 else code

abbrev without_comma : ℕ → ℕ
without_comma code = if code == 27 then 0 else code

faded_by_number : (code : ℕ) → code < 64 → without_comma (without_zero code) ≡ faded code
unfolding faded is_any glyph_of
faded_by_number code h = eqb-true _ _ (at_each (λ c. eqb (without_comma (without_zero c)) (faded c)) 64 refl code h)

pub faded_below : (code : ℕ) → code < 64 → faded code < 64
unfolding faded is_any glyph_of
faded_below code h = ltb-true _ _ (at_each (λ c. ltb (faded c) 64) 64 refl code h)

pub lanes_faded : (xs ys zs : List ℕ) → All (λ code. code < 64) xs → ys ≡ map (λ lane. if lane == 10 then 0 else lane) xs → zs ≡ map (λ lane. if lane == 27 then 0 else lane) ys → zs ≡ map faded xs
lanes_faded xs ys zs all ys_is zs_is =
    zs_is ∙ ap (map without_comma) ys_is ∙ map-map without_comma without_zero xs
    ∙ map_same (λ code. without_comma (without_zero code)) faded xs all faded_by_number

other_by_number : (code : ℕ) → code < 64 → not (eqb (faded code) 0) ≡ ends Other code
unfolding agree ends faded is_any glyph_of
other_by_number code h = agreed _ _ (at_each (λ c. agree (not (eqb (faded c) 0)) (ends Other c)) 64 refl code h)

pub lanes_other : (xs ys : List ℕ) → All (λ code. code < 64) xs → ys ≡ map faded xs → map (λ lane. not (eqb lane 0)) ys ≡ map (ends Other) xs
lanes_other xs ys all is =
    ap (map (λ lane. not (eqb lane 0))) is ∙ map-map (λ (lane : ℕ). not (eqb lane 0)) faded xs ∙ map_same (λ code. not (eqb (faded code) 0)) (ends Other) xs all other_by_number

digit_by_number : (code : ℕ) → code < 64 → ltb ((code + 255) % 256) 9 ≡ ends Digit code
unfolding agree ends is_any glyph_of
digit_by_number code h = agreed _ _ (at_each (λ c. agree (ltb ((c + 255) % 256) 9) (ends Digit c)) 64 refl code h)

pub lanes_digit : (xs : List ℕ) → All (λ code. code < 64) xs → map (λ lane. ltb lane 9) (map (λ lane. (lane + 255) % 256) xs) ≡ map (ends Digit) xs
lanes_digit xs all =
    map-map (λ (lane : ℕ). ltb lane 9) (λ lane. (lane + 255) % 256) xs ∙ map_same (λ code. ltb ((code + 255) % 256) 9) (ends Digit) xs all digit_by_number

-- ---- the units without zone

low_kept : (code : ℕ) → code < 64 → bit_and code 63 ≡ code
low_kept code h = and_mask code 6 ∙ mod-eq_of_lt h

pub bare_lanes : (n : ℕ) (xs : List ℕ) → length xs ≡ suc n → All (λ code. code < 64) xs → zip2 bit_and xs (replicate n 63 ++ 15 ∷ []) ≡ bare_units xs
unfolding bare_units
bare_lanes n [] e all = absurd (omega arith)
bare_lanes zero (c ∷ []) e all = let whole : c % 16 ≡ 0 + c % 16 = omega arith in ap (λ x. x ∷ []) (and_mask c 4 ∙ whole)
bare_lanes zero (c ∷ d ∷ xs) e all = absurd (omega arith)
bare_lanes (suc n) (c ∷ xs) e all =
    let more : length xs ≡ suc n = omega arith in
    let whole : (if length xs == 0 then bare c else c) ≡ c = ap (λ k. if k == 0 then bare c else c) more ∙ ap (λ b. if b then bare c else c) (eqb-suc-zero n) in
    ap (λ x. x ∷ zip2 bit_and xs (replicate n 63 ++ 15 ∷ [])) (low_kept c (All-head (λ code. code < 64) c xs all) ∙ sym whole)
    ∙ ap (λ l. (if length xs == 0 then bare c else c) ∷ l) (bare_lanes n xs more (All-tail (λ code. code < 64) c xs all))

bare_below : (code : ℕ) → bare code < 64
bare_below code = omega arith

pub bare_all_below : (xs : List ℕ) → All (λ code. code < 64) xs → All (λ code. code < 64) (bare_units xs)
unfolding bare_units
bare_all_below [] all = all
bare_all_below (c ∷ xs) all =
    All-cons (λ code. code < 64) (if length xs == 0 then bare c else c) (bare_units xs) (either (length xs == 0) (All-head (λ code. code < 64) c xs all))
    (bare_all_below xs (All-tail (λ code. code < 64) c xs all)) where
      either : (b : Bool) → c < 64 → (if b then bare c else c) < 64
      either true h = bare_below c
      either false h = h

pub drop-bare : (k : ℕ) (xs : List ℕ) → drop k (bare_units xs) ≡ bare_units (drop k xs)
unfolding bare_units
drop-bare zero xs = refl
drop-bare (suc k) [] = refl
drop-bare (suc k) (c ∷ xs) = drop-bare k xs

-- ---- how many characters become blank

leading_is_prefix : (test : ℕ → Bool) (xs : List ℕ) → prefix_len (λ x. not (test x)) xs ≡ leading test xs
unfolding leading
leading_is_prefix test [] = refl
leading_is_prefix test (x ∷ xs) = one (test x) (prefix_len (λ y. not (test y)) xs) (leading test xs) (leading_is_prefix test xs) where
  one : (b : Bool) (n m : ℕ) → n ≡ m → cond (not b) (1 + n) 0 ≡ (if b then 0 else suc m)
  one true n m e = refl
  one false n m e = omega arith

least_blanks : (m n limit first : ℕ) → limit ≤ n → n ≤ 64 → cond (eqb m 0) n (count_trailing_zeros 64 m) ≡ first → min limit (count_trailing_zeros 64 m) ≡ min limit first
unfolding count_trailing_zeros
least_blanks zero n limit first le most is = let none : min limit 64 ≡ min limit first = omega arith in none
least_blanks (suc m) n limit first le most is = ap (min limit) (sym (ap (λ b. cond b n (count_trailing_zeros 64 (suc m))) (eqb-suc-zero m)) ∙ is)

module _ (xs : List ℕ) (k limit : ℕ) (test : ℕ → Bool) (le : limit ≤ length (drop k xs)) (most : length (drop k xs) ≤ 64) where
  pub blanks_are : (mask blanks : ℕ) → mask ≡ mask_l (map test xs) → blanks ≡ min limit (count_trailing_zeros 64 (mask / 2 ^ k)) → blanks ≡ min limit (leading test (drop k xs))
  blanks_are mask blanks mask_is blanks_is =
      let high : mask / 2 ^ k ≡ mask_l (map test (drop k xs)) = ap (λ n. n / 2 ^ k) mask_is ∙ mask_drop (map test xs) k ∙ ap mask_l (drop-map test k xs) in
      blanks_is ∙ ap (λ n. min limit (count_trailing_zeros 64 n)) high
      ∙ least_blanks (mask_l (map test (drop k xs))) (length (drop k xs)) limit (prefix_len (λ x. not (test x)) (drop k xs)) le most (first_set_mask_l test (drop k xs) (length (drop k xs)) refl most)
      ∙ ap (min limit) (leading_is_prefix test (drop k xs))

-- ---- the first characters blank, the rest as they were

blanked_is : (n : ℕ) (xs : List ℕ) → take n (map faded xs) ++ drop n xs ≡ blanked n xs
unfolding blanked
blanked_is zero xs = refl
blanked_is (suc n) [] = refl
blanked_is (suc n) (x ∷ xs) = ap (λ l. faded x ∷ l) (blanked_is n xs)

module _ (xs new : List ℕ) (k n m : ℕ) (long : length xs ≡ 16) (room : k + n ≤ 16) (whole : m ≡ k + n) (is : new ≡ take m (map faded xs) ++ drop m xs) where
  pub last_blanked : drop k new ≡ blanked n (drop k xs)
  last_blanked =
      ap (drop k) is
      ∙ drop-append-le k (take m (map faded xs)) (drop m xs) (omega (arith, length-map xs faded, length-take-le m (map faded xs)))
      ∙ ap (λ j. drop k (take j (map faded xs)) ++ drop j xs) whole
      ∙ ap (λ l. l ++ drop (k + n) xs) (drop-take k n (map faded xs) ∙ ap (take n) (drop-map faded k xs))
      ∙ ap (λ l. take n (map faded (drop k xs)) ++ l) (sym (drop-drop n k xs))
      ∙ blanked_is n (drop k xs)

  pub all_below : All (λ code. code < 64) xs → All (λ code. code < 64) new
  all_below all =
      All-same (λ code. code < 64) _ _ is
      (All-append (λ code. code < 64) (take m (map faded xs)) (drop m xs)
      (All-take (λ code. code < 64) m (map faded xs) (All-map (λ code. code < 64) faded xs (All-weaker (λ code. code < 64) (λ code. faded code < 64) faded_below xs all)))
      (All-drop (λ code. code < 64) m xs all))

  pub all_sixteen : length new ≡ 16
  all_sixteen = ap length is ∙ length-append (take m (map faded xs)) (drop m xs) ∙ sum_of where
    sum_of : length (take m (map faded xs)) + length (drop m xs) ≡ 16
    sum_of = omega (arith, length-map xs faded, length-take-le m (map faded xs), length-drop m xs)

-- ---- the whole of a suppression of at most sixteen characters

module _ (s : Storage) (a b count : ℕ) (a_in : a < length s) (room : 15 ≤ a) (most : count ≤ 16) where
  pub near_suppressed : (u : Storage) → u ≡ unmarked s (b + 1 - count) count → (xs : List ℕ) → xs ≡ codes_ending u a 16 → (ys : List ℕ) → ys ≡ bare_units xs →
      (zs : List ℕ) → drop (16 - count) zs ≡ blanked (min count (leading (ends Other) (drop (16 - count) ys))) (drop (16 - count) ys) →
      (new : Storage) → new ≡ put_codes u (b + 1 - count) (drop (16 - count) zs) →
      new ≡ put_codes (unmarked s (b + 1 - count) count) (b + 1 - count) (suppressed (bare_units (codes_ending s a count)))
  unfolding suppressed
  near_suppressed u u_is xs xs_is ys ys_is zs zs_is new new_is =
      let size : length u ≡ length s = ap length u_is ∙ length-unmarked s (b + 1 - count) count in
      let moved = bare_units (codes_ending s a count) in
      let long : length moved ≡ count = length_bare_units (codes_ending s a count) ∙ length-codes_ending s a count a_in (omega arith) in
      let least : min count (leading (ends Other) moved) ≡ leading (ends Other) moved = omega (arith, leading_within (ends Other) moved) in
      let shown : drop (16 - count) ys ≡ moved =
      ap (drop (16 - count)) (ys_is ∙ ap bare_units xs_is) ∙ drop-bare (16 - count) (codes_ending u a 16)
      ∙ ap bare_units (last_of_sixteen u a count room (omega arith) most ∙ ap (λ t. codes_ending t a count) u_is ∙ codes_ending-unmarked s (b + 1 - count) count a count) in
      new_is
      ∙ ap (put_codes u (b + 1 - count)) (zs_is ∙ ap (λ l. blanked (min count (leading (ends Other) l)) l) shown ∙ ap (λ n. blanked n moved) least)
      ∙ ap (λ t. put_codes t (b + 1 - count) (suppressed moved)) u_is

-- the same of characters that stay where they are
pub near_blanked : (s : Storage) (b count limit : ℕ) (stop : Stop) → b < length s → 15 ≤ b → count ≤ 16 → (xs : List ℕ) → xs ≡ codes_ending s b 16 →
    (ys : List ℕ) → drop (16 - count) ys ≡ blanked (min limit (leading (ends stop) (drop (16 - count) xs))) (drop (16 - count) xs) → (new : Storage) → new ≡ put_codes s (b + 1 - count) (drop (16 - count) ys) →
    new ≡ put_codes s (b + 1 - count) (blanked (min limit (leading (ends stop) (codes_ending s b count))) (codes_ending s b count))
near_blanked s b count limit stop b_in room most xs xs_is ys ys_is new new_is =
    let shown : drop (16 - count) xs ≡ codes_ending s b count = ap (drop (16 - count)) xs_is ∙ last_of_sixteen s b count room b_in most in
    new_is ∙ ap (put_codes s (b + 1 - count)) (ys_is ∙ ap (λ l. blanked (min limit (leading (ends stop) l)) l) shown)

-- a suppression that passes all checks
pub suppress_passes : (s : Storage) (r : Registers) (count : ℕ) → are_inside s r.a r.b ≡ true → field_length s r.a ≡ Some count → count ≤ r.b + 1 → is_overlapping r.a r.b count ≡ false →
    (new : Storage) → new ≡ put_codes (unmarked s (r.b + 1 - count) count) (r.b + 1 - count) (suppressed (bare_units (codes_ending s r.a count))) →
    (after : Registers) → after ≡ lowered_by r count count → zeros_suppressed s r ≡ Ok (new, after)
unfolding zeros_suppressed
suppress_passes s r count inside field room apart new new_is after after_is =
    rw (inside, field, le-leb count (r.b + 1) room, apart) (ap (λ t. Ok (t, lowered_by r count count)) (sym new_is) ∙ ap (λ x. Ok (new, x)) (sym after_is))
