-- lanes brought from the right, and data characters brought to their places by it
use Rattle.std.proofs.Common.{◌≡◌, ◌≢◌, ℕ, zero, suc, ◌+◌, ◌-◌, ◌%◌, ◌<◌, ◌≤◌, ◌==◌, All, Bool, true, false, cond, eqb, leb, ltb, nat_le, w8, ◌^◌, if◌then◌else◌, List, [], ◌∷◌, refl, sym, ◌∙◌, ap, arith, length, get_or, drop, map, replicate}
use Rattle.std.specs.Int.Bits.{bit_or, or_zero_l, or_zero_r}
use Rattle.std.specs.Simd.Lanes.{chunk, mask_l, sel_l, top, zip2}
use Rattle.std.proofs.Math.Decide.{dec_lt}
use Rattle.std.proofs.lemmas.Bool.{eqb-true, ne_eqb, lt-ltb, le-ltb, le-leb, lt-leb, leb-false}
use Rattle.std.proofs.lemmas.List.{ext_get_or, length-drop, length-map, get_or-drop, get_or-map, get_or_past}
use Rattle.std.proofs.lemmas.Grind.{get_or_default_zero}
use Rattle.std.proofs.lemmas.Simd.{mask_l-mod, none_from_empty_mask, pick_l-range_with_len, pick_l_whole, tops_compared, zip2_splat_left, length-zip2, get_or-zip2, get_or-replicate, length-sel_l, get_or-sel_l}
use mir.Val.{bits, hbits}
use Rattle.bcd.proofs.Tables.{at_each}
use Rattle.moves.specs.Brought.{IsBrought}
use Rattle.moves.specs.Characters.{from_right}
use Rattle.moves.proofs.ControlPlaces.{later, get_or-later, later_long}
use Rattle.moves.proofs.Copying.{from_right_past}
use Rattle.moves.proofs.EditingLaw.{from_right_is}

-- one number less another, as bytes
abbrev pub less : ℕ → ℕ → ℕ
less x y = (x + (256 - y)) % 256

pub less_long : (far : List ℕ) (n : ℕ) → length far ≡ 16 → length (zip2 less far (replicate 16 n)) ≡ 16
less_long far n long = length-zip2 less far (replicate 16 n) long ∙ long

pub less_small : (far : List ℕ) (n : ℕ) → length far ≡ 16 → All (λ lane. lane < 256) (zip2 less far (replicate 16 n))
less_small far n long k d lt =
    rw (get_or-zip2 less far (replicate 16 n) k 0 0 d (omega (arith, less_long far n long)) (omega (arith, less_long far n long))) (omega arith)

-- ---- no lane to the right

module _ (amount far lanes : List ℕ) (long : length amount ≡ 16) (long' : length far ≡ 16) (lanes_are : lanes ≡ sel_l (map (λ key. key == 0) far) amount (replicate 16 0)) where
  keys_long : length (map (λ key. key == 0) far) ≡ 16
  keys_long = length-map far (λ key. key == 0) ∙ long'

  stays : (k f : ℕ) → (if f == 0 then get_or amount k 0 else 0) ≡ (if ltb f 1 then get_or amount (k + f) 0 else 0)
  stays k zero = ap (λ j. get_or amount j 0) (omega arith)
  stays k (suc f) =
      let ne : suc f ≢ 0 = omega arith in
      ap (λ b. if b then get_or amount k 0 else 0) (ne_eqb (suc f) 0 ne) ∙ sym (ap (λ b. if b then get_or amount (k + suc f) 0 else 0) (le-ltb (suc f) 1 (omega arith)))

  pub brought_once : IsBrought 1 amount far lanes
  brought_once = record {
    sixteen = ap length lanes_are ∙ length-sel_l (map (λ key. key == 0) far) amount (replicate 16 0) (keys_long ∙ sym long) keys_long ∙ keys_long;
    each = λ k lt.
        ap (λ l. get_or l k 0) lanes_are
        ∙ get_or-sel_l (map (λ key. key == 0) far) amount (replicate 16 0) k 0 (omega (arith, keys_long)) (omega (arith, long)) lt
        ∙ ap (λ b. if b then get_or amount k 0 else get_or (replicate 16 0) k 0) (get_or-map (λ key. key == 0) far k 0 false (omega (arith, long')))
        ∙ ap (λ x. if get_or far k 0 == 0 then get_or amount k 0 else x) (get_or-replicate 16 k 0 0 lt)
        ∙ stays k (get_or far k 0);
  }

-- ---- twice as far

module _ (n : ℕ) (amount far low high : List ℕ) (few : n ≤ 8) (long : length amount ≡ 16) (long' : length far ≡ 16) (bytes : All (λ lane. lane < 256) far)
    (is_low : IsBrought n amount far low) (is_high : IsBrought n (later n amount) (zip2 less far (replicate 16 n)) high) where
  far_less : (k : ℕ) → k < 16 → get_or (zip2 less far (replicate 16 n)) k 0 ≡ less (get_or far k 0) n
  far_less k lt =
      get_or-zip2 less far (replicate 16 n) k 0 0 0 (omega (arith, long')) lt ∙ ap (less (get_or far k 0)) (get_or-replicate 16 k n 0 lt)

  later_at : (k : ℕ) → get_or (later n amount) k 0 ≡ get_or amount (k + n) 0
  later_at k =
      elim (dec_lt k 16) [
        | yes within ↦ get_or-later amount n long (omega arith) k within
        | no past ↦ get_or_past (later n amount) k 0 (omega (arith, later_long amount n long (omega arith))) ∙ sym (get_or_past amount (k + n) 0 (omega (arith, long)))
      ]

  abbrev one : ℕ → ℕ → ℕ → ℕ
  one m k f = if ltb f m then get_or amount (k + f) 0 else 0

  abbrev other : ℕ → ℕ → ℕ
  other k g = if ltb g n then get_or (later n amount) (k + g) 0 else 0

  either : (m k f : ℕ) → m ≡ n + n → f < 256 → bit_or (one n k f) (other k (less f n)) ≡ one m k f
  either m k f twice fits =
      elim (dec_lt f n) [
        | yes near ↦
            ap (λ b. bit_or (one n k f) (if b then get_or (later n amount) (k + less f n) 0 else 0)) (le-ltb (less f n) n (omega arith))
            ∙ or_zero_r (one n k f)
            ∙ ap (λ b. if b then get_or amount (k + f) 0 else 0) (lt-ltb f n near ∙ sym (lt-ltb f m (omega arith)))
        | no far_off ↦
            ap (λ b. bit_or (if b then get_or amount (k + f) 0 else 0) (other k (less f n))) (le-ltb f n (omega arith))
            ∙ or_zero_l (other k (less f n))
            ∙ elim (dec_lt f m) [
              | yes within ↦
                  ap (λ b. if b then get_or (later n amount) (k + less f n) 0 else 0) (lt-ltb (less f n) n (omega arith))
                  ∙ later_at (k + less f n) ∙ ap (λ j. get_or amount j 0) (omega arith)
                  ∙ sym (ap (λ b. if b then get_or amount (k + f) 0 else 0) (lt-ltb f m within))
              | no past ↦
                  ap (λ b. if b then get_or (later n amount) (k + less f n) 0 else 0) (le-ltb (less f n) n (omega arith))
                  ∙ sym (ap (λ b. if b then get_or amount (k + f) 0 else 0) (le-ltb f m (omega arith)))
            ]
      ]

  pub brought_twice : (m : ℕ) → m ≡ n + n → IsBrought m amount far (zip2 bit_or low high)
  brought_twice m twice = record {
    sixteen = length-zip2 bit_or low high (is_low.sixteen ∙ sym is_high.sixteen) ∙ is_low.sixteen;
    each = λ k lt.
        get_or-zip2 bit_or low high k 0 0 0 (omega (arith, is_low.sixteen)) (omega (arith, is_high.sixteen))
        ∙ ap (λ x. bit_or x (get_or high k 0)) (is_low.each k lt)
        ∙ ap (bit_or (one n k (get_or far k 0))) (is_high.each k lt ∙ ap (other k) (far_less k lt))
        ∙ either m k (get_or far k 0) twice (bytes k 0 (omega (arith, long')));
  }

pub brought_enough : (n : ℕ) (amount far lanes : List ℕ) → n ≤ 16 → length far ≡ 16 → All (λ lane. lane < n) far → IsBrought n amount far lanes → IsBrought 16 amount far lanes
brought_enough n amount far lanes few long all is = record {
  sixteen = is.sixteen;
  each = λ k lt.
      let small : get_or far k 0 < n = all k 0 (omega (arith, long)) in
      is.each k lt
      ∙ ap (λ b. if b then get_or amount (k + get_or far k 0) 0 else 0) (lt-ltb (get_or far k 0) n small ∙ sym (lt-ltb (get_or far k 0) 16 (omega arith)));
}

-- ---- as few steps as do

pub all_below : (lanes : List ℕ) (limit : ℕ) → length lanes ≡ 16 →
    mask_l (map (top (hbits w8)) (zip2 (λ a b. cond (leb a b) (2 ^ bits w8 - 1) 0) (replicate 16 limit) lanes)) % 2 ^ 64 == 0 ≡ true → All (λ lane. lane < limit) lanes
all_below lanes limit long is k d lt =
    let bools = tops_compared w8 leb (replicate 16 limit) lanes ∙ zip2_splat_left leb limit 16 lanes long in
    let whole : chunk 0 16 lanes ≡ lanes = sym (pick_l-range_with_len 0 lanes 0 16 (omega (arith, long))) ∙ pick_l_whole 0 lanes 16 long in
    let same : mask_l (map (leb limit) (chunk 0 16 lanes)) ≡ mask_l (map (top (hbits w8)) (zip2 (λ a b. cond (leb a b) (2 ^ bits w8 - 1) 0) (replicate 16 limit) lanes)) % 2 ^ 64 =
    ap (λ l. mask_l (map (leb limit) l)) whole
    ∙ sym (ap (λ ms. mask_l ms % 2 ^ 64) bools ∙ mask_l-mod (map (leb limit) lanes) 64 (omega (arith, length-map lanes (leb limit), long))) in
    leb-false limit (get_or lanes k d)
    (none_from_empty_mask (leb limit) lanes 0 16 d (omega (arith, long)) (same ∙ eqb-true _ 0 is) k (omega arith) (omega (arith, long, lt)))

-- ---- data brought to their places

abbrev rights : List ℕ
rights = 15 ∷ 14 ∷ 13 ∷ 12 ∷ 11 ∷ 10 ∷ 9 ∷ 8 ∷ 7 ∷ 6 ∷ 5 ∷ 4 ∷ 3 ∷ 2 ∷ 1 ∷ 0 ∷ []

right_at : (k : ℕ) → k < 16 → get_or rights k 0 ≡ 15 - k
right_at k lt = eqb-true _ _ (at_each (λ j. eqb (get_or rights j 0) (15 - j)) 16 refl k lt)

module _ (places' : List ℕ) (count : ℕ) (long' : length places' ≡ 16) (right : (lane : ℕ) → lane < 16 → get_or places' lane 0 + lane < 16) where
  abbrev keys : List Bool
  keys = map (λ key. nat_le count key) places'

  keys_sixteen : length keys ≡ 16
  keys_sixteen = length-map places' (λ key. nat_le count key) ∙ long'

  rights_less : length (zip2 less rights places') ≡ 16
  rights_less = length-zip2 less rights places' (sym long')

  far_at : (k : ℕ) → k < 16 → get_or (zip2 less rights places') k 0 ≡ 15 - k - get_or places' k 0
  far_at k lt =
      let room : get_or places' k 0 + k < 16 = right k lt in
      let number : less (15 - k) (get_or places' k 0) ≡ 15 - k - get_or places' k 0 = omega arith in
      get_or-zip2 less rights places' k 0 0 0 lt (omega (arith, long')) ∙ ap (λ x. less x (get_or places' k 0)) (right_at k lt) ∙ number

  -- zero for the lanes that get none of the last characters, and else the given lanes
  abbrev chosen : List ℕ → List ℕ
  chosen lanes = sel_l (map (λ key. nat_le count key) places') (replicate 16 0) lanes

  module _ (lanes : List ℕ) (sixteen : length lanes ≡ 16) where
    pub chosen_long : length (sel_l (map (λ key. nat_le count key) places') (replicate 16 0) lanes) ≡ 16
    chosen_long = length-sel_l keys (replicate 16 0) lanes keys_sixteen (keys_sixteen ∙ sym sixteen) ∙ keys_sixteen

    chosen_at : (k : ℕ) → k < 16 → get_or (chosen lanes) k 0 ≡ (if nat_le count (get_or places' k 0) then 0 else get_or lanes k 0)
    chosen_at k lt =
        get_or-sel_l keys (replicate 16 0) lanes k 0 (omega (arith, keys_sixteen)) lt (omega (arith, sixteen))
        ∙ ap (λ b. if b then get_or (replicate 16 0) k 0 else get_or lanes k 0) (get_or-map (λ key. nat_le count key) places' k 0 false (omega (arith, long')))
        ∙ ap (λ x. if nat_le count (get_or places' k 0) then x else get_or lanes k 0) (get_or-replicate 16 k 0 0 lt)

  small_or_none : (b : Bool) (x : ℕ) → x < 16 → (if b then 0 else x) < 16
  small_or_none true x lt = omega arith
  small_or_none false x lt = lt

  pub wanted_long : length (sel_l (map (λ key. nat_le count key) places') (replicate 16 0) (zip2 less rights places')) ≡ 16
  wanted_long = chosen_long (zip2 less rights places') rights_less

  pub wanted_small : All (λ lane. lane < 16) (sel_l (map (λ key. nat_le count key) places') (replicate 16 0) (zip2 less rights places'))
  wanted_small k d lt =
      let within : k < 16 = omega (arith, wanted_long, lt) in
      let few : get_or (zip2 less rights places') k 0 < 16 = omega (arith, far_at k within) in
      rw (get_or_default_zero (chosen (zip2 less rights places')) k d lt)
      (rw (chosen_at (zip2 less rights places') rights_less k within) (small_or_none (nat_le count (get_or places' k 0)) (get_or (zip2 less rights places') k 0) few))

  module _ (data' wanted lanes : List ℕ) (most : count ≤ 16) (long : length data' ≡ 16)
      (wanted_is : wanted ≡ sel_l (map (λ key. nat_le count key) places') (replicate 16 0) (zip2 less rights places')) (is : IsBrought 16 data' wanted lanes) where
    size : length (drop (16 - count) data') ≡ count
    size = omega (arith, length-drop (16 - count) data', long)

    -- a lane that gets one of the last characters
    brought_at : (k : ℕ) → k < 16 → get_or places' k 0 < count → get_or lanes k 0 ≡ get_or data' (15 - get_or places' k 0) 0
    brought_at k lt within =
        let room : get_or places' k 0 + k < 16 = right k lt in
        let far = get_or wanted k 0 in
        let far_is : far ≡ 15 - k - get_or places' k 0 =
        ap (λ l. get_or l k 0) wanted_is
        ∙ chosen_at (zip2 less rights places') rights_less k lt
        ∙ ap (λ b. if b then 0 else get_or (zip2 less rights places') k 0) (lt-leb count (get_or places' k 0) within) ∙ far_at k lt in
        is.each k lt ∙ ap (λ b. if b then get_or data' (k + far) 0 else 0) (lt-ltb far 16 (omega (arith, far_is)))
        ∙ ap (λ j. get_or data' j 0) (omega (arith, far_is, room))

    digit_is : (k : ℕ) → k < 16 → (if nat_le count (get_or places' k 0) then 0 else get_or lanes k 0) ≡ from_right (drop (16 - count) data') (get_or places' k 0)
    digit_is k lt =
        let place = get_or places' k 0 in
        elim (dec_lt place count) [
          | yes within ↦
              let here : 16 - count + (length (drop (16 - count) data') - 1 - place) ≡ 15 - place = omega (arith, size, most, within) in
              ap (λ b. if b then 0 else get_or lanes k 0) (lt-leb count place within)
              ∙ brought_at k lt within
              ∙ sym (from_right_is (drop (16 - count) data') place (omega (arith, size)) ∙ get_or-drop (16 - count) data' (length (drop (16 - count) data') - 1 - place) 0 ∙ ap (λ j. get_or data' j 0) here)
          | no past ↦
              ap (λ b. if b then 0 else get_or lanes k 0) (le-leb count place (omega arith)) ∙ sym (from_right_past (drop (16 - count) data') place (omega (arith, size)))
        ]

    pub data_brought : sel_l (map (λ key. nat_le count key) places') (replicate 16 0) lanes ≡ map (from_right (drop (16 - count) data')) places'
    data_brought =
        ext_get_or 0 (chosen lanes) (map (from_right (drop (16 - count) data')) places')
        (chosen_long lanes is.sixteen ∙ sym (length-map places' (from_right (drop (16 - count) data')) ∙ long'))
        (λ k lt.
        let within : k < 16 = omega (arith, chosen_long lanes is.sixteen, lt) in
        chosen_at lanes is.sixteen k within ∙ digit_is k within
        ∙ sym (get_or-map (from_right (drop (16 - count) data')) places' k 0 0 (omega (arith, long'))))
