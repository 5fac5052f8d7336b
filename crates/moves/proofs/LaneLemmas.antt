-- sixteen lanes at once
use Rattle.std.proofs.Common.{◌++◌, take, ◌≡◌, ℕ, zero, suc, ◌+◌, ◌-◌, ◌*◌, ◌/◌, ◌^◌, ◌<◌, ◌≤◌, ◌==◌, All, Bool, true, false, cond, not, if◌then◌else◌, List, [], ◌∷◌, refl, sym, ◌∙◌, ap, arith, length, drop, map}
use Rattle.std.specs.Int.RustNames.{count_ones}
use Rattle.std.specs.Simd.Lanes.{mask_l}
use Rattle.std.proofs.Math.Nat.{div-one, zero-div, pow-succ', div-div-eq-div-mul}
use Rattle.std.proofs.lemmas.List.{drop-map, length-append, length-take-le, length-drop}
use Rattle.std.proofs.lemmas.List.Elements.{All-head, All-tail, All-same, All-append, All-take, All-drop}
use Rattle.std.proofs.lemmas.Simd.{map-map, ones-mask_l_cons}
use Rattle.bcd.specs.Table.{glyph_of}
use Rattle.bcd.proofs.Tables.{at_each}
use Rattle.core_store.specs.Storage.{Storage, codes_ending, put_codes}
use Rattle.core_store.proofs.Fields.{length-codes_ending}
use Rattle.core_store.proofs.NearCodes.{last_of_sixteen, put_last}
use Rattle.moves.specs.Characters.{is_any}
use Rattle.moves.specs.Edited.{is_place, places}

-- ---- lanes and masks

half : (b : Bool) (n : ℕ) → (cond b 1 0 + 2 * n) / 2 ≡ n
half true n = omega arith
half false n = omega arith

-- a mask without its lowest bits
pub mask_drop : (ms : List Bool) (k : ℕ) → mask_l ms / 2 ^ k ≡ mask_l (drop k ms)
mask_drop ms zero = div-one (mask_l ms)
mask_drop [] (suc k) = zero-div (2 ^ suc k)
mask_drop (m ∷ ms) (suc k) =
    ap (λ n. mask_l (m ∷ ms) / n) (pow-succ' 2 k) ∙ sym (div-div-eq-div-mul (mask_l (m ∷ ms)) 2 (2 ^ k)) ∙ ap (λ n. n / 2 ^ k) (half m (mask_l ms)) ∙ mask_drop ms k

-- whether two tests have the same answer
unfoldable pub agree : Bool → Bool → Bool
agree true b = b
agree false b = not b

pub agreed : (a b : Bool) → agree a b ≡ true → a ≡ b
unfolding agree
agreed true true h = refl
agreed true false h = sym h
agreed false true h = h
agreed false false h = refl

-- ---- digit places

pub is_place_by_number : (code : ℕ) → code < 64 → is_place code ≡ ((if code == 10 then 0 else code) == 0)
unfolding agree is_place is_any glyph_of
is_place_by_number code h = agreed _ _ (at_each (λ c. agree (is_place c) ((if c == 10 then 0 else c) == 0)) 64 refl code h)

abbrev is_place_lane : ℕ → Bool
is_place_lane code = (if code == 10 then 0 else code) == 0

ones_are_places : (xs : List ℕ) → All (λ code. code < 64) xs → count_ones (mask_l (map is_place_lane xs)) ≡ places xs
unfolding places count_ones
ones_are_places [] all = refl
ones_are_places (code ∷ xs) all =
    ones-mask_l_cons (is_place_lane code) (map is_place_lane xs)
    ∙ ap (λ n. cond (is_place_lane code) 1 0 + n) (ones_are_places xs (All-tail (λ c. c < 64) code xs all))
    ∙ one_more (is_place_lane code) (places xs)
    ∙ ap (λ b. if b then suc (places xs) else places xs) (sym (is_place_by_number code (All-head (λ c. c < 64) code xs all))) where
      one_more : (b : Bool) (n : ℕ) → cond b 1 0 + n ≡ (if b then suc n else n)
      one_more true n = omega arith
      one_more false n = omega arith

-- the digit places among the last of sixteen characters, by the ones of their mask
pub places_are_ones : (xs ys : List ℕ) (k mask : ℕ) → All (λ code. code < 64) xs → ys ≡ map (λ lane. if lane == 10 then 0 else lane) xs → mask ≡ mask_l (map (λ lane. lane == 0) ys) →
    count_ones (mask / 2 ^ k) ≡ places (drop k xs)
places_are_ones xs ys k mask all ys_is mask_is =
    let whole : mask ≡ mask_l (map is_place_lane xs) = mask_is ∙ ap (λ l. mask_l (map (λ lane. lane == 0) l)) ys_is ∙ ap mask_l (map-map (λ lane. lane == 0) (λ lane. if lane == 10 then 0 else lane) xs) in
    ap (λ n. count_ones (n / 2 ^ k)) whole ∙ ap count_ones (mask_drop (map is_place_lane xs) k ∙ ap mask_l (drop-map is_place_lane k xs))
    ∙ ones_are_places (drop k xs) (All-drop (λ code. code < 64) k xs all)

pub places_most : (xs : List ℕ) → places xs ≤ length xs
unfolding places
places_most [] = omega arith
places_most (code ∷ xs) = within (is_place code) (places xs) (length xs) (places_most xs) where
  within : (b : Bool) (n m : ℕ) → n ≤ m → (if b then suc n else n) ≤ suc m
  within true n m le = omega arith
  within false n m le = omega arith

-- ---- the last characters up to a position

pub near_long : (s : Storage) (p : ℕ) (xs : List ℕ) → 15 ≤ p → p < length s → xs ≡ codes_ending s p 16 → length xs ≡ 16
near_long s p xs room h is = ap length is ∙ length-codes_ending s p 16 h (omega arith)

pub near_places : (s : Storage) (p count n : ℕ) (xs : List ℕ) → 15 ≤ p → p < length s → count ≤ 16 → xs ≡ codes_ending s p 16 → n ≡ places (drop (16 - count) xs) → n ≡ places (codes_ending s p count)
near_places s p count n xs room h le is n_is = n_is ∙ ap (λ l. places (drop (16 - count) l)) is ∙ ap places (last_of_sixteen s p count room h le)

-- the last of sixteen characters written over the last of those up to a position
pub last_put : (s new : Storage) (p count : ℕ) (old codes lanes : List ℕ) → 15 ≤ p → p < length s → count ≤ 16 → length codes ≡ 16 → old ≡ codes_ending s p 16 →
    lanes ≡ take (16 - count) old ++ drop (16 - count) codes → new ≡ put_codes s (p - 15) lanes → new ≡ put_codes s (p + 1 - count) (drop (16 - count) codes)
last_put s new p count old codes lanes room h le long old_is lanes_is new_is =
    new_is ∙ ap (put_codes s (p - 15)) (lanes_is ∙ ap (λ l. take (16 - count) l ++ drop (16 - count) codes) old_is)
    ∙ put_last s p count (drop (16 - count) codes) room h le (omega (arith, long, length-drop (16 - count) codes))

pub lanes_long : (k : ℕ) (old codes lanes : List ℕ) → length old ≡ 16 → length codes ≡ 16 → k ≤ 16 → lanes ≡ take k old ++ drop k codes → length lanes ≡ 16
lanes_long k old codes lanes long long' le is = ap length is ∙ length-append (take k old) (drop k codes) ∙ sum_of where
  sum_of : length (take k old) + length (drop k codes) ≡ 16
  sum_of = omega (arith, length-take-le k old, length-drop k codes)

pub lanes_below : (k : ℕ) (old codes lanes : List ℕ) → All (λ code. code < 64) old → All (λ code. code < 64) codes → lanes ≡ take k old ++ drop k codes → All (λ code. code < 64) lanes
lanes_below k old codes lanes all all' is =
    All-same (λ code. code < 64) _ _ is (All-append (λ code. code < 64) (take k old) (drop k codes) (All-take (λ code. code < 64) k old all) (All-drop (λ code. code < 64) k codes all'))
