-- a control field of sixteen lanes that is filled and blanked at once
use Rattle.std.proofs.Common.{◌≡◌, ◌≢◌, ℕ, zero, suc, ◌-◌, ◌<◌, ◌≤◌, ◌==◌, ◌&&◌, All, Bool, true, false, not, cond, eqb, nat_le, if◌then◌else◌, List, [], ◌∷◌, refl, sym, ◌∙◌, ap, arith, length, drop, map, min, codes}
use Rattle.std.specs.Simd.Lanes.{sel_l, zip2}
use Rattle.std.proofs.lemmas.Bool.{eqb-true, ne_eqb, and_right}
use Rattle.std.proofs.lemmas.List.{length-drop}
use Rattle.std.proofs.lemmas.List.Elements.{All-nil, All-cons, All-head, All-tail, All-same, All-drop}
use Rattle.bcd.specs.Table.{glyph_of}
use Rattle.bcd.proofs.Tables.{at_each}
use Rattle.moves.specs.Blanked.{ends, leading, blanked}
use Rattle.moves.specs.declared.blanking.Stop.TheVariants.{Digit}
use Rattle.moves.specs.Characters.{is_any, blank, from_right}
use Rattle.moves.specs.Edited.{is_place, places, places_right, filled_code, filled, through_zero, edited}
use Rattle.moves.proofs.FillingLemmas.{length-filled}
use Rattle.moves.proofs.LaneLemmas.{is_place_by_number}
use Rattle.moves.proofs.ControlPlaces.{without_zero}

-- ---- characters that are kept

abbrev replaced : ℕ → ℕ → ℕ
replaced old code = if code == old then 0 else code

abbrev unsigned : ℕ → ℕ
unsigned code = replaced 32 (replaced 41 (replaced 51 (replaced 48 code)))

abbrev signed : Bool → ℕ → ℕ
signed fades code = if fades then unsigned code else replaced 48 code

abbrev lane_kept : Bool → Bool → ℕ → ℕ
lane_kept fades ended code = if ended then replaced 27 (signed fades code) else signed fades code

-- the same by glyphs, at the last place of all and else, of a minus amount and else
abbrev kept : Bool → Bool → Bool → ℕ → ℕ
kept last minus ended code =
    if is_place code then code
    else (if is_any (codes "&") code then blank
    else (if is_any (codes "CR-") code && last && not minus then blank
    else (if is_any (codes ",") code && ended then blank
    else code)))

same_kept : (last minus ended : Bool) (code : ℕ) → code < 64 → lane_kept (last && not minus) ended code ≡ kept last minus ended code
unfolding is_place is_any glyph_of
same_kept true true true code h = eqb-true _ _ (at_each (λ c. eqb (lane_kept false true c) (kept true true true c)) 64 refl code h)
same_kept true true false code h = eqb-true _ _ (at_each (λ c. eqb (lane_kept false false c) (kept true true false c)) 64 refl code h)
same_kept true false true code h = eqb-true _ _ (at_each (λ c. eqb (lane_kept true true c) (kept true false true c)) 64 refl code h)
same_kept true false false code h = eqb-true _ _ (at_each (λ c. eqb (lane_kept true false c) (kept true false false c)) 64 refl code h)
same_kept false true true code h = eqb-true _ _ (at_each (λ c. eqb (lane_kept false true c) (kept false true true c)) 64 refl code h)
same_kept false true false code h = eqb-true _ _ (at_each (λ c. eqb (lane_kept false false c) (kept false true false c)) 64 refl code h)
same_kept false false true code h = eqb-true _ _ (at_each (λ c. eqb (lane_kept false true c) (kept false false true c)) 64 refl code h)
same_kept false false false code h = eqb-true _ _ (at_each (λ c. eqb (lane_kept false false c) (kept false false false c)) 64 refl code h)

and_true : (b : Bool) → b ≡ (b && true)
and_true true = refl
and_true false = refl

fading : (minus : Bool) (place : ℕ) → place < 16 → eqb place (if minus then 16 else 0) ≡ (eqb place 0 && not minus)
fading true place lt = let ne : place ≢ 16 = omega arith in ne_eqb place 16 ne ∙ sym (and_right (eqb place 0) false refl)
fading false place lt = and_true (eqb place 0)

one_kept : (minus : Bool) (count place code : ℕ) → place < 16 → code < 64 → lane_kept (place == (if minus then 16 else 0)) (nat_le count place) code ≡ filled_code minus count place code code
unfolding filled_code
one_kept minus count place code lt h = ap (λ b. lane_kept b (nat_le count place) code) (fading minus place lt) ∙ same_kept (eqb place 0) minus (nat_le count place) code h

-- of a minus amount each character is as it is
pub all_signed : (right none spaced : List ℕ) (n : ℕ) → length right ≡ n → length none ≡ n → length spaced ≡ n → All (λ place. place < 16) right →
    spaced ≡ sel_l (map (λ key. key == 16) right) none spaced
all_signed [] [] [] n e f g small = refl
all_signed [] [] (s ∷ spaced) n e f g small = absurd (omega arith)
all_signed [] (x ∷ none) spaced n e f g small = absurd (omega arith)
all_signed (place ∷ right) [] spaced n e f g small = absurd (omega arith)
all_signed (place ∷ right) (x ∷ none) [] n e f g small = absurd (omega arith)
all_signed (place ∷ right) (x ∷ none) (s ∷ spaced) n e f g small =
    let few : place < 16 = All-head (λ k. k < 16) place right small in
    let ne : place ≢ 16 = omega arith in
    ap (λ b. cond b x s ∷ spaced) (sym (ne_eqb place 16 ne))
    ∙ ap (λ l. cond (place == 16) x s ∷ l) (all_signed right none spaced (n - 1) (omega arith) (omega arith) (omega arith) (All-tail (λ k. k < 16) place right small))

abbrev signed_lanes : Bool → List ℕ → List ℕ → List ℕ
signed_lanes minus right control =
    sel_l (map (λ key. key == (if minus then 16 else 0)) right) (map (replaced 32) (map (replaced 41) (map (replaced 51) (map (replaced 48) control)))) (map (replaced 48) control)

all_kept : (right control : List ℕ) (minus : Bool) (count : ℕ) → length right ≡ length control → All (λ place. place < 16) right → All (λ code. code < 64) control →
    sel_l (map (λ key. nat_le count key) right) (map (replaced 27) (signed_lanes minus right control)) (signed_lanes minus right control) ≡ zip2 (λ place code. filled_code minus count place code code) right control
all_kept [] control minus count e small below = refl
all_kept (place ∷ right) [] minus count e small below = absurd (omega arith)
all_kept (place ∷ right) (code ∷ control) minus count e small below =
    ap (λ x. x ∷ sel_l (map (λ key. nat_le count key) right) (map (replaced 27) (signed_lanes minus right control)) (signed_lanes minus right control))
    (one_kept minus count place code (All-head (λ n. n < 16) place right small) (All-head (λ n. n < 64) code control below))
    ∙ ap (λ l. filled_code minus count place code code ∷ l) (all_kept right control minus count (omega arith) (All-tail (λ n. n < 16) place right small) (All-tail (λ n. n < 64) code control below))

module _ (right control : List ℕ) (minus : Bool) (count : ℕ) (e : length right ≡ length control) (small : All (λ place. place < 16) right) (below : All (λ code. code < 64) control) where
  -- of what the calls answered
  pub codes_kept : (spaced no_c no_r none : List ℕ) → spaced ≡ map (λ lane. if lane == 48 then 0 else lane) control → no_c ≡ map (λ lane. if lane == 51 then 0 else lane) spaced →
      no_r ≡ map (λ lane. if lane == 41 then 0 else lane) no_c → none ≡ map (λ lane. if lane == 32 then 0 else lane) no_r →
      (signs : List ℕ) → signs ≡ sel_l (map (λ key. key == (if minus then 16 else 0)) right) none spaced →
      (bare : List ℕ) → bare ≡ map (λ lane. if lane == 27 then 0 else lane) signs → (all : List ℕ) → all ≡ sel_l (map (λ key. nat_le count key) right) bare signs →
      all ≡ zip2 (λ place code. filled_code minus count place code code) right control
  codes_kept spaced no_c no_r none spaced_is no_c_is no_r_is none_is signs signs_is bare bare_is all all_is =
      let lanes : none ≡ map (replaced 32) (map (replaced 41) (map (replaced 51) (map (replaced 48) control))) =
      none_is ∙ ap (map (replaced 32)) (no_r_is ∙ ap (map (replaced 41)) (no_c_is ∙ ap (map (replaced 51)) spaced_is)) in
      let shown : signs ≡ signed_lanes minus right control =
      signs_is
      ∙ ap (λ l. sel_l (map (λ key. key == (if minus then 16 else 0)) right) l spaced) lanes
      ∙ ap (sel_l (map (λ key. key == (if minus then 16 else 0)) right) (map (replaced 32) (map (replaced 41) (map (replaced 51) (map (replaced 48) control))))) spaced_is in
      all_is ∙ ap (λ l. sel_l (map (λ key. nat_le count key) right) l signs) (bare_is ∙ ap (map (replaced 27)) shown)
      ∙ ap (sel_l (map (λ key. nat_le count key) right) (map (replaced 27) (signed_lanes minus right control))) shown ∙ all_kept right control minus count e small below

-- ---- the field as it is filled

by_place : (b : Bool) (digit code other : ℕ) → (if b then digit else (if b then code else other)) ≡ (if b then digit else other)
by_place true digit code other = refl
by_place false digit code other = refl

placed : (minus : Bool) (count right digit code : ℕ) → (if is_place code then digit else filled_code minus count right code code) ≡ filled_code minus count right digit code
unfolding filled_code
placed minus count right digit code = by_place (is_place code) digit code _

lanes_filled : (control amount : List ℕ) (minus : Bool) (count : ℕ) → count ≡ length amount → All (λ code. code < 64) control →
    sel_l (map (λ key. key == 0) (map without_zero control)) (map (from_right amount) (places_right control)) (zip2 (λ place code. filled_code minus count place code code) (places_right control) control)
    ≡ filled control amount minus
unfolding filled places_right
lanes_filled [] amount minus count is below = refl
lanes_filled (c ∷ cs) amount minus count is below =
    let right = places cs in
    let rest = sel_l (map (λ key. key == 0) (map without_zero cs)) (map (from_right amount) (places_right cs)) (zip2 (λ place code. filled_code minus count place code code) (places_right cs) cs) in
    ap (λ b. (if b then from_right amount right else filled_code minus count right c c) ∷ rest) (sym (is_place_by_number c (All-head (λ n. n < 64) c cs below)))
    ∙ ap (λ x. x ∷ rest) (placed minus count right (from_right amount right) c)
    ∙ ap (λ n. filled_code minus n right (from_right amount right) c ∷ rest) is
    ∙ ap (λ l. filled_code minus (length amount) right (from_right amount right) c ∷ l) (lanes_filled cs amount minus count is (All-tail (λ n. n < 64) c cs below))

either : (b : Bool) (x y : ℕ) → x < 64 → y < 64 → (if b then x else y) < 64
either true x y hx hy = hx
either false x y hx hy = hy

from_right_below : (xs : List ℕ) (place : ℕ) → All (λ code. code < 64) xs → from_right xs place < 64
unfolding from_right
from_right_below [] place all = omega arith
from_right_below (c ∷ cs) place all =
    either (place == length cs) c (from_right cs place) (All-head (λ n. n < 64) c cs all) (from_right_below cs place (All-tail (λ n. n < 64) c cs all))

code_below : (minus : Bool) (count right digit code : ℕ) → digit < 64 → code < 64 → filled_code minus count right digit code < 64
unfolding filled_code
code_below minus count right digit code hd hc =
    let space : blank < 64 = omega arith in
    either (is_place code) digit _ hd (either (is_any (codes "&") code) blank _ space (either _ blank _ space (either _ blank code space hc)))

filled_below : (control amount : List ℕ) (minus : Bool) → All (λ code. code < 64) control → All (λ code. code < 64) amount → All (λ code. code < 64) (filled control amount minus)
unfolding filled
filled_below [] amount minus below all = All-nil (λ n. n < 64)
filled_below (c ∷ cs) amount minus below all =
    All-cons (λ n. n < 64) _ (filled cs amount minus)
    (code_below minus (length amount) (places cs) (from_right amount (places cs)) c (from_right_below amount (places cs) all) (All-head (λ n. n < 64) c cs below))
    (filled_below cs amount minus (All-tail (λ n. n < 64) c cs below) all)

module _ (control data' : List ℕ) (minus : Bool) (count : ℕ) (most : count ≤ 16) (long : length control ≡ 16) (long' : length data' ≡ 16) (below : All (λ code. code < 64) control)
    (right : List ℕ) (right_is : right ≡ places_right control) (digits : List ℕ) (digits_is : digits ≡ map (from_right (drop (16 - count) data')) right)
    (kept' : List ℕ) (kept_is : kept' ≡ zip2 (λ place code. filled_code minus count place code code) right control)
    (keys : List ℕ) (keys_is : keys ≡ map (λ lane. if lane == 10 then 0 else lane) control) (all : List ℕ) (all_is : all ≡ sel_l (map (λ key. key == 0) keys) digits kept') where
  pub all_filled : all ≡ filled control (drop (16 - count) data') minus
  all_filled =
      let amount = drop (16 - count) data' in
      all_is ∙ ap (λ l. sel_l (map (λ key. key == 0) l) digits kept') keys_is
      ∙ ap (λ l. sel_l (map (λ key. key == 0) (map without_zero control)) l kept') (digits_is ∙ ap (map (from_right amount)) right_is)
      ∙ ap (sel_l (map (λ key. key == 0) (map without_zero control)) (map (from_right amount) (places_right control)))
      (kept_is ∙ ap (λ l. zip2 (λ place code. filled_code minus count place code code) l control) right_is)
      ∙ lanes_filled control amount minus count (omega (arith, length-drop (16 - count) data')) below

  pub filled_sixteen : length all ≡ 16
  filled_sixteen = ap length all_filled ∙ length-filled control (drop (16 - count) data') minus ∙ long

  pub filled_small : All (λ code. code < 64) data' → All (λ code. code < 64) all
  filled_small below' =
      All-same (λ code. code < 64) all (filled control (drop (16 - count) data') minus) all_filled
      (filled_below control (drop (16 - count) data') minus below (All-drop (λ code. code < 64) (16 - count) data' below'))

-- ---- the last of sixteen characters

drop-filled : (k : ℕ) (control amount : List ℕ) (minus : Bool) → drop k (filled control amount minus) ≡ filled (drop k control) amount minus
unfolding filled
drop-filled zero control amount minus = refl
drop-filled (suc k) [] amount minus = refl
drop-filled (suc k) (c ∷ cs) amount minus = drop-filled k cs amount minus

pub codes_edited : (control amount : List ℕ) (minus : Bool) (k : ℕ) (all : List ℕ) → all ≡ filled control amount minus → (through : ℕ) → through ≡ through_zero (drop k control) →
    (shown : List ℕ) → drop k shown ≡ blanked (min through (leading (ends Digit) (drop k all))) (drop k all) → drop k shown ≡ edited (drop k control) amount minus
unfolding edited
codes_edited control amount minus k all all_is through through_is shown shown_is =
    let last : drop k all ≡ filled (drop k control) amount minus = ap (drop k) all_is ∙ drop-filled k control amount minus in
    shown_is ∙ ap (λ l. blanked (min through (leading (ends Digit) l)) l) last
    ∙ ap (λ n. blanked (min n (leading (ends Digit) (filled (drop k control) amount minus))) (filled (drop k control) amount minus)) through_is
