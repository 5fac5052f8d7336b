-- what stands at the digit places of a control that was filled
use Rattle.std.proofs.Common.{◌≡◌, ◌≢◌, ℕ, zero, suc, ◌+◌, ◌-◌, ◌<◌, Bool, true, List, [], ◌∷◌, sym, ◌∙◌, refl, ap, arith, length, get_or, drop, add-one, if◌then◌else◌}
use Rattle.std.proofs.Math.Decide.{dec_lt}
use Rattle.std.proofs.lemmas.Bool.{eq-eqb, ne_eqb}
use Rattle.moves.specs.Characters.{from_right}
use Rattle.moves.specs.Edited.{is_place, places, filled_code, filled, IsShown}
use Rattle.moves.proofs.Copying.{from_right_past}

filled_at : (control amount : List ℕ) (minus : Bool) (k : ℕ) → k < length control →
    get_or (filled control amount minus) k 0
    ≡ filled_code minus (length amount) (places (drop (suc k) control)) (from_right amount (places (drop (suc k) control))) (get_or control k 0)
unfolding filled
filled_at [] amount minus k h = absurd (omega arith)
filled_at (code ∷ control) amount minus zero h = refl
filled_at (code ∷ control) amount minus (suc k) h = filled_at control amount minus k (omega arith)

filled_place : (minus : Bool) (count right digit code : ℕ) → is_place code ≡ true → filled_code minus count right digit code ≡ digit
unfolding filled_code
filled_place minus count right digit code place = rw place refl

pub from_right_is : (codes : List ℕ) (j : ℕ) → j < length codes → from_right codes j ≡ get_or codes (length codes - 1 - j) 0
unfolding from_right
from_right_is [] j h = absurd (omega arith)
from_right_is (c ∷ codes) j h =
    elim (dec_lt j (length codes)) [
      | yes right ↦
          let ne : j ≢ length codes = omega arith in
          let next : suc (length codes - 1 - j) ≡ length (c ∷ codes) - 1 - j = omega arith in
          ap (λ b. if b then c else from_right codes j) (ne_eqb j (length codes) ne) ∙ from_right_is codes j right ∙ ap (λ n. get_or (c ∷ codes) n 0) next
      | no left ↦
          let same : j ≡ length codes = omega arith in
          let first : 0 ≡ length (c ∷ codes) - 1 - j = omega arith in
          ap (λ b. if b then c else from_right codes j) (eq-eqb j (length codes) same) ∙ ap (λ n. get_or (c ∷ codes) n 0) first
    ]

pub is_shown : (control amount : List ℕ) (minus : Bool) (place : ℕ) → place < length control → is_place (get_or control place 0) ≡ true → IsShown control amount minus place
is_shown control amount minus place h here =
    let right = places (drop (place + 1) control) in
    let holds : get_or (filled control amount minus) place 0 ≡ from_right amount (places (drop (place + 1) control)) =
    filled_at control amount minus place h
    ∙ filled_place minus (length amount) (places (drop (suc place) control)) (from_right amount (places (drop (suc place) control))) (get_or control place 0) here
    ∙ ap (λ n. from_right amount (places (drop n control))) (sym (add-one place)) in
    record {
      shown = λ lt. holds ∙ from_right_is amount (places (drop (place + 1) control)) lt;
      empty = λ le. holds ∙ from_right_past amount (places (drop (place + 1) control)) le;
    }
