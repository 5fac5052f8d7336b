-- an edit by a control field of at most sixteen characters
use Rattle.std.proofs.Common.{◌≡◌, ℕ, ◌+◌, ◌-◌, ◌<◌, ◌≤◌, Bool, true, false, Some, Ok, List, sym, ◌∙◌, ap, arith, length, drop, min, max}
use Rattle.bcd.specs.Table.{zone_of}
use Rattle.core_store.specs.Storage.{Storage, code_at, codes_ending, field_length, put_codes, with_mark}
use Rattle.core_store.specs.Operands.{are_inside, cut_length, is_minus_zone, lowered_by, near_length}
use Rattle.core_store.specs.declared.registers.Registers.{Registers}
use Rattle.core_store.proofs.Fields.{length-codes_ending}
use Rattle.core_store.proofs.NearCodes.{last_of_sixteen}
use Rattle.core_store.proofs.NearMarks.{cut_is_near}
use Rattle.moves.specs.Characters.{bare_units}
use Rattle.moves.specs.Edited.{places, edited, is_minus, is_sharing, field_edited}
use Rattle.moves.proofs.FillingLemmas.{sign_is}
use Rattle.moves.proofs.LaneBlanks.{drop-bare}
use Rattle.moves.proofs.LaneLemmas.{places_most}

-- ---- how many characters are read

pub wanted_few : (s : Storage) (b count wanted : ℕ) → b < length s → count ≤ b + 1 → count ≤ 16 → wanted ≡ max 1 (places (codes_ending s b count)) → wanted ≤ 16
wanted_few s b count wanted b_in from most is = omega (arith, is, places_most (codes_ending s b count), length-codes_ending s b count b_in from)

pub near_cut : (s : Storage) (a near wanted required least : ℕ) → near ≡ near_length s a → 15 ≤ a → wanted ≡ required → wanted ≤ 16 → least ≡ min near wanted → cut_length s a required ≡ Some least
near_cut s a near wanted required least near_is room is few least_is = ap (cut_length s a) (sym is) ∙ sym (cut_is_near s a wanted near near_is few room least least_is)

-- ---- what is written

module _ (s : Storage) (a a_count b b_count : ℕ) (a_in : a < length s) (b_in : b < length s) (a_room : 15 ≤ a) (b_room : 15 ≤ b) (some : 1 ≤ a_count) (a_most : a_count ≤ 16) (b_most : b_count ≤ 16) where
  pub near_edited : (control : List ℕ) → control ≡ codes_ending s b 16 → (near : List ℕ) → near ≡ codes_ending s a 16 → (amount : List ℕ) → amount ≡ bare_units near →
      (minus : Bool) → minus ≡ is_minus_zone (zone_of (code_at s a)) →
      (shown : List ℕ) → drop (16 - b_count) shown ≡ edited (drop (16 - b_count) control) (drop (16 - a_count) amount) minus →
      (new : Storage) → new ≡ put_codes s (b + 1 - b_count) (drop (16 - b_count) shown) →
      new ≡ put_codes s (b + 1 - b_count) (edited (codes_ending s b b_count) (bare_units (codes_ending s a a_count)) (is_minus (codes_ending s a a_count)))
  near_edited control control_is near near_is amount amount_is minus minus_is shown shown_is new new_is =
      let field : drop (16 - b_count) control ≡ codes_ending s b b_count = ap (drop (16 - b_count)) control_is ∙ last_of_sixteen s b b_count b_room b_in b_most in
      let read : drop (16 - a_count) amount ≡ bare_units (codes_ending s a a_count) =
      ap (drop (16 - a_count)) (amount_is ∙ ap bare_units near_is) ∙ drop-bare (16 - a_count) (codes_ending s a 16) ∙ ap bare_units (last_of_sixteen s a a_count a_room a_in a_most) in
      let sign : minus ≡ is_minus (codes_ending s a a_count) = minus_is ∙ sign_is s a a_count a_in some (omega arith) in
      new_is ∙ ap (put_codes s (b + 1 - b_count))
      (shown_is ∙ ap (λ l. edited l (drop (16 - a_count) amount) minus) field ∙ ap (λ l. edited (codes_ending s b b_count) l minus) read
      ∙ ap (edited (codes_ending s b b_count) (bare_units (codes_ending s a a_count))) sign)

-- an edit that passes all checks
pub edit_passes : (s : Storage) (r : Registers) (a_count b_count : ℕ) → are_inside s r.a r.b ≡ true → field_length s r.b ≡ Some b_count →
    cut_length s r.a (max 1 (places (codes_ending s r.b b_count))) ≡ Some a_count → is_sharing r.a a_count r.b b_count ≡ false →
    (filled new : Storage) →
    filled ≡ put_codes s (r.b + 1 - b_count) (edited (codes_ending s r.b b_count) (bare_units (codes_ending s r.a a_count)) (is_minus (codes_ending s r.a a_count))) →
    new ≡ with_mark filled (r.b + 1 - b_count) false → (after : Registers) → after ≡ lowered_by r a_count b_count → field_edited s r ≡ Ok (new, after)
unfolding field_edited
edit_passes s r a_count b_count inside field cut apart filled new filled_is new_is after after_is =
    rw (inside, field, cut, apart) (ap (λ t. Ok (t, lowered_by r a_count b_count)) (sym (new_is ∙ ap (λ t. with_mark t (r.b + 1 - b_count) false) filled_is)) ∙ ap (λ x. Ok (new, x)) (sym after_is))
