-- the boot card's eleven instructions
use Rattle.std.proofs.Common.{◌≡◌, ℕ, zero, suc, ◌+◌, ◌-◌, ◌≤◌, Bool, true, false, List, [], ◌∷◌, ◌++◌, Some, None, refl, sym, ◌∙◌, ap, arith, length, get_or, take, drop, replicate, slice_index, codes, le-leb}
use Rattle.std.proofs.lemmas.List.{length-replicate}
use Rattle.cards.specs.declared.decks.Card.{Card}
use Rattle.core_store.specs.Storage.{Storage, code_at, is_marked, least_mark, with_mark, blank_storage, put_codes}
use Rattle.addresses.specs.Addresses.{encoded, written}
use Rattle.addresses.specs.Digits.{code_of, digit_under}
use Rattle.bcd.specs.Table.{glyph_of}
use Rattle.units.specs.declared.profiles.Profile.{Profile}
use Rattle.units.specs.declared.switches.Switches.{Switches}
use Rattle.core_store.specs.declared.sizes.Size.{Size}
use Rattle.core_store.proofs.SizeLemmas.{within}
use Rattle.core_store.specs.Storage.{positions_of}
use Rattle.machine.specs.Glyphs.{is_glyph}
use Rattle.machine.specs.Word.{word_length}
use Rattle.machine.specs.Run.{State, step, after, loaded}
use Rattle.loader.specs.Cards.{text, instruction, unused, boot_card}
use Rattle.loader.specs.Loading.{loading_marks}
use Rattle.loader.proofs.LoadingFronts.{Holds, is_stop, least_stop, put_stop, least_is_stop, holds_low, holds_card}
use Rattle.loader.proofs.LoadingSteps.{At, ends_at, by_set, by_clear, by_set_one, by_nothing, by_reading}

-- what repeats is found everywhere
pub repeated : {X : Type 0} (n p : ℕ) (d : X) → get_or (replicate n d) p d ≡ d
repeated zero p d = refl
repeated (suc n) zero d = refl
repeated (suc n) (suc p) d = repeated n p d

-- a storage of blanks
blank_holds : (size : ℕ) → 81 ≤ size → Holds (blank_storage size) size [] (replicate 80 0) (blank_storage size)
blank_holds size large = record {
  size_is = length-replicate size (0, false);
  rest_size = length-replicate size (0, false);
  large = large;
  card_size = refl;
  zero_is = repeated size 0 (0, false);
  code_is = λ p one eighty. ap (λ (c : ℕ × Bool). c.0) (repeated size p (0, false)) ∙ sym (repeated 80 (p - 1) 0);
  mark_is = λ p one eighty. ap (λ (c : ℕ × Bool). c.1) (repeated size p (0, false));
  above = λ p up. refl;
}

boot_size : length boot_card.0 ≡ 80
unfolding boot_card
boot_size = refl

-- a comma with no mark behind it
first_ends : (s : Storage) → is_marked s 1 ≡ true → least_mark s 2 8 ≡ None → is_glyph (code_at s 1) (codes ",") ≡ true → 8 ≤ length s → Some 7 ≡ word_length s 1
unfolding word_length
first_ends s marked none comma inside = rw (marked, none, comma, le-leb 8 (length s) inside) refl

-- an instruction of the boot card, at a stop and up to the next one
module _ (deck : List Card) (switches : Switches) (profile : Profile) (size : ℕ) (small : size ≤ 16000) (rest : Storage) where
  -- the machine is at an instruction of the boot card, with marks at these stops
  abbrev pub Here : State → ℕ → List ℕ → Type 0
  Here m i stops = At deck switches profile size m i 1 stops boot_card.0 rest

  module _ (m : State) (i count : ℕ) (stops : List ℕ) (here : Here m i stops) (within : (1 ≤ i) × (i ≤ 72)) (short : count ≤ 7)
      (ends : Some count ≡ word_length m.works.storage i) where
    two : (v : Bool) (x y : ℕ) → (1 ≤ x) × (x ≤ 80) → (1 ≤ y) × (y ≤ 80) →
        Holds (with_mark (with_mark m.works.storage x v) y v) size (put_stop v y (put_stop v x stops)) boot_card.0 rest
    two v x y x_in y_in =
        holds_low (with_mark m.works.storage x v) size (put_stop v x stops) boot_card.0 rest
        (holds_low m.works.storage size stops boot_card.0 rest here.storage v x x_in.0 x_in.1) v y y_in.0 y_in.1

    pub boot_set : (x y : ℕ) → (1 ≤ x) × (x ≤ 80) → (1 ≤ y) × (y ≤ 80) → count ≡ 7 → take count (drop (i - 1) boot_card.0) ≡ instruction (codes ",") x y →
        Here (step m) (i + count) (put_stop true y (put_stop true x stops))
    boot_set x y x_in y_in seven says =
        by_set deck switches profile size small m i 1 stops boot_card.0 rest here within.0 within.1 count short ends
        x y (omega (arith, x_in.1, here.storage.large)) (omega (arith, y_in.1, here.storage.large)) seven says _ rest (two true x y x_in y_in)

    pub boot_clear : (x y : ℕ) → (1 ≤ x) × (x ≤ 80) → (1 ≤ y) × (y ≤ 80) → count ≡ 7 → take count (drop (i - 1) boot_card.0) ≡ instruction (codes ")") x y →
        Here (step m) (i + count) (put_stop false y (put_stop false x stops))
    boot_clear x y x_in y_in seven says =
        by_clear deck switches profile size small m i 1 stops boot_card.0 rest here within.0 within.1 count short ends
        x y (omega (arith, x_in.1, here.storage.large)) (omega (arith, y_in.1, here.storage.large)) seven says _ rest (two false x y x_in y_in)

    pub boot_set_one : (x : ℕ) → (1 ≤ x) × (x ≤ 80) → count ≡ 4 → take count (drop (i - 1) boot_card.0) ≡ text (codes ",") ++ encoded x →
        Here (step m) (i + count) (put_stop true x (put_stop true x stops))
    boot_set_one x x_in four says =
        by_set_one deck switches profile size small m i 1 stops boot_card.0 rest here within.0 within.1 count short ends
        x (omega (arith, x_in.1, here.storage.large)) four says _ rest (two true x x x_in x_in)

    pub boot_nothing : count ≡ 7 → take count (drop (i - 1) boot_card.0) ≡ unused → Here (step m) (i + count) stops
    boot_nothing seven says = by_nothing deck switches profile size small m i 1 stops boot_card.0 rest here within.0 within.1 count short ends seven says

-- where the boot card is read
begun_storage : (size : ℕ) → 81 ≤ size → Holds (with_mark (put_codes (blank_storage size) 1 boot_card.0) 1 true) size (1 ∷ []) boot_card.0 (blank_storage size)
begun_storage size large =
    holds_low (put_codes (blank_storage size) 1 boot_card.0) size [] boot_card.0 (blank_storage size)
    (holds_card (blank_storage size) size [] (replicate 80 0) (blank_storage size) (blank_holds size large) boot_card.0 boot_size) true 1 (omega arith) (omega arith)

comma_first : is_glyph (slice_index boot_card.0 0) (codes ",") ≡ true
unfolding boot_card code_of glyph_of
comma_first = refl

-- after the eleven instructions the next card stands in 001 to 080, and register I is at its move
module _ (switches : Switches) (profile : Profile) (size : Size) (behind : List Card) (next_card : Card) (long : length next_card.0 ≡ 80) where
  abbrev deck : List Card
  deck = boot_card ∷ (next_card ∷ behind)

  abbrev blanks : Storage
  blanks = blank_storage (positions_of size)

  small : positions_of size ≤ 16000
  small = (within size).1

  large : 81 ≤ positions_of size
  large = let least = (within size).0 in omega arith

  -- the machine that has carried out so many of them
  abbrev m : ℕ → State
  m zero = loaded deck size switches profile
  m (suc k) = step (m k)

  abbrev Now : ℕ → ℕ → List ℕ → Type 0
  Now k i stops = Here deck switches profile (positions_of size) small blanks (m k) i stops

  ends : (k i count : ℕ) (stops : List ℕ) → Now k i stops → (1 ≤ i) × (i ≤ 72) → count ≤ 7 → is_stop stops i ≡ true → least_stop stops (i + 1) 8 ≡ Some (i + count) →
      Some count ≡ word_length (m k).works.storage i
  ends k i count stops here within short stopped next =
      ends_at (m k).works.storage (positions_of size) stops boot_card.0 blanks here.storage i count within.0 within.1 short stopped next

  now_0 : Now 0 1 (1 ∷ [])
  now_0 = record { running = refl; at = refl; equal = refl; clear = refl; units = refl; storage = begun_storage (positions_of size) large }

  -- the first ends where nothing is marked behind it
  first_found : Some 7 ≡ word_length (m 0).works.storage 1
  first_found =
      let s : Storage = (m 0).works.storage in
      let holds : Holds s (positions_of size) (1 ∷ []) boot_card.0 blanks = now_0.storage in
      first_ends s (holds.mark_is 1 (omega arith) (omega arith)) (least_is_stop s (positions_of size) (1 ∷ []) boot_card.0 blanks holds 2 8 (omega arith) (omega arith))
      (ap (λ c. is_glyph c (codes ",")) (holds.code_is 1 (omega arith) (omega arith)) ∙ comma_first) (omega (arith, holds.size_is, holds.large))

  now_1 : Now 1 8 (1 ∷ 8 ∷ 15 ∷ [])
  unfolding boot_card written code_of digit_under
  now_1 = boot_set deck switches profile (positions_of size) small blanks (m 0) 1 7 (1 ∷ []) now_0 (omega arith, omega arith) (omega arith) first_found 8 15 (omega arith, omega arith) (omega arith, omega arith) refl refl

  now_2 : Now 2 15 (1 ∷ 8 ∷ 15 ∷ 22 ∷ 29 ∷ [])
  unfolding boot_card written code_of digit_under
  now_2 = boot_set deck switches profile (positions_of size) small blanks (m 1) 8 7 (1 ∷ 8 ∷ 15 ∷ []) now_1 (omega arith, omega arith) (omega arith) (ends 1 8 7 (1 ∷ 8 ∷ 15 ∷ []) now_1 (omega arith, omega arith) (omega arith) refl refl) 22 29 (omega arith, omega arith) (omega arith, omega arith) refl refl

  now_3 : Now 3 22 (1 ∷ 8 ∷ 15 ∷ 22 ∷ 29 ∷ 36 ∷ 40 ∷ [])
  unfolding boot_card written code_of digit_under
  now_3 = boot_set deck switches profile (positions_of size) small blanks (m 2) 15 7 (1 ∷ 8 ∷ 15 ∷ 22 ∷ 29 ∷ []) now_2 (omega arith, omega arith) (omega arith) (ends 2 15 7 (1 ∷ 8 ∷ 15 ∷ 22 ∷ 29 ∷ []) now_2 (omega arith, omega arith) (omega arith) refl refl) 36 40 (omega arith, omega arith) (omega arith, omega arith) refl refl

  now_4 : Now 4 29 (1 ∷ 8 ∷ 15 ∷ 22 ∷ 29 ∷ 36 ∷ 40 ∷ 47 ∷ 54 ∷ [])
  unfolding boot_card written code_of digit_under
  now_4 = boot_set deck switches profile (positions_of size) small blanks (m 3) 22 7 (1 ∷ 8 ∷ 15 ∷ 22 ∷ 29 ∷ 36 ∷ 40 ∷ []) now_3 (omega arith, omega arith) (omega arith) (ends 3 22 7 (1 ∷ 8 ∷ 15 ∷ 22 ∷ 29 ∷ 36 ∷ 40 ∷ []) now_3 (omega arith, omega arith) (omega arith) refl refl) 47 54 (omega arith, omega arith) (omega arith, omega arith) refl refl

  now_5 : Now 5 36 (1 ∷ 8 ∷ 15 ∷ 22 ∷ 29 ∷ 36 ∷ 40 ∷ 47 ∷ 54 ∷ 61 ∷ 68 ∷ [])
  unfolding boot_card written code_of digit_under
  now_5 = boot_set deck switches profile (positions_of size) small blanks (m 4) 29 7 (1 ∷ 8 ∷ 15 ∷ 22 ∷ 29 ∷ 36 ∷ 40 ∷ 47 ∷ 54 ∷ []) now_4 (omega arith, omega arith) (omega arith) (ends 4 29 7 (1 ∷ 8 ∷ 15 ∷ 22 ∷ 29 ∷ 36 ∷ 40 ∷ 47 ∷ 54 ∷ []) now_4 (omega arith, omega arith) (omega arith) refl refl) 61 68 (omega arith, omega arith) (omega arith, omega arith) refl refl

  now_6 : Now 6 40 (1 ∷ 8 ∷ 15 ∷ 22 ∷ 29 ∷ 36 ∷ 40 ∷ 47 ∷ 54 ∷ 61 ∷ 68 ∷ 72 ∷ [])
  unfolding boot_card written code_of digit_under
  now_6 = boot_set_one deck switches profile (positions_of size) small blanks (m 5) 36 4 (1 ∷ 8 ∷ 15 ∷ 22 ∷ 29 ∷ 36 ∷ 40 ∷ 47 ∷ 54 ∷ 61 ∷ 68 ∷ []) now_5 (omega arith, omega arith) (omega arith) (ends 5 36 4 (1 ∷ 8 ∷ 15 ∷ 22 ∷ 29 ∷ 36 ∷ 40 ∷ 47 ∷ 54 ∷ 61 ∷ 68 ∷ []) now_5 (omega arith, omega arith) (omega arith) refl refl) 72 (omega arith, omega arith) refl refl

  now_7 : Now 7 47 (1 ∷ 22 ∷ 29 ∷ 36 ∷ 40 ∷ 47 ∷ 54 ∷ 61 ∷ 68 ∷ 72 ∷ [])
  unfolding boot_card written code_of digit_under
  now_7 = boot_clear deck switches profile (positions_of size) small blanks (m 6) 40 7 (1 ∷ 8 ∷ 15 ∷ 22 ∷ 29 ∷ 36 ∷ 40 ∷ 47 ∷ 54 ∷ 61 ∷ 68 ∷ 72 ∷ []) now_6 (omega arith, omega arith) (omega arith) (ends 6 40 7 (1 ∷ 8 ∷ 15 ∷ 22 ∷ 29 ∷ 36 ∷ 40 ∷ 47 ∷ 54 ∷ 61 ∷ 68 ∷ 72 ∷ []) now_6 (omega arith, omega arith) (omega arith) refl refl) 8 15 (omega arith, omega arith) (omega arith, omega arith) refl refl

  now_8 : Now 8 54 (1 ∷ 36 ∷ 40 ∷ 47 ∷ 54 ∷ 61 ∷ 68 ∷ 72 ∷ [])
  unfolding boot_card written code_of digit_under
  now_8 = boot_clear deck switches profile (positions_of size) small blanks (m 7) 47 7 (1 ∷ 22 ∷ 29 ∷ 36 ∷ 40 ∷ 47 ∷ 54 ∷ 61 ∷ 68 ∷ 72 ∷ []) now_7 (omega arith, omega arith) (omega arith) (ends 7 47 7 (1 ∷ 22 ∷ 29 ∷ 36 ∷ 40 ∷ 47 ∷ 54 ∷ 61 ∷ 68 ∷ 72 ∷ []) now_7 (omega arith, omega arith) (omega arith) refl refl) 22 29 (omega arith, omega arith) (omega arith, omega arith) refl refl

  now_9 : Now 9 61 (1 ∷ 40 ∷ 47 ∷ 54 ∷ 61 ∷ 68 ∷ 72 ∷ [])
  unfolding boot_card written code_of digit_under
  now_9 = boot_clear deck switches profile (positions_of size) small blanks (m 8) 54 7 (1 ∷ 36 ∷ 40 ∷ 47 ∷ 54 ∷ 61 ∷ 68 ∷ 72 ∷ []) now_8 (omega arith, omega arith) (omega arith) (ends 8 54 7 (1 ∷ 36 ∷ 40 ∷ 47 ∷ 54 ∷ 61 ∷ 68 ∷ 72 ∷ []) now_8 (omega arith, omega arith) (omega arith) refl refl) 36 36 (omega arith, omega arith) (omega arith, omega arith) refl refl

  now_10 : Now 10 68 (1 ∷ 40 ∷ 47 ∷ 54 ∷ 61 ∷ 68 ∷ 72 ∷ [])
  unfolding boot_card written code_of digit_under
  now_10 = boot_nothing deck switches profile (positions_of size) small blanks (m 9) 61 7 (1 ∷ 40 ∷ 47 ∷ 54 ∷ 61 ∷ 68 ∷ 72 ∷ []) now_9 (omega arith, omega arith) (omega arith) (ends 9 61 7 (1 ∷ 40 ∷ 47 ∷ 54 ∷ 61 ∷ 68 ∷ 72 ∷ []) now_9 (omega arith, omega arith) (omega arith) refl refl) refl refl

  -- what the boot card does
  pub booted : At deck switches profile (positions_of size) (after (m 0) 11) 40 2 loading_marks next_card.0 blanks
  unfolding after boot_card written code_of digit_under
  booted =
      by_reading deck switches profile (positions_of size) small (m 10) 68 1 (1 ∷ 40 ∷ 47 ∷ 54 ∷ 61 ∷ 68 ∷ 72 ∷ []) boot_card.0 blanks now_10 (omega arith) (omega arith) 4 (omega arith) (ends 10 68 4 (1 ∷ 40 ∷ 47 ∷ 54 ∷ 61 ∷ 68 ∷ 72 ∷ []) now_10 (omega arith, omega arith) (omega arith) refl refl)
      refl refl next_card refl long
