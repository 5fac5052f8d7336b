-- Rising letters are read as the set of switches that they are the letters of.
use Rattle.std.proofs.Common.{◌≡◌, ◌∙◌, ◌+◌, ◌^◌, ◌<◌, ◌==◌, ◌⊎◌, ◌||◌, ◌++◌, ℕ, Bool, List, [], ◌∷◌, Some, None, true, false, refl, ap, sym, subst, inl, inr, arith, append_assoc, append-nil}
use Rattle.std.specs.Prelude.{Option, if◌then◌else◌, nat_le, zero, suc}
use Rattle.std.specs.Option.{option_and_then, option_map_or}
use Rattle.std.specs.Str.{bytes_eq}
use Rattle.std.proofs.lemmas.Bool.{eqb-true, eqb-false, leb-false, lt-leb, ne_eqb}
use Rattle.std.proofs.lemmas.Slice.Eq.{bytes_eq-Decides}
use Rattle.bcd.proofs.Tables.{at_each}
use Rattle.texts.specs.Switches.{letter_bit, letters_of, risen, text_of_bits}

-- ---- the letters of a set are read as the set

abbrev is_read : ℕ → Bool
is_read bits = option_map_or (λ m. m == bits) (risen 0 (letters_of bits)) false

is_read_at : (bits : ℕ) → bits < 128 → is_read bits ≡ true
unfolding risen letters_of
is_read_at bits small = at_each is_read 128 refl bits small

read_as : (o : Option ℕ) (bits : ℕ) → option_map_or (λ m. m == bits) o false ≡ true → o ≡ Some bits
read_as None bits e = cc
read_as (Some m) bits e = ap (λ (n : ℕ). Some n) (eqb-true m bits e)

pub letters_read : (bits : ℕ) → bits < 128 → risen 0 (letters_of bits) ≡ Some bits
letters_read bits small = read_as (risen 0 (letters_of bits)) bits (is_read_at bits small)

-- ---- what is read is the set of the letters

-- the letter's place among the seven
record Place (letter bit : ℕ) : Type 0 where
  place : ℕ
  seven : place < 7
  letter_at : letter ≡ 65 + place
  bit_at : bit ≡ 2 ^ place

decided : (x y : ℕ) → (x ≡ y) ⊎ ((x == y) ≡ false)
decided x y = go (x == y) refl
  where
    go : (b : Bool) → (x == y) ≡ b → (x ≡ y) ⊎ ((x == y) ≡ false)
    go true e = inl (eqb-true x y e)
    go false e = inr e

some_is : {x y : ℕ} → Some x ≡ Some y → y ≡ x
some_is e = cc

place_of : (letter bit : ℕ) → letter_bit letter ≡ Some bit → Place letter bit
place_of letter bit e =
    elim (decided letter 65) [
      | inl a ↦ record { place = 0; seven = omega arith; letter_at = a; bit_at = some_is (rw a at e) }
      | inr a ↦
          elim (decided letter 66) [
            | inl b ↦ record { place = 1; seven = omega arith; letter_at = b; bit_at = some_is (rw b at e) }
            | inr b ↦
                elim (decided letter 67) [
                  | inl c ↦ record { place = 2; seven = omega arith; letter_at = c; bit_at = some_is (rw c at e) }
                  | inr c ↦
                      elim (decided letter 68) [
                        | inl d ↦ record { place = 3; seven = omega arith; letter_at = d; bit_at = some_is (rw d at e) }
                        | inr d ↦
                            elim (decided letter 69) [
                              | inl f ↦ record { place = 4; seven = omega arith; letter_at = f; bit_at = some_is (rw f at e) }
                              | inr f ↦
                                  elim (decided letter 70) [
                                    | inl g ↦ record { place = 5; seven = omega arith; letter_at = g; bit_at = some_is (rw g at e) }
                                    | inr g ↦
                                        elim (decided letter 71) [
                                          | inl h ↦ record { place = 6; seven = omega arith; letter_at = h; bit_at = some_is (rw h at e) }
                                          | inr h ↦
                                              let none : None ≡ Some bit = rw (a, b, c, d, f, g, h) at e in cc
                                        ]
                                  ]
                            ]
                      ]
                ]
          ]
    ]

-- a letter above those of a set comes last among the letters of both
abbrev adds_at : ℕ → ℕ → Bool
adds_at place bits = nat_le (2 ^ place) bits || bytes_eq (letters_of (bits + 2 ^ place)) (letters_of bits ++ (65 + place) ∷ [])

adds_each : (place bits : ℕ) → place < 7 → bits < 128 → adds_at place bits ≡ true
unfolding letters_of
adds_each zero bits seven small = at_each (adds_at 0) 128 refl bits small
adds_each (suc zero) bits seven small = at_each (adds_at 1) 128 refl bits small
adds_each (suc (suc zero)) bits seven small = at_each (adds_at 2) 128 refl bits small
adds_each (suc (suc (suc zero))) bits seven small = at_each (adds_at 3) 128 refl bits small
adds_each (suc (suc (suc (suc zero)))) bits seven small = at_each (adds_at 4) 128 refl bits small
adds_each (suc (suc (suc (suc (suc zero))))) bits seven small = at_each (adds_at 5) 128 refl bits small
adds_each (suc (suc (suc (suc (suc (suc zero)))))) bits seven small = at_each (adds_at 6) 128 refl bits small
adds_each (suc (suc (suc (suc (suc (suc (suc more))))))) bits seven small = absurd (omega arith)

same_lists : (a b : List ℕ) → bytes_eq a b ≡ true → a ≡ b
same_lists a b = (bytes_eq-Decides a b).0

adds : (place bits : ℕ) → place < 7 → bits < 2 ^ place → bits < 128 → letters_of (bits + 2 ^ place) ≡ letters_of bits ++ (65 + place) ∷ []
adds place bits seven low small =
    let above : nat_le (2 ^ place) bits ≡ false = lt-leb (2 ^ place) bits low in
    same_lists _ _ (rw above at (adds_each place bits seven small))

-- a set below 2 ^ place and the switch at this place make a set of the seven
sum_small : (place bits : ℕ) → place < 7 → bits < 2 ^ place → bits + 2 ^ place < 128
sum_small zero bits seven low = omega arith
sum_small (suc zero) bits seven low = omega arith
sum_small (suc (suc zero)) bits seven low = omega arith
sum_small (suc (suc (suc zero))) bits seven low = omega arith
sum_small (suc (suc (suc (suc zero)))) bits seven low = omega arith
sum_small (suc (suc (suc (suc (suc zero))))) bits seven low = omega arith
sum_small (suc (suc (suc (suc (suc (suc zero)))))) bits seven low = omega arith
sum_small (suc (suc (suc (suc (suc (suc (suc more))))))) bits seven low = absurd (omega arith)

-- the set with the switch of a letter above it, and its letters
one_more : (bits letter bit : ℕ) → letter_bit letter ≡ Some bit → bits < bit → bits < 128
    → (letters_of (bits + bit) ≡ letters_of bits ++ letter ∷ []) × (bits + bit < 128)
one_more bits letter bit is low small =
    let p = place_of letter bit is in
    let below : bits < 2 ^ p.place = subst (λ n. bits < n) p.bit_at low in
    let added : letters_of (bits + 2 ^ p.place) ≡ letters_of bits ++ letter ∷ []
    = subst (λ x. letters_of (bits + 2 ^ p.place) ≡ letters_of bits ++ x ∷ []) (sym p.letter_at) (adds p.place bits p.seven below small) in (
      subst (λ n. letters_of (bits + n) ≡ letters_of bits ++ letter ∷ []) (sym p.bit_at) added,
      subst (λ n. bits + n < 128) (sym p.bit_at) (sum_small p.place bits p.seven below),
    )

-- the letters after those of a set make this set with it
pub record IsRead (bits : ℕ) (letters : List ℕ) (set : ℕ) : Type 0 where
  pub same : letters_of bits ++ letters ≡ letters_of set
  pub small : set < 128

-- the next letter's bit, which lies above the set, and then the letters after it
rises : (bits letter set : ℕ) (letters : List ℕ) (o : Option ℕ) → letter_bit letter ≡ o → bits < 128
    → option_and_then (λ bit. if nat_le bit bits then None else risen (bits + bit) letters) o ≡ Some set
    → ((bit : ℕ) → bits + bit < 128 → risen (bits + bit) letters ≡ Some set → IsRead (bits + bit) letters set)
    → IsRead bits (letter ∷ letters) set
rises bits letter set letters None is small e behind = cc
rises bits letter set letters (Some bit) is small e behind = go (nat_le bit bits) refl
  where
    go : (b : Bool) → nat_le bit bits ≡ b → IsRead bits (letter ∷ letters) set
    go true low = let none : None ≡ Some set = rw low at e in cc
    go false above =
        let more = one_more bits letter bit is (leb-false bit bits above) small in
        let next = behind bit more.1 (rw above at e) in
        record {
          same = sym (append_assoc (letters_of bits) (letter ∷ []) letters) ∙ (ap (λ (l : List ℕ). l ++ letters) (sym more.0) ∙ next.same);
          small = next.small;
        }

pub reads : (letters : List ℕ) (bits set : ℕ) → bits < 128 → risen bits letters ≡ Some set → IsRead bits letters set
unfolding risen
reads [] bits set small e = record { same = append-nil (letters_of bits) ∙ ap letters_of (sym (some_is e)); small = let is = some_is e in omega arith }
reads (letter ∷ letters) bits set small e =
    rises bits letter set letters (letter_bit letter) refl small e (λ bit sum rest. reads letters (bits + bit) set sum rest)

-- ---- the text of a set, which is no hyphen

abbrev is_hyphen : List ℕ → Bool
is_hyphen text = bytes_eq text (45 ∷ [])

-- what is read of a text that is a set's
pub text_read : (text : List ℕ) (bits : ℕ) → is_hyphen text ≡ false → bits < 128 → text ≡ text_of_bits bits
    → (0 < bits) × (risen 0 text ≡ Some bits)
text_read text bits other small e = go (bits == 0) refl
  where
    go : (b : Bool) → (bits == 0) ≡ b → (0 < bits) × (risen 0 text ≡ Some bits)
    go true none =
        let hyphen : text ≡ 45 ∷ [] = e ∙ rw none refl in
        let same : is_hyphen text ≡ true = ap is_hyphen hyphen in cc
    go false some = (
      omega (arith, eqb-false bits 0 some),
      ap (risen 0) (e ∙ rw some refl) ∙ letters_read bits small,
    )

no_letters : (text : List ℕ) → letters_of 0 ++ text ≡ text
unfolding letters_of
no_letters text = refl

-- a text that is read as some set is this set's
pub read_text : (text : List ℕ) (bits : ℕ) → risen 0 text ≡ Some bits → 0 < bits → (bits < 128) × (text ≡ text_of_bits bits)
read_text text bits e some =
    let is = reads text 0 bits (omega arith) e in
    let set : (bits == 0) ≡ false = ne_eqb bits 0 (λ none. absurd (omega arith)) in
    (is.small, sym (no_letters text) ∙ is.same ∙ rw set refl)
