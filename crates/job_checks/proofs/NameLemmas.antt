-- A customer's name is a text, and a job's number one of 32 bits.
use Rattle.std.proofs.Common.{◌≡◌, ◌<◌, ◌⊎◌, inl, inr, ℕ, zero, suc, List, [], ◌∷◌, Bool, true, false, ◌==◌, ◌||◌, nat_lt, nat_le, ◌^◌, codes, length, refl, sym, subst, arith, true≢false}
use Rattle.std.specs.Prelude.{IsAscii, IsUtf8}
use Rattle.std.specs.List.{list_all, list_any}
use Rattle.std.proofs.lemmas.Bool.{and_parts, eqb-true, leb-true}
use Rattle.std.proofs.lemmas.Bool.Decides.{nat_tests}
use Rattle.std.proofs.lemmas.Str.{IsUtf8-from_ascii}
use Rattle.texts.specs.Names.{is_customer, is_letter_or_digit, is_name_length, is_number}

either_of : (b r : Bool) → (b || r) ≡ true → (b ≡ true) ⊎ (r ≡ true)
either_of true r is = inl refl
either_of false r is = inr is

here_or_later : (c byte : ℕ) (later : Bool) → nat_lt c 128 ≡ true → (later ≡ true → byte < 128) → ((c == byte) ≡ true) ⊎ (later ≡ true) → byte < 128
here_or_later c byte later below rest (inl here) = subst (λ n. n < 128) (eqb-true c byte here) (grind (arith, nat_tests, below))
here_or_later c byte later below rest (inr there) = rest there

-- a byte that is one of these is ASCII as they are
one_below : (cs : List ℕ) (byte : ℕ) → list_all (λ c. nat_lt c 128) cs ≡ true → list_any (λ c. c == byte) cs ≡ true → byte < 128
one_below [] byte all any = absurd (true≢false (sym any))
one_below (c ∷ cs) byte all any =
    let below = and_parts (nat_lt c 128) (list_all (λ c. nat_lt c 128) cs) all in
    here_or_later c byte (list_any (λ c. c == byte) cs) below.0 (one_below cs byte below.1) (either_of (c == byte) (list_any (λ c. c == byte) cs) any)

each_below : (name : List ℕ) → list_all is_letter_or_digit name ≡ true → IsAscii name
each_below [] all i = omega arith
each_below (c ∷ cs) all zero = one_below (codes "ABCDEFGHIJKLMNOPQRSTUVWXYZ0123456789") c refl (and_parts (is_letter_or_digit c) (list_all is_letter_or_digit cs) all).0
each_below (c ∷ cs) all (suc i) = each_below cs (and_parts (is_letter_or_digit c) (list_all is_letter_or_digit cs) all).1 i

pub names_are_texts : (name : List ℕ) → is_customer name ≡ true → IsUtf8 name
names_are_texts name is = IsUtf8-from_ascii name (each_below name (and_parts (is_name_length (length name)) (list_all is_letter_or_digit name) is).1)

pub numbers_fit : (number : ℕ) → is_number number ≡ true → number < 2 ^ 32
numbers_fit number is = omega (arith, leb-true number 999999 (and_parts (nat_le 1 number) (nat_le number 999999) is).1)
