-- for labels and addresses: names as they are spelled, read and read back
use Rattle.std.proofs.Common.{◌≡◌, ◌≢◌, ℕ, ◌≤◌, ◌==◌, nat_le, Bool, true, false, ◌||◌, List, [], ◌∷◌, ◌++◌, length, take, slice_index, Some, codes, refl, sym, ◌∙◌, ap, subst, arith, append-nil, eqb-true, leb-true, true≢false}
use Rattle.std.specs.List.{list_all}
use Rattle.std.proofs.Math.Seq.{take-length}
use Rattle.std.proofs.lemmas.Bool.Decides.{nat_tests}
use Rattle.bcd.specs.Table.{glyph_of}
use Rattle.addresses.specs.Digits.{code_of}
use Rattle.autocoder_statements.specs.Characters.{run, begins, begins_with_letter, with_blanks}
use Rattle.autocoder_statements.specs.Names.{name_run, is_name, is_index_name, name_of}
use Rattle.autocoder_statements.specs.declared.characters.Class.TheVariants.{LetterOrDigit}
use Rattle.autocoder_statements.specs.declared.names.Name.{Name}
use Rattle.autocoder_laws.specs.Texts.{characters, is_one_of, letters, digits}
use Rattle.autocoder_laws.specs.Names.{IsName}
use Rattle.autocoder_laws.proofs.Classes.{letter_class, is_of_name}
use Rattle.autocoder_laws.proofs.Fronts.{begins_typed, whole_front}
use Rattle.autocoder_statements.proofs.Found.{some_if}
use Rattle.autocoder_laws.proofs.NumberTexts.{run_all, run_whole}
use Rattle.autocoder_laws.proofs.Tests.{negated}
use Rattle.autocoder_statements.proofs.Tests.{both, either}

abbrev pub is_of_names : ℕ → Bool
is_of_names code = is_one_of letters code || is_one_of digits code

-- ---- the first character

pub letter_first : (text rest : List ℕ) → is_one_of letters (slice_index text 0) ≡ true → begins_with_letter (text ++ rest) ≡ true
unfolding begins_with_letter glyph_of
letter_first [] rest h = absurd (cc)
letter_first (c ∷ text) rest h = letter_class c ∙ h

first_letter : (text : List ℕ) → begins_with_letter text ≡ true → is_one_of letters (slice_index text 0) ≡ true
unfolding begins_with_letter
first_letter [] h = absurd (cc)
first_letter (c ∷ text) h = sym (letter_class c) ∙ h

-- ---- the words of the index locations

index_word : (word : List ℕ) → word ≢ characters (codes "X1") → word ≢ characters (codes "X2") → word ≢ characters (codes "X3") → is_index_name word ≡ false
unfolding code_of glyph_of
index_word word first second third = by_test (is_index_name word) refl
  where
    by_test : (b : Bool) → is_index_name word ≡ b → b ≡ false
    by_test false e = refl
    by_test true e =
        let p = both (length word == 2) _ e in
        let long : length word ≡ 2 = eqb-true _ _ p.0 in
        absurd (either (begins (codes "X1") word) _ p.1 (λ h. first (whole_front word 2 (begins_typed (codes "X1") word refl h) long))
        (λ k. either (begins (codes "X2") word) _ k (λ h. second (whole_front word 2 (begins_typed (codes "X2") word refl h) long))
        (λ h. third (whole_front word 2 (begins_typed (codes "X3") word refl h) long))))

no_index_word : (word own : List ℕ) → is_index_name word ≡ false → is_index_name own ≡ true → word ≢ own
no_index_word word own h k e = true≢false (sym k ∙ ap is_index_name (sym e) ∙ h)

-- ---- names

none : run LetterOrDigit [] ≡ 0
unfolding run
none = refl

pub name_read : (name : Name) (word : List ℕ) → IsName name word → name_of word ≡ Some name
unfolding name_of with_blanks
name_read name word h =
    let letter : begins_with_letter word ≡ true = subst (λ t. begins_with_letter t ≡ true) (append-nil word) (letter_first word [] h.letter) in
    let whole : run LetterOrDigit word ≡ length word = subst (λ t. run LetterOrDigit t ≡ length word) (append-nil word) (run_whole LetterOrDigit is_of_names is_of_name word [] h.others none) in
    let long : (run LetterOrDigit word == length word) ≡ true = same _ _ whole in
    let few : nat_le (length word) 6 ≡ true = within _ h.few in
    rw (letter, long, few, index_word word h.not_first h.not_second h.not_third) (ap (λ c. Some (record { characters = c })) (sym h.padded))
  where
    same : (a b : ℕ) → a ≡ b → (a == b) ≡ true
    same a b e = grind (arith, nat_tests)

    within : (a : ℕ) → a ≤ 6 → nat_le a 6 ≡ true
    within a h = grind (arith, nat_tests)

pub name_spelled : (word : List ℕ) (name : Name) → name_of word ≡ Some name → IsName name word
unfolding name_of with_blanks glyph_of code_of begins
name_spelled word name e =
    let p = some_if (is_name word) _ name e in
    let q = both (begins_with_letter word) _ p.0 in
    let r = both (name_run word == length word) _ q.1 in
    let s = both (nat_le (length word) 6) _ r.1 in
    let free : is_index_name word ≡ false = negated _ s.1 in
    let whole : run LetterOrDigit word ≡ length word = eqb-true _ _ r.0 in
    record {
      letter = first_letter word q.0;
      others = subst (λ t. list_all is_of_names t ≡ true) (ap (λ n. take n word) whole ∙ take-length word) (run_all LetterOrDigit is_of_names is_of_name word);
      few = leb-true _ _ s.0;
      not_first = no_index_word word _ free refl;
      not_second = no_index_word word _ free refl;
      not_third = no_index_word word _ free refl;
      padded = ap (λ n. n.characters) (sym p.1);
    }
