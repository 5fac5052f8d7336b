-- for `cards_are_read`: labels as they are spelled, read and read back
use Rattle.std.proofs.Common.{◌≡◌, ◌≢◌, ℕ, ◌<◌, ◌==◌, Bool, true, false, not, ◌&&◌, List, [], ◌∷◌, ◌++◌, length, slice_index, Option, Some, None, Result, Ok, if◌then◌else◌, codes, refl, sym, ◌∙◌, ap, subst, arith, true≢false}
use Rattle.std.specs.List.{list_all}
use Rattle.bcd.specs.Table.{glyph_of}
use Rattle.addresses.specs.Digits.{code_of}
use Rattle.autocoder_statements.specs.Characters.{begins}
use Rattle.autocoder_statements.specs.Names.{name_of}
use Rattle.autocoder_statements.specs.Statements.{◌>>=◌, word_run, word, is_broken, or_fault, must_label, may_label, is_labelled}
use Rattle.autocoder_statements.specs.declared.faults.StatementFault.{StatementFault}
use Rattle.autocoder_statements.specs.declared.faults.StatementFault.TheVariants as fault
use Rattle.autocoder_statements.specs.declared.names.Name.{Name}
use Rattle.autocoder_laws.specs.Texts.{character, AreBlanks, Joined}
use Rattle.autocoder_laws.specs.Names.{IsName}
use Rattle.autocoder_laws.specs.Cards.{IsLabelled, HasLabel, IsWord, HasWord}
use Rattle.autocoder_laws.proofs.Classes.{names_no_blank, letter_no_asterisk, asterisk_is}
use Rattle.autocoder_laws.proofs.NameTexts.{is_of_names, name_read, name_spelled}
use Rattle.autocoder_laws.proofs.Words.{is_filled, Worded, worded, blank_field, blank_unbroken, parts, empty_field}
use Rattle.autocoder_laws.proofs.Tests.{negated, not_not, some_test, test_some}
use Rattle.autocoder_statements.proofs.Tests.{both}
use Rattle.autocoder_statements.proofs.Found.{bound, is_found}

-- ---- results

pub same_ok : {A : Type 0} (a b : A) → ◌≡◌ {A = Result A StatementFault} (Ok a) (Ok b) → a ≡ b
same_ok a b e = cc

-- ---- words

all_filled : (text : List ℕ) → list_all is_of_names text ≡ true → list_all is_filled text ≡ true
all_filled [] h = refl
all_filled (c ∷ text) h =
    let p = both (is_of_names c) (list_all is_of_names text) h in
    rw (names_no_blank c p.0, all_filled text p.1) refl

-- how a field begins that is no comment
pub record IsPlain (field : List ℕ) : Type 0 where
  pub unbroken : is_broken field ≡ false
  pub asterisk : begins (codes "*") field ≡ false

blank_plain : (field : List ℕ) → AreBlanks field → begins (codes "*") field ≡ false
unfolding begins glyph_of
blank_plain [] h = refl
blank_plain (c ∷ field) h = let e : c ≡ 0 = cc in rw e refl

pub blanks_are_plain : (field : List ℕ) → AreBlanks field → IsPlain field
blanks_are_plain field h = record { unbroken = blank_unbroken field h; asterisk = blank_plain field h }

pub name_some : (name : Name) (text : List ℕ) → IsName name text → 0 < length text
unfolding glyph_of
name_some name [] h = let e = h.letter in absurd (cc)
name_some name (c ∷ text) h = omega arith

pub name_plain : (name : Name) (text rest : List ℕ) → IsName name text → begins (codes "*") (text ++ rest) ≡ false
unfolding begins glyph_of
name_plain name [] rest h = let e = h.letter in absurd (cc)
name_plain name (c ∷ text) rest h = rw (letter_no_asterisk c h.letter) refl

word_of_name : (name : Name) (field : List ℕ) (h : IsLabelled name field) → Worded field h.one
word_of_name name field h = subst (λ f. Worded f h.one) (sym h.said) (worded h.one h.other (all_filled h.one h.is_one.others) h.is_other)

pub labelled_plain : (name : Name) (field : List ℕ) → IsLabelled name field → IsPlain field
labelled_plain name field h = record {
  unbroken = (word_of_name name field h).unbroken;
  asterisk = ap (begins (codes "*")) h.said ∙ name_plain name h.one h.other h.is_one;
}

pub label_plain : (name : Option Name) (field : List ℕ) → HasLabel name field → IsPlain field
label_plain None field h = blanks_are_plain field h
label_plain (Some name) field h = labelled_plain name field h

word_plain : (text rest : List ℕ) → IsWord text → begins (codes "*") (text ++ rest) ≡ false
unfolding begins code_of
word_plain [] rest h = let e = h.some in absurd (omega arith)
word_plain (c ∷ text) rest h = by_test (glyph_of c == 42) refl
  where
    by_test : (test : Bool) → (glyph_of c == 42) ≡ test → (test && true) ≡ false
    by_test false t = refl
    by_test true t = absurd (h.no_comment (asterisk_is c t))

end_worded : (field : List ℕ) (h : Joined IsWord AreBlanks field) → Worded field h.one
end_worded field h = subst (λ f. Worded f h.one) (sym h.said) (worded h.one h.other h.is_one.filled h.is_other)

pub end_plain : (labelled : Bool) (field : List ℕ) → HasWord labelled field → IsPlain field
end_plain false field h = blanks_are_plain field h
end_plain true field h = record {
  unbroken = (end_worded field h).unbroken;
  asterisk = ap (begins (codes "*")) h.said ∙ word_plain h.one h.other h.is_one;
}

-- ---- labels that are spelled are read

pub must_read : (name : Name) (field : List ℕ) → IsLabelled name field → must_label field ≡ Ok name
unfolding must_label
must_read name field h = ap (λ w. or_fault fault.Label (name_of w)) (word_of_name name field h).said ∙ ap (or_fault fault.Label) (name_read name h.one h.is_one)

pub may_read : (name : Option Name) (field : List ℕ) → HasLabel name field → may_label field ≡ Ok name
unfolding may_label
may_read None field h = rw (blank_field field h) refl
may_read (Some name) field h =
    let w = word_of_name name field h in
    let some : (word_run field == 0) ≡ false = ap (λ n. n == 0) w.counted ∙ some_test (length h.one) (name_some name h.one h.is_one) in
    rw (some, must_read name field h) refl

pub end_read : (labelled : Bool) (field : List ℕ) → HasWord labelled field → is_labelled field ≡ labelled
end_read false field h = ap not (blank_field field h)
end_read true field h = ap not (ap (λ n. n == 0) (end_worded field h).counted ∙ some_test (length h.one) h.is_one.some)

-- ---- labels that are read are spelled

pub must_spelled : (name : Name) (field : List ℕ) → is_broken field ≡ false → must_label field ≡ Ok name → IsLabelled name field
unfolding must_label
must_spelled name field h e =
    let p = parts field h in
    record { one = word field; other = p.other; said = p.said; is_one = name_spelled (word field) name (is_found fault.Label _ name e); is_other = p.blanks }

pub may_spelled : (name : Option Name) (field : List ℕ) → is_broken field ≡ false → may_label field ≡ Ok name → HasLabel name field
unfolding may_label
may_spelled name field h e = by_test (word_run field == 0) refl e
  where
    by_test : (test : Bool) → (word_run field == 0) ≡ test → (if test then Ok None else (must_label field >>= (λ name. Ok (Some name)))) ≡ Ok name → HasLabel name field
    by_test true t k = subst (λ n. HasLabel n field) (same_ok None name k) (empty_field field h t)
    by_test false t k =
        let (own, read, same) = bound (must_label field) (λ name. Ok (Some name)) name k in
        subst (λ n. HasLabel n field) (same_ok (Some own) name same) (must_spelled own field h read)

no_asterisk : (text rest : List ℕ) → begins (codes "*") (text ++ rest) ≡ false → slice_index text 0 ≢ character (codes "*")
unfolding begins glyph_of code_of
no_asterisk [] rest h e = absurd (cc)
no_asterisk (c ∷ text) rest h e = true≢false (sym (let k : c ≡ 44 = e in rw k refl) ∙ h)

pub end_spelled : (labelled : Bool) (field : List ℕ) → IsPlain field → is_labelled field ≡ labelled → HasWord labelled field
end_spelled false field h e = empty_field field h.unbroken (not_not (word_run field == 0) e)
end_spelled true field h e =
    let p = parts field h.unbroken in
    record {
      one = word field;
      other = p.other;
      said = p.said;
      is_other = p.blanks;
      is_one = record {
        some = subst (λ n. 0 < n) (sym p.counted) (test_some (word_run field) (negated (word_run field == 0) e));
        filled = p.filled;
        no_comment = no_asterisk (word field) p.other (sym (ap (begins (codes "*")) p.said) ∙ h.asterisk);
      };
    }
