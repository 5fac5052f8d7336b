-- for `lowest_faults_are_told`: the fields of a card, as they are read and as operations want them
use Rattle.std.proofs.Common.{◌≡◌, ◌≢◌, ℕ, zero, suc, ◌+◌, ◌-◌, ◌<◌, ◌≤◌, ◌==◌, Bool, true, false, not, ◌&&◌, List, [], ◌∷◌, length, take, drop, get_or, replicate, Option, Some, None, Result, Ok, if◌then◌else◌, codes, refl, sym, ◌∙◌, ap, subst, arith, inl, inr, length-take, length-take-le, true≢false, eqb-true, eq-eqb}
use Rattle.std.proofs.lemmas.List.{length-replicate}
use Rattle.std.specs.List.{list_all}
use Rattle.bcd.specs.Table.{glyph_of}
use Rattle.addresses.specs.Digits.{code_of}
use Rattle.cards.specs.declared.decks.Card.{Card}
use Rattle.autocoder_statements.specs.Characters.{is_of, run, begins, is_blank, with_blanks}
use Rattle.autocoder_statements.specs.Mnemonics.{operation_named}
use Rattle.autocoder_statements.specs.Statements.{label_field, operation_field, is_comment, word_run, word, is_broken, operation_in, operation_of, or_fault, must_label}
use Rattle.autocoder_statements.specs.declared.characters.Class.TheVariants.{Filled}
use Rattle.autocoder_statements.specs.declared.faults.StatementFault.{StatementFault}
use Rattle.autocoder_statements.specs.declared.faults.StatementFault.TheVariants as fault
use Rattle.autocoder_statements.specs.declared.names.Name.{Name}
use Rattle.autocoder_statements.specs.declared.operations.Operation.{Operation}
use Rattle.autocoder_statements.proofs.Found.{is_found}
use Rattle.autocoder_statements.proofs.TextLemmas.{length-with_blanks}
use Rattle.autocoder_laws.specs.Texts.{AreBlanks}
use Rattle.autocoder_laws.specs.Names.{IsName}
use Rattle.autocoder_laws.specs.Cards.{mnemonic_on}
use Rattle.autocoder_laws.specs.Needs.{IsNoComment, HasOperation, IsMissingOrGood}
use Rattle.autocoder_laws.specs.Faults.{HasGap}
use Rattle.autocoder_laws.proofs.CardTexts.{asterisk_read, asterisk_spelled}
use Rattle.autocoder_laws.proofs.Classes.{blank_is, is_of_filled}
use Rattle.autocoder_laws.proofs.Labels.{name_some}
use Rattle.autocoder_laws.proofs.NameTexts.{name_read, name_spelled}
use Rattle.autocoder_laws.proofs.NumberTexts.{run_all, run_within}
use Rattle.autocoder_laws.proofs.Operations.{has_forms_apart, operation_read, operation_spelled}
use Rattle.autocoder_laws.proofs.Tests.{negated}
use Rattle.autocoder_laws.proofs.Words.{Worded, worded, is_filled}

-- ---- comments

pub no_comment : (card : Card) → IsNoComment card → is_comment card ≡ false
unfolding is_comment code_of
no_comment card h = by_test (begins (codes "*") (label_field card)) refl
  where
    by_test : (test : Bool) → begins (codes "*") (label_field card) ≡ test → test ≡ false
    by_test false t = refl
    by_test true t = absurd (h (asterisk_spelled (drop 5 card.0) t))

pub is_no_comment : (card : Card) → is_comment card ≡ false → IsNoComment card
unfolding is_comment code_of
is_no_comment card h e = true≢false (sym (asterisk_read (drop 5 card.0) e) ∙ h)

-- ---- operations

blanks_are : (n : ℕ) → AreBlanks (replicate n 0)
blanks_are n = ap (λ k. replicate k 0) (sym (length-replicate n 0))

word_filled_up : (n : ℕ) (field : List ℕ) → Worded (with_blanks n (word field)) (word field)
unfolding with_blanks
word_filled_up n field = worded (word field) (replicate (n - length (word field)) 0) (run_all Filled is_filled is_of_filled field) (blanks_are (n - length (word field)))

same_operation : (card : Card) → operation_in (mnemonic_on card) ≡ operation_in (operation_field card)
unfolding operation_in
same_operation card = ap (λ w. operation_named (with_blanks 5 w)) (word_filled_up 5 (operation_field card)).said

pub record Had (operation : Operation) (card : Card) : Type 0 where
  pub plain : is_comment card ≡ false
  pub found : operation_in (operation_field card) ≡ Some operation
  pub apart : has_forms_apart operation ≡ true

pub operation_had : (operation : Operation) (card : Card) → HasOperation operation card → Had operation card
operation_had operation card h =
    let read = operation_read operation (mnemonic_on card) h.named in
    record { plain = no_comment card h.no_comment; found = sym (same_operation card) ∙ read.found; apart = read.apart }

few : (card : Card) → length (word (operation_field card)) ≤ 5
few card = simp (length-take) (omega arith)

pub operation_given : (operation : Operation) (card : Card) → is_comment card ≡ false → operation_in (operation_field card) ≡ Some operation → HasOperation operation card
operation_given operation card plain found = record {
  no_comment = is_no_comment card plain;
  named = operation_spelled operation (mnemonic_on card) (length-with_blanks 5 (word (operation_field card)) (few card))
      (word_filled_up 5 (operation_field card)).unbroken (same_operation card ∙ found);
}

pub operation_given_by : (operation : Operation) (card : Card) → operation_of card ≡ Some operation → HasOperation operation card
unfolding operation_of
operation_given_by operation card e = by_test (is_comment card) refl e
  where
    by_test : (test : Bool) → is_comment card ≡ test → (if test then None else operation_in (operation_field card)) ≡ Some operation → HasOperation operation card
    by_test true t h = absurd (cc)
    by_test false t h = operation_given operation card t h

pub operation_found : (operation : Operation) (card : Card) → HasOperation operation card → operation_of card ≡ Some operation
unfolding operation_of
operation_found operation card h = let had = operation_had operation card h in rw (had.plain) had.found

-- ---- gaps

filled_is : (code : ℕ) → code ≢ 0 → is_blank code ≡ false
filled_is code h = by_test (is_blank code) refl
  where
    by_test : (test : Bool) → is_blank code ≡ test → test ≡ false
    by_test false t = refl
    by_test true t = absurd (h (blank_is code t))

is_filled_by : (code : ℕ) → is_blank code ≡ false → code ≢ 0
unfolding glyph_of
is_filled_by code h e = true≢false (sym (ap is_blank e) ∙ h)

is_blank_by : (code : ℕ) → code ≡ 0 → is_blank code ≡ true
unfolding glyph_of
is_blank_by code e = ap is_blank e

one_filled : (field : List ℕ) (k : ℕ) → k < length field → get_or field k 0 ≢ 0 → list_all is_blank field ≡ false
one_filled [] k low h = absurd (omega arith)
one_filled (code ∷ field) zero low h = rw (filled_is code h) refl
one_filled (code ∷ field) (suc k) low h = by_test (is_blank code) (one_filled field k (omega arith) h)
  where
    by_test : (test : Bool) → list_all is_blank field ≡ false → (test && list_all is_blank field) ≡ false
    by_test true more = more
    by_test false more = refl

one_is_filled : (field : List ℕ) → list_all is_blank field ≡ false → (k : ℕ) × (k < length field) × (get_or field k 0 ≢ 0)
one_is_filled [] h = absurd (cc)
one_is_filled (code ∷ field) h = by_test (is_blank code) refl (one_is_filled field) h
  where
    by_test : (test : Bool) → is_blank code ≡ test → (list_all is_blank field ≡ false → (k : ℕ) × (k < length field) × (get_or field k 0 ≢ 0)) →
        (test && list_all is_blank field) ≡ false → (k : ℕ) × (k < length (code ∷ field)) × (get_or (code ∷ field) k 0 ≢ 0)
    by_test false t more h = (0, omega arith, is_filled_by code t)
    by_test true t more h = let (k, low, other) = more h in (suc k, omega arith, other)

broken_blank : (code : ℕ) (field : List ℕ) → is_blank code ≡ true → is_broken (code ∷ field) ≡ not (list_all is_blank field)
unfolding is_broken run is_of
broken_blank code field h = rw h (ap (λ b. not (b && list_all is_blank field)) h)

broken_filled : (code : ℕ) (field : List ℕ) → is_blank code ≡ false → is_broken (code ∷ field) ≡ is_broken field
unfolding is_broken run is_of
broken_filled code field h =
    let next : 1 + run Filled field ≡ suc (run Filled field) = omega arith in
    rw h (ap (λ n. not (list_all is_blank (drop n (code ∷ field)))) next)

gap_at : (field : List ℕ) (gap late : ℕ) → gap < late → late < length field → get_or field gap 0 ≡ 0 → get_or field late 0 ≢ 0 → is_broken field ≡ true
gap_at [] gap late order within blank other = absurd (omega arith)
gap_at (code ∷ field) gap zero order within blank other = absurd (omega arith)
gap_at (code ∷ field) zero (suc k) order within blank other =
    broken_blank code field (is_blank_by code blank) ∙ ap not (one_filled field k (omega arith) other)
gap_at (code ∷ field) (suc g) (suc k) order within blank other = by_test (is_blank code) refl (gap_at field g k (omega arith) (omega arith) blank other)
  where
    by_test : (test : Bool) → is_blank code ≡ test → is_broken field ≡ true → is_broken (code ∷ field) ≡ true
    by_test true t more = broken_blank code field t ∙ ap not (one_filled field k (omega arith) other)
    by_test false t more = broken_filled code field t ∙ more

pub gap_read : (field : List ℕ) → HasGap field → is_broken field ≡ true
gap_read field h = gap_at field h.gap h.late h.order h.within h.is_blank h.is_filled

pub gap_spelled : (field : List ℕ) → is_broken field ≡ true → HasGap field
unfolding is_broken run
gap_spelled [] h = absurd (cc)
gap_spelled (code ∷ field) h = by_test (is_blank code) refl (gap_spelled field)
  where
    by_test : (test : Bool) → is_blank code ≡ test → (is_broken field ≡ true → HasGap field) → HasGap (code ∷ field)
    by_test true t more =
        let (k, low, other) = one_is_filled field (negated _ (sym (broken_blank code field t) ∙ h)) in
        record { gap = 0; late = suc k; order = omega arith; within = omega arith; is_blank = blank_is code t; is_filled = other }
    by_test false t more =
        let g = more (sym (broken_filled code field t) ∙ h) in
        record { gap = suc g.gap; late = suc g.late; order = omega (arith, g.order); within = omega (arith, g.within); is_blank = g.is_blank; is_filled = g.is_filled }

-- ---- labels

pub no_word : (field : List ℕ) → (word_run field == 0) ≡ true → word field ≡ []
no_word field h = let none : word_run field ≡ 0 = eqb-true _ _ h in ap (λ n. take n field) none

pub no_word_back : (field : List ℕ) → word field ≡ [] → (word_run field == 0) ≡ true
no_word_back field h =
    let count : length (word field) ≡ word_run field = length-take-le (word_run field) field (run_within Filled field) in
    eq-eqb _ _ (sym count ∙ ap length h)

pub name_given : (name : Name) (field : List ℕ) → IsName name (word field) → must_label field ≡ Ok name
unfolding must_label
name_given name field h = ap (or_fault fault.Label) (name_read name (word field) h)

pub name_had : (name : Name) (field : List ℕ) → must_label field ≡ Ok name → IsName name (word field)
unfolding must_label
name_had name field e = name_spelled (word field) name (is_found fault.Label _ name e)

pub no_name : (name : Name) → IsName name [] → ⊥
no_name name h = let some = name_some name [] h in absurd (omega arith)

-- a label that was read: it is one that may be there, and it is the card's only name
pub record Labelled (label : Option Name) (text : List ℕ) : Type 0 where
  pub suits : IsMissingOrGood text
  pub is : (name : Name) → IsName name text → label ≡ Some name
  pub has : (name : Name) → label ≡ Some name → IsName name text

pub unlabelled : (text : List ℕ) → text ≡ [] → Labelled None text
unlabelled text e = record {
  suits = inl e;
  is = λ name h. absurd (no_name name (subst (IsName name) e h));
  has = λ name h. absurd (cc);
}

some_same : (one other : Name) → Some one ≡ Some other → one ≡ other
some_same one other e = cc

same_name : (one other : Name) (read : Result Name StatementFault) → read ≡ Ok one → read ≡ Ok other → Some one ≡ Some other
same_name one other read e f = cc

pub must_labelled : (name : Name) (field : List ℕ) → must_label field ≡ Ok name → Labelled (Some name) (word field)
must_labelled name field e = record {
  suits = inr (name, name_had name field e);
  is = λ other h. same_name name other (must_label field) e (name_given other field h);
  has = λ other h. subst (λ n. IsName n (word field)) (some_same name other h) (name_had name field e);
}
