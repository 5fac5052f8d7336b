-- for `cards_are_read`: a field with a word and blanks after it
use Rattle.std.proofs.Common.{◌≡◌, ℕ, ◌==◌, Bool, true, false, not, List, [], ◌∷◌, ◌++◌, length, take, drop, replicate, refl, sym, ◌∙◌, ap, ap₂, subst, codes, take-append-drop, length-take-le, eqb-true}
use Rattle.std.specs.List.{list_all}
use Rattle.std.proofs.Math.Seq.{take-append_seam, drop-append_seam}
use Rattle.bcd.specs.Table.{glyph_of}
use Rattle.autocoder_statements.specs.Characters.{is_of, run, is_blank}
use Rattle.autocoder_statements.specs.Statements.{word_run, word, is_broken}
use Rattle.autocoder_statements.specs.declared.characters.Class.TheVariants.{Filled}
use Rattle.autocoder_laws.specs.Texts.{is_one_of, AreBlanks}
use Rattle.autocoder_laws.proofs.Classes.{is_of_filled, blank_is}
use Rattle.autocoder_laws.proofs.NumberTexts.{run_all, run_whole, run_within}
use Rattle.autocoder_laws.proofs.Tests.{not_not}
use Rattle.autocoder_statements.proofs.Tests.{both}

abbrev pub is_filled : ℕ → Bool
is_filled code = not (is_one_of (codes " ") code)

-- ---- blanks

blank_run : (field : List ℕ) → AreBlanks field → run Filled field ≡ 0
unfolding run is_of glyph_of
blank_run [] h = refl
blank_run (c ∷ field) h = let e : c ≡ 0 = cc in rw e refl

blank_all : (field : List ℕ) → AreBlanks field → list_all is_blank field ≡ true
unfolding glyph_of
blank_all [] h = refl
blank_all (c ∷ field) h =
    let e : c ≡ 0 = cc in
    let more : field ≡ replicate (length field) 0 = cc in
    rw e (blank_all field more)

all_blank : (field : List ℕ) → list_all is_blank field ≡ true → AreBlanks field
all_blank [] h = refl
all_blank (c ∷ field) h =
    let p = both (is_blank c) (list_all is_blank field) h in
    ap₂ (λ x xs. x ∷ xs) (blank_is c p.0) (all_blank field p.1)

pub blank_field : (field : List ℕ) → AreBlanks field → (word_run field == 0) ≡ true
blank_field field h = rw (blank_run field h) refl

-- ---- a word and blanks

pub record Worded (field one : List ℕ) : Type 0 where
  pub counted : word_run field ≡ length one
  pub said : word field ≡ one
  pub unbroken : is_broken field ≡ false

pub worded : (one other : List ℕ) → list_all is_filled one ≡ true → AreBlanks other → Worded (one ++ other) one
unfolding is_broken
worded one other all blanks =
    let count : run Filled (one ++ other) ≡ length one = run_whole Filled is_filled is_of_filled one other all (blank_run other blanks) in
    record {
      counted = count;
      said = ap (λ n. take n (one ++ other)) count ∙ take-append_seam one other;
      unbroken = rw (count, drop-append_seam one other, blank_all other blanks) refl;
    }

pub blank_unbroken : (field : List ℕ) → AreBlanks field → is_broken field ≡ false
blank_unbroken field h = (worded [] field refl h).unbroken

-- a field that isn't broken is its word and blanks
pub record Parts (field : List ℕ) : Type 0 where
  pub other : List ℕ
  pub said : field ≡ word field ++ other
  pub counted : length (word field) ≡ word_run field
  pub filled : list_all is_filled (word field) ≡ true
  pub blanks : AreBlanks other

pub parts : (field : List ℕ) → is_broken field ≡ false → Parts field
unfolding is_broken
parts field h = record {
  other = drop (word_run field) field;
  said = sym (take-append-drop (word_run field) field);
  counted = length-take-le (word_run field) field (run_within Filled field);
  filled = run_all Filled is_filled is_of_filled field;
  blanks = all_blank (drop (word_run field) field) (not_not _ h);
}

-- a field whose word is empty is blank
pub empty_field : (field : List ℕ) → is_broken field ≡ false → (word_run field == 0) ≡ true → AreBlanks field
unfolding is_broken
empty_field field h k =
    let none : word_run field ≡ 0 = eqb-true _ _ k in
    subst AreBlanks (ap (λ n. drop n field) none) (all_blank (drop (word_run field) field) (not_not _ h))
