-- for `instructions_are_decoded`: each row of the mnemonics suits the meaning in the same place
use Rattle.std.proofs.Common.{◌≡◌, ℕ, Bool, true, false, List, [], ◌∷◌, Some, refl, subst}
use Rattle.std.specs.Prelude.{⊤}
use Rattle.autocoder_statements.specs.Characters.{begins}
use Rattle.autocoder_statements.specs.Mnemonics.{entry}
use Rattle.autocoder_laws.specs.Meanings.{Meaning}
use Rattle.autocoder_laws.proofs.SuitLemmas.{Entry, RowFits}

-- the rows of two tables have the same names, and each suits its meaning
abbrev pub AllFit : List (List ℕ × Entry) → List (List ℕ × Meaning) → Type 0
AllFit [] meanings = ⊤
AllFit (row ∷ rows) [] = ⊥
AllFit (row ∷ rows) (meaning ∷ meanings) = (row.0 ≡ meaning.0) × RowFits row.1 meaning.1 × AllFit rows meanings

-- a word's meaning, that its row suits
pub record HasMeaning (meanings : List (List ℕ × Meaning)) (word : List ℕ) (row : Entry) : Type 0 where
  pub meaning : Meaning
  pub named : entry meanings word ≡ Some meaning
  pub fits : RowFits row meaning

step : (row : List ℕ × Entry) (rows : List (List ℕ × Entry)) (meaning : List ℕ × Meaning) (meanings : List (List ℕ × Meaning)) → row.0 ≡ meaning.0 → RowFits row.1 meaning.1 →
    (word : List ℕ) (found : Entry) → (entry rows word ≡ Some found → HasMeaning meanings word found) →
    (named : Bool) → begins row.0 word ≡ named → entry (row ∷ rows) word ≡ Some found → HasMeaning (meaning ∷ meanings) word found
unfolding entry
step row rows meaning meanings name fits word found later true t e =
    let here : Some row.1 ≡ Some found = rw t at e in
    let same : row.1 ≡ found = cc in
    record { meaning = meaning.1; named = rw (← name, t) refl; fits = subst (λ r. RowFits r meaning.1) same fits }
step row rows meaning meanings name fits word found later false t e =
    let rest : entry rows word ≡ Some found = rw t at e in
    let has = later rest in
    record { meaning = has.meaning; named = rw (← name, t) has.named; fits = has.fits }

pub meaning_of : (rows : List (List ℕ × Entry)) (meanings : List (List ℕ × Meaning)) → AllFit rows meanings → (word : List ℕ) (found : Entry) →
    entry rows word ≡ Some found → HasMeaning meanings word found
unfolding entry
meaning_of [] meanings fit word found e = absurd (cc)
meaning_of (row ∷ rows) [] fit word found e = absurd fit
meaning_of (row ∷ rows) (meaning ∷ meanings) fit word found e =
    step row rows meaning meanings fit.0 fit.1 word found (λ later. meaning_of rows meanings fit.2 word found later) (begins row.0 word) refl e
