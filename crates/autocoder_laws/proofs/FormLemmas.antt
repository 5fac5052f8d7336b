-- for the clause `cards` of `instructions_are_decoded`: operands that are read are of a form
use Rattle.std.proofs.Common.{◌≡◌, ℕ, ◌⊎◌, inl, inr, Bool, true, false, List, [], ◌∷◌, drop, Option, Some, None, refl, subst, if◌then◌else◌}
use Rattle.std.specs.Option.{option_and_then}
use Rattle.autocoder_statements.specs.Characters.{is_ended}
use Rattle.autocoder_statements.specs.Mnemonics.{or_else, operands_if, operands_in, IsAmong}
use Rattle.autocoder_statements.specs.Operands.{operand, next_operand, is_modifier, modifier, next_modifier, with_modifier, without_modifier, operands}
use Rattle.autocoder_statements.specs.declared.operand_forms.OperandForm.{OperandForm}
use Rattle.autocoder_statements.specs.declared.operand_forms.OperandForm.TheVariants.{Empty, Modifier, One, OneAndModifier, Two, TwoAndModifier}
use Rattle.autocoder_statements.specs.declared.modifiers.Modifiers.{Modifiers}
use Rattle.autocoder_statements.specs.declared.operands.Operand.{Operand}
use Rattle.autocoder_statements.specs.declared.operands.Operands.{Operands}
use Rattle.autocoder_statements.specs.declared.operand_forms.OperandForms.{OperandForms}
use Rattle.autocoder_laws.specs.Instructions.{IsOfForm}
use Rattle.autocoder_statements.proofs.Found.{mapped, some_if}

-- ---- what was there before something was found

chained : {A B : Type 0} (rest : A → Option B) (x : Option A) (found : B) → option_and_then rest x ≡ Some found → (a : A) × (rest a ≡ Some found)
chained rest None found e = absurd (cc)
chained rest (Some a) found e = (a, e)

-- ---- one form

is_ended_with : (first second : Option Operand) (text : List ℕ) (found : Operands) → without_modifier first second text ≡ Some found →
    record { first = first; second = second; modifier = None } ≡ found
is_ended_with first second text found e = (some_if (is_ended text) _ found e).1

allowed : (modifiers : Modifiers) (text : List ℕ) (code : ℕ) → modifier modifiers text ≡ Some code → is_modifier modifiers code ≡ true
unfolding modifier
allowed modifiers [] code e = absurd (cc)
allowed modifiers (first ∷ text) code e = by_test (is_modifier modifiers first) refl
  where
    by_test : (test : Bool) → is_modifier modifiers first ≡ test → is_modifier modifiers code ≡ true
    by_test false t = let none = rw t at e in absurd (cc)
    by_test true t =
        let found : (if is_ended text then Some first else None) ≡ Some code = rw t at e in
        let same : first ≡ code = (some_if (is_ended text) first code found).1 in
        rw (← same) t

next_allowed : (modifiers : Modifiers) (text : List ℕ) (code : ℕ) → next_modifier modifiers text ≡ Some code → is_modifier modifiers code ≡ true
unfolding next_modifier
next_allowed modifiers text code e = by_comma _ e
  where
    by_comma : (comma : Bool) → (if comma then modifier modifiers (drop 1 text) else None) ≡ Some code → is_modifier modifiers code ≡ true
    by_comma true e = allowed modifiers (drop 1 text) code e
    by_comma false e = absurd (cc)

pub of_form : (form : OperandForm) (text : List ℕ) (found : Operands) → operands form text ≡ Some found → IsOfForm form found
unfolding operands
of_form Empty text found e =
    subst (IsOfForm Empty) (is_ended_with None None text found e) (record { first = refl; second = refl; last = tt })
of_form (Modifier modifiers) text found e =
    let (code, at, same) = mapped (with_modifier None None) (modifier modifiers text) found e in
    subst (IsOfForm (Modifier modifiers)) same (record { first = refl; second = refl; last = allowed modifiers text code at })
of_form (One kind) text found e =
    let (first, end) = chained _ (operand kind text) found e in
    subst (IsOfForm (One kind)) (is_ended_with (Some first.0) None _ found end) (record { first = refl; second = refl; last = tt })
of_form (OneAndModifier kind modifiers) text found e =
    let (first, end) = chained _ (operand kind text) found e in
    let (code, at, same) = mapped (with_modifier (Some first.0) None) (next_modifier modifiers (drop first.1 text)) found end in
    subst (IsOfForm (OneAndModifier kind modifiers)) same (record { first = refl; second = refl; last = next_allowed modifiers _ code at })
of_form (Two kind other) text found e =
    let (first, more) = chained _ (operand kind text) found e in
    let (second, end) = chained _ (next_operand other (drop first.1 text)) found more in
    subst (IsOfForm (Two kind other)) (is_ended_with (Some first.0) (Some second.0) _ found end) (record { first = refl; second = refl; last = tt })
of_form (TwoAndModifier kind other modifiers) text found e =
    let (first, more) = chained _ (operand kind text) found e in
    let (second, end) = chained _ (next_operand other (drop first.1 text)) found more in
    let (code, at, same) = mapped (with_modifier (Some first.0) (Some second.0)) (next_modifier modifiers (drop second.1 (drop first.1 text))) found end in
    subst (IsOfForm (TwoAndModifier kind other modifiers)) same (record { first = refl; second = refl; last = next_allowed modifiers _ code at })

-- ---- one of the forms

either : {A : Type 0} (x other : Option A) (found : A) → or_else x other ≡ Some found → (x ≡ Some found) ⊎ (other ≡ Some found)
either (Some a) other found e = inl e
either None other found e = inr e

if_there : (form : Option OperandForm) (text : List ℕ) (found : Operands) → operands_if form text ≡ Some found → (there : OperandForm) × (form ≡ Some there) × IsOfForm there found
if_there None text found e = absurd (cc)
if_there (Some form) text found e = (form, refl, of_form form text found e)

pub in_forms : (forms : OperandForms) (text : List ℕ) (found : Operands) → operands_in forms text ≡ Some found → (form : OperandForm) × IsAmong forms form × IsOfForm form found
unfolding operands_in
in_forms forms text found e =
    elim (either (operands forms.form text) _ found e) [
      | inl at ↦ (forms.form, inl refl, of_form forms.form text found at)
      | inr later ↦
          elim (either (operands_if forms.other text) _ found later) [
            | inl at ↦ let (form, there, fits) = if_there forms.other text found at in (form, inr (inl there), fits)
            | inr at ↦ let (form, there, fits) = if_there forms.third text found at in (form, inr (inr there), fits)
          ]
    ]
