-- for `uses`, `firsts` and `literal_end` of `literals`: the literals so far are those in use
use Rattle.std.proofs.Common.{◌≡◌, ℕ, ◌+◌, ◌<◌, ◌≤◌, Bool, true, false, ◌||◌, List, [], ◌∷◌, ◌++◌, length, take, drop, get_or, refl, sym, ◌∙◌, ap, append_assoc, ◌-◌}
use Rattle.std.specs.Bool.{if◌then◌else◌}
use Rattle.std.specs.Prelude.{bytes_eq}
use Rattle.std.proofs.lemmas.List.{at_drop_more, at_drop_all, take_more}
use Rattle.std.proofs.lemmas.List.Folds.{list_any-append}
use Rattle.std.proofs.lemmas.Slice.Eq.{bytes_eq-Decides}
use Rattle.autocoder_layout.specs.Source.{Line}
use Rattle.autocoder_layout.specs.Literals.{Characters, firsts, is_used, literal_end, uses_in, uses_of}
use Rattle.autocoder_layout.specs.declared.slots.Slot.{Slot}

-- what is used, with one more use
pub is_used_more : (uses : List Characters) (literal other : Characters) → is_used (uses ++ literal ∷ []) other ≡ (is_used uses other || (bytes_eq literal other || false))
is_used_more uses literal other = list_any-append (λ u. bytes_eq u other) uses (literal ∷ [])

module _ (uses : List Characters) (i : ℕ) (h : i < length uses) where
  pub firsts-new : is_used (take i uses) (get_or uses i []) ≡ false →
      firsts (take i uses) (drop i uses) ≡ get_or uses i [] ∷ firsts (take (i + 1) uses) (drop (i + 1) uses)
  unfolding firsts
  firsts-new new =
      at_drop_more (firsts (take i uses)) uses i [] h
      ∙ ap (λ b. if b then firsts (take i uses ++ get_or uses i [] ∷ []) (drop (i + 1) uses) else get_or uses i [] ∷ firsts (take i uses ++ get_or uses i [] ∷ []) (drop (i + 1) uses)) new
      ∙ ap (λ t. get_or uses i [] ∷ firsts t (drop (i + 1) uses)) (sym (take_more uses i [] h))

  pub firsts-again : is_used (take i uses) (get_or uses i []) ≡ true →
      firsts (take i uses) (drop i uses) ≡ firsts (take (i + 1) uses) (drop (i + 1) uses)
  unfolding firsts
  firsts-again again =
      at_drop_more (firsts (take i uses)) uses i [] h
      ∙ ap (λ b. if b then firsts (take i uses ++ get_or uses i [] ∷ []) (drop (i + 1) uses) else get_or uses i [] ∷ firsts (take i uses ++ get_or uses i [] ∷ []) (drop (i + 1) uses)) again
      ∙ ap (λ t. firsts t (drop (i + 1) uses)) (sym (take_more uses i [] h))

pub firsts-past : (uses : List Characters) (i : ℕ) → length uses ≤ i → firsts (take i uses) (drop i uses) ≡ []
unfolding firsts
firsts-past uses i h = at_drop_all (firsts (take i uses)) uses i h

-- the same literals are used, whether one more use is of a new literal or not
used_new : (uses literals : List Characters) (literal : Characters) → ((other : Characters) → is_used literals other ≡ is_used uses other) →
    (other : Characters) → is_used (literals ++ literal ∷ []) other ≡ is_used (uses ++ literal ∷ []) other
used_new uses literals literal same other =
    is_used_more literals literal other ∙ ap (λ b. b || (bytes_eq literal other || false)) (same other) ∙ sym (is_used_more uses literal other)

absorbed : (a b : Bool) → (b ≡ true → a ≡ true) → a ≡ (a || (b || false))
absorbed true b h = refl
absorbed false true h = h refl
absorbed false false h = refl

pub used_again : (uses literals : List Characters) (literal : Characters) → ((other : Characters) → is_used literals other ≡ is_used uses other) → is_used uses literal ≡ true →
    (other : Characters) → is_used literals other ≡ is_used (uses ++ literal ∷ []) other
used_again uses literals literal same again other =
    same other
    ∙ absorbed (is_used uses other) (bytes_eq literal other) (λ e. ap (is_used uses) (sym ((bytes_eq-Decides literal other).0 e)) ∙ again)
    ∙ sym (is_used_more uses literal other)

-- ---- one use more

module _ (uses : List Characters) (i : ℕ) (literals pushed : List Characters) (literal : Characters) (found : Bool) (h : i < length uses) (here : literal ≡ get_or uses i [])
    (found_is : found ≡ is_used literals literal) (used : (other : Characters) → is_used literals other ≡ is_used (take i uses) other) where
  seen : found ≡ is_used (take i uses) (get_or uses i [])
  seen = found_is ∙ used literal ∙ ap (is_used (take i uses)) here

  pub list-again : found ≡ true → literals ++ firsts (take (i + 1) uses) (drop (i + 1) uses) ≡ literals ++ firsts (take i uses) (drop i uses)
  list-again e = ap (λ f. literals ++ f) (sym (firsts-again uses i h (sym seen ∙ e)))

  pub uses-again : found ≡ true → (other : Characters) → is_used literals other ≡ is_used (take (i + 1) uses) other
  uses-again e other = used_again (take i uses) literals (get_or uses i []) used (sym seen ∙ e) other ∙ ap (λ t. is_used t other) (sym (take_more uses i [] h))

  pushed_is : pushed ≡ literals ++ literal ∷ [] → pushed ≡ literals ++ get_or uses i [] ∷ []
  pushed_is p = p ∙ ap (λ t. literals ++ t ∷ []) here

  pub list-new : found ≡ false → pushed ≡ literals ++ literal ∷ [] → pushed ++ firsts (take (i + 1) uses) (drop (i + 1) uses) ≡ literals ++ firsts (take i uses) (drop i uses)
  list-new e p =
      ap (λ t. t ++ firsts (take (i + 1) uses) (drop (i + 1) uses)) (pushed_is p)
      ∙ append_assoc literals (get_or uses i [] ∷ []) (firsts (take (i + 1) uses) (drop (i + 1) uses))
      ∙ ap (λ f. literals ++ f) (sym (firsts-new uses i h (sym seen ∙ e)))

  pub uses-new : found ≡ false → pushed ≡ literals ++ literal ∷ [] → (other : Characters) → is_used (pushed) other ≡ is_used (take (i + 1) uses) other
  uses-new e p other =
      ap (λ l. is_used l other) (pushed_is p)
      ∙ used_new (take i uses) literals (get_or uses i []) used other
      ∙ ap (λ t. is_used t other) (sym (take_more uses i [] h))

-- ---- the place of a literal

module _ (place : ℕ) (literals : List Characters) (i : ℕ) (d : Characters) (wanted : Characters) (h : i < length literals) where
  literal_end-at : literal_end place (drop i literals) wanted
      ≡ (if bytes_eq (get_or literals i d) wanted then place + length (get_or literals i d) - 1 else literal_end (place + length (get_or literals i d)) (drop (i + 1) literals) wanted)
  unfolding literal_end
  literal_end-at = at_drop_more (λ ls. literal_end place ls wanted) literals i d h

  pub literal_end-found : bytes_eq (get_or literals i d) wanted ≡ true → literal_end place (drop i literals) wanted ≡ place + length (get_or literals i d) - 1
  literal_end-found e = literal_end-at ∙ rw e refl

  pub literal_end-other : bytes_eq (get_or literals i d) wanted ≡ false → literal_end place (drop i literals) wanted ≡ literal_end (place + length (get_or literals i d)) (drop (i + 1) literals) wanted
  literal_end-other e = literal_end-at ∙ rw e refl

pub literal_end-past : (place : ℕ) (literals : List Characters) (i : ℕ) (wanted : Characters) → length literals ≤ i → literal_end place (drop i literals) wanted ≡ place
unfolding literal_end
literal_end-past place literals i wanted h = at_drop_all (λ ls. literal_end place ls wanted) literals i h

-- ---- the uses of one card more

uses_of-at : (lines : List Line) (slots : List Slot) (i : ℕ) (d : Line) (e : Slot) → i < length lines → i < length slots →
    uses_of (drop i lines) (drop i slots) ≡ uses_in (get_or lines i d) (get_or slots i e) ++ uses_of (drop (i + 1) lines) (drop (i + 1) slots)
unfolding uses_of
uses_of-at lines slots i d e h k =
    at_drop_more (λ l. uses_of l (drop i slots)) lines i d h ∙ at_drop_more (λ s. uses_of (get_or lines i d ∷ drop (i + 1) lines) s) slots i e k

pub uses_of-past : (lines : List Line) (slots : List Slot) (i : ℕ) → length lines ≤ i → uses_of (drop i lines) slots ≡ []
unfolding uses_of
uses_of-past lines slots i h = at_drop_all (λ l. uses_of l slots) lines i h

pub uses_step : (lines : List Line) (slots : List Slot) (i : ℕ) (line d : Line) (slot e : Slot) (old new : List Characters) → i < length lines → i < length slots →
    line ≡ get_or lines i d → slot ≡ get_or slots i e → new ≡ old ++ uses_in line slot →
    new ++ uses_of (drop (i + 1) lines) (drop (i + 1) slots) ≡ old ++ uses_of (drop i lines) (drop i slots)
uses_step lines slots i line d slot e old new h k l s n =
    let rest : List Characters = uses_of (drop (i + 1) lines) (drop (i + 1) slots) in
    ap (λ t. t ++ rest) (n ∙ ap (λ x. old ++ uses_in x slot) l ∙ ap (λ x. old ++ uses_in (get_or lines i d) x) s)
    ∙ append_assoc old (uses_in (get_or lines i d) (get_or slots i e)) rest
    ∙ ap (λ t. old ++ t) (sym (uses_of-at lines slots i d e h k))
