-- for the law `literals_are_placed_once`: a literal is placed once, in the order of first use
use Rattle.std.proofs.Common.{◌≡◌, ◌≢◌, Bool, true, false, ◌||◌, List, [], ◌∷◌, ◌++◌, refl, sym, ◌∙◌, ap, append_assoc, arith}
use Rattle.std.specs.Bool.{if◌then◌else◌}
use Rattle.std.specs.Prelude.{bytes_eq}
use Rattle.std.specs.List.{All, AllPairs}
use Rattle.std.proofs.lemmas.List.{append-nil}
use Rattle.std.proofs.lemmas.List.Elements.{All-nil, All-cons}
use Rattle.std.proofs.lemmas.List.Kept.{AllPairs-cons}
use Rattle.std.proofs.lemmas.Slice.Eq.{bytes_eq-Decides}
use Rattle.autocoder_layout.specs.Source.{Line}
use Rattle.autocoder_layout.specs.Literals.{Characters, is_used, firsts, uses_of, literals_of}
use Rattle.autocoder_layout.specs.declared.slots.Slot.{Slot}
use Rattle.autocoder_layout.proofs.LiteralLemmas.{is_used_more, used_again}

both_false : (a b : Bool) → (a || (b || false)) ≡ false → (a ≡ false) × (b ≡ false)
both_false true b e = absurd (cc)
both_false false true e = absurd (cc)
both_false false false e = (refl, refl)

before_more : (earlier : List Characters) (literal other : Characters) → is_used (earlier ++ literal ∷ []) other ≡ false → (is_used earlier other ≡ false) × (bytes_eq literal other ≡ false)
before_more earlier literal other e = both_false (is_used earlier other) (bytes_eq literal other) (sym (is_used_more earlier literal other) ∙ e)

abbrev Unused : List Characters → Characters → Type 0
Unused earlier other = is_used earlier other ≡ false

all_before : (earlier : List Characters) (literal : Characters) (found : List Characters) → All (Unused (earlier ++ literal ∷ [])) found → All (Unused earlier) found
all_before earlier literal found all = λ k d h. (before_more earlier literal _ (all k d h)).0

-- none of the literals was used before
firsts_unused : (earlier uses : List Characters) → All (Unused earlier) (firsts earlier uses)
unfolding firsts
firsts_unused earlier [] = All-nil (Unused earlier)
firsts_unused earlier (literal ∷ uses) =
    let more = earlier ++ literal ∷ [] in
    let rest : All (Unused earlier) (firsts more uses) = all_before earlier literal (firsts more uses) (firsts_unused more uses) in
    (elim (is_used earlier literal) as (λ b. is_used earlier literal ≡ b → All (Unused earlier) (if b then firsts more uses else literal ∷ firsts more uses)) [
      | true ↦ λ e. rest
      | false ↦ λ e. All-cons (Unused earlier) literal (firsts more uses) e rest
    ]) refl

differs : (one other : Characters) → bytes_eq one other ≡ false → one ≢ other
differs one other e same = absurd (cc ((bytes_eq-Decides one other).1 same))

firsts_differ : (earlier uses : List Characters) → AllPairs (λ one other. one ≢ other) (firsts earlier uses)
unfolding firsts
firsts_differ earlier [] = λ i j d h l. absurd (omega arith)
firsts_differ earlier (literal ∷ uses) =
    let more = earlier ++ literal ∷ [] in
    let unused = firsts_unused more uses in
    elim (is_used earlier literal) as (λ b. AllPairs (λ one other. one ≢ other) (if b then firsts more uses else literal ∷ firsts more uses)) [
      | true ↦ firsts_differ more uses
      | false ↦ AllPairs-cons (λ one other. one ≢ other) literal (firsts more uses) (λ k d h. differs literal _ ((before_more earlier literal _ (unused k d h)).1)) (firsts_differ more uses)
    ]

regrouped : (a b c : Bool) → ((b || a) || c) ≡ (a || (c || (b || false)))
regrouped true true true = refl
regrouped true true false = refl
regrouped true false true = refl
regrouped true false false = refl
regrouped false true true = refl
regrouped false true false = refl
regrouped false false true = refl
regrouped false false false = refl

-- what was used, earlier or here, and nothing else
firsts_used : (earlier uses : List Characters) (other : Characters) → (is_used (firsts earlier uses) other || is_used earlier other) ≡ is_used (earlier ++ uses) other
unfolding firsts
firsts_used earlier [] other = ap (λ u. is_used u other) (sym (append-nil earlier))
firsts_used earlier (literal ∷ uses) other =
    let more = earlier ++ literal ∷ [] in
    let rest : (is_used (firsts more uses) other || is_used more other) ≡ is_used (earlier ++ literal ∷ uses) other = firsts_used more uses other ∙ ap (λ u. is_used u other) (append_assoc earlier (literal ∷ []) uses) in
    (elim (is_used earlier literal) as (λ b. is_used earlier literal ≡ b → (is_used (if b then firsts more uses else literal ∷ firsts more uses) other || is_used earlier other) ≡ is_used (earlier ++ literal ∷ uses) other) [
      | true ↦ λ e. ap (λ b. is_used (firsts more uses) other || b) (used_again earlier earlier literal (λ o. refl) e other) ∙ rest
      | false ↦ λ e.
          regrouped (is_used (firsts more uses) other) (bytes_eq literal other) (is_used earlier other)
          ∙ ap (λ b. is_used (firsts more uses) other || b) (sym (is_used_more earlier literal other))
          ∙ rest
    ]) refl

-- one use more
firsts_more : (earlier uses : List Characters) (literal : Characters) → firsts earlier (uses ++ literal ∷ []) ≡ firsts earlier uses ++ (if is_used (earlier ++ uses) literal then [] else literal ∷ [])
unfolding firsts
firsts_more earlier [] literal =
    ap (λ u. if is_used u literal then [] else literal ∷ []) (sym (append-nil earlier))
firsts_more earlier (use_ ∷ uses) literal =
    let more = earlier ++ use_ ∷ [] in
    let rest : firsts more (uses ++ literal ∷ []) ≡ firsts more uses ++ (if is_used (earlier ++ use_ ∷ uses) literal then [] else literal ∷ []) =
    firsts_more more uses literal ∙ ap (λ u. firsts more uses ++ (if is_used u literal then [] else literal ∷ [])) (append_assoc earlier (use_ ∷ []) uses) in
    elim (is_used earlier use_) as (λ b. (if b then firsts more (uses ++ literal ∷ []) else use_ ∷ firsts more (uses ++ literal ∷ [])) ≡ (if b then firsts more uses else use_ ∷ firsts more uses) ++ (if is_used (earlier ++ use_ ∷ uses) literal then [] else literal ∷ [])) [
      | true ↦ rest
      | false ↦ ap (λ u. use_ ∷ u) rest
    ]

or_nothing : (a : Bool) → (a || false) ≡ a
or_nothing true = refl
or_nothing false = refl

pub literals_once : (lines : List Line) (slots : List Slot) → AllPairs (λ one other. one ≢ other) (literals_of lines slots)
unfolding literals_of
literals_once lines slots = firsts_differ [] (uses_of lines slots)

pub literals_used : (lines : List Line) (slots : List Slot) (literal : Characters) → is_used (literals_of lines slots) literal ≡ is_used (uses_of lines slots) literal
unfolding literals_of
literals_used lines slots literal = sym (or_nothing (is_used (firsts [] (uses_of lines slots)) literal)) ∙ firsts_used [] (uses_of lines slots) literal

pub literals_more : (uses : List Characters) (literal : Characters) → firsts [] (uses ++ literal ∷ []) ≡ firsts [] uses ++ (if is_used uses literal then [] else literal ∷ [])
literals_more uses literal = firsts_more [] uses literal
