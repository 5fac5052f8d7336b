-- the nearest definition that is not above an address
use Rattle.std.proofs.Common.{◌≡◌, ◌⊎◌, inl, inr, ⊎_elim, ℕ, ◌≤◌, ◌&&◌, ltb, leb, Bool, true, false, if◌then◌else◌, List, [], ◌∷◌, ◌++◌, Option, Some, None, refl, sym, ap, ◌∙◌, arith, subst, append-nil, append_assoc}
use Rattle.std.specs.Prelude.{Contains, fold}
use Rattle.std.proofs.lemmas.Bool.{ltb-true, ltb-false, leb-true, leb-false}
use Rattle.std.proofs.lemmas.List.Elements.{Contains-append_left, Contains-push, Contains-push_cases}
use Rattle.autocoder_layout.specs.declared.slots.Definition.{Definition}
use Rattle.autocoder_layout.specs.declared.slots.Slot.{Slot}
use Rattle.run_traces.specs.Names.{IsDefined, IsNearest, Nearest, nearer, nearest}

module _ (address : ℕ) (seen : List Slot) (slot : Slot) where
  -- what is defined among one card more
  defined_before : (found : Definition) → IsDefined seen found → IsDefined (seen ++ slot ∷ []) found
  defined_before found (card, there, is) = (card, Contains-append_left seen (slot ∷ []) card there, is)

  defined_now : (found : Definition) → slot.defines ≡ Some found → IsDefined (seen ++ slot ∷ []) found
  defined_now found is = (slot, Contains-push seen slot, is)

  defined_by : (found : Definition) → IsDefined (seen ++ slot ∷ []) found → IsDefined seen found ⊎ (slot.defines ≡ Some found)
  defined_by found (card, there, is) =
      ⊎_elim (λ before. inl (card, before, is)) (λ same. inr (ap (λ (x : Slot). x.defines) same ∙ is)) (Contains-push_cases seen slot card there)

  same_definition : (one other : Definition) → slot.defines ≡ Some one → slot.defines ≡ Some other → one ≡ other
  same_definition one other is so = let e : Some one ≡ Some other = sym is ∙ so in cc

  -- a card that defines nothing
  skip : (best : Option Definition) → slot.defines ≡ None → Nearest address seen best → Nearest address (seen ++ slot ∷ []) best
  skip None none is = λ other there. ⊎_elim (λ before. is other before) (λ now. let e : None ≡ Some other = sym none ∙ now in absurd (cc)) (defined_by other there)
  skip (Some best) none is = record {
    among = defined_before best is.among;
    not_above = is.not_above;
    greatest = λ other there low. ⊎_elim (λ before. is.greatest other before low) (λ now. let e : None ≡ Some other = sym none ∙ now in absurd (cc)) (defined_by other there);
  }

  -- a card that defines the nearest so far
  take_it : (found : Definition) → slot.defines ≡ Some found → found.address ≤ address
      → ((other : Definition) → IsDefined seen other → other.address ≤ address → other.address ≤ found.address) → IsNearest address (seen ++ slot ∷ []) found
  take_it found is low least = record {
    among = defined_now found is;
    not_above = low;
    greatest = λ other there below. ⊎_elim (λ before. least other before below) (λ now. let e = same_definition other found now is in omega (arith, ap (λ (d : Definition). d.address) e)) (defined_by other there);
  }

  -- a card whose definition is not nearer
  leave_it : (best found : Definition) → slot.defines ≡ Some found → IsNearest address seen best → (found.address ≤ address → found.address ≤ best.address) → IsNearest address (seen ++ slot ∷ []) best
  leave_it best found is nearest_so_far farther = record {
    among = defined_before best nearest_so_far.among;
    not_above = nearest_so_far.not_above;
    greatest = λ other there below.
        ⊎_elim (λ before. nearest_so_far.greatest other before below)
        (λ now. let e = ap (λ (d : Definition). d.address) (same_definition other found now is) in let low = farther (omega (arith, e, below)) in omega (arith, e, low)) (defined_by other there);
  }

  first_by : (found : Definition) (b : Bool) → leb found.address address ≡ b → slot.defines ≡ Some found → Nearest address seen None
      → Nearest address (seen ++ slot ∷ []) (if b then Some found else None)
  first_by found true low is none = take_it found is (leb-true found.address address low) (λ other before below. absurd (let above = none other before in omega (arith, above, below)))
  first_by found false high is none = λ other there.
      ⊎_elim (λ before. none other before) (λ now. let e = ap (λ (d : Definition). d.address) (same_definition other found now is) in omega (arith, e, leb-false found.address address high)) (defined_by other there)

  second_by : (best found : Definition) (a b : Bool) → leb found.address address ≡ a → ltb best.address found.address ≡ b → slot.defines ≡ Some found → IsNearest address seen best
      → Nearest address (seen ++ slot ∷ []) (if a && b then Some found else Some best)
  second_by best found true true low nearer_one is best_is =
      take_it found is (leb-true found.address address low) (λ other before below. omega (arith, best_is.greatest other before below, ltb-true best.address found.address nearer_one))
  second_by best found true false low farther is best_is = leave_it best found is best_is (λ within. ltb-false best.address found.address farther)
  second_by best found false b high other is best_is = leave_it best found is best_is (λ within. absurd (omega (arith, within, leb-false found.address address high)))

  one_more : (best defined : Option Definition) → slot.defines ≡ defined → Nearest address seen best → Nearest address (seen ++ slot ∷ []) (nearer address best defined)
  one_more best None is so_far = skip best is so_far
  one_more None (Some found) is so_far = first_by found (leb found.address address) refl is so_far
  one_more (Some best) (Some found) is so_far = second_by best found (leb found.address address) (ltb best.address found.address) refl refl is so_far

all_cards : (address : ℕ) (slots seen : List Slot) (best : Option Definition) → Nearest address seen best
    → Nearest address (seen ++ slots) (fold (λ best slot. nearer address best slot.defines) best slots)
all_cards address [] seen best is = subst (λ cards. Nearest address cards best) (sym (append-nil seen)) is
all_cards address (slot ∷ slots) seen best is =
    subst (λ cards. Nearest address cards (fold (λ best slot. nearer address best slot.defines) (nearer address best slot.defines) slots)) (append_assoc seen (slot ∷ []) slots)
    (all_cards address slots (seen ++ slot ∷ []) (nearer address best slot.defines) (one_more address seen slot best slot.defines refl is))

no_card : (slot : Slot) → Contains [] slot → ⊥
no_card slot (k, below, is) = omega (arith, below)

pub nearest_is : (address : ℕ) (slots : List Slot) → Nearest address slots (nearest address slots)
unfolding nearest
nearest_is address slots = all_cards address slots [] None (λ other (slot, there, is). absurd (no_card slot there))
