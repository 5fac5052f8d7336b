-- the length that header fields state for a body
use Rattle.std.proofs.Common.{◌≡◌, ◌∙◌, ℕ, ◌+◌, ◌<◌, ◌≤◌, List, ◌∷◌, drop, get_or, length, map, None, refl, sym, ap, subst, true, false, Bool, codes, true≢false}
use Rattle.std.specs.Prelude.{Option}
use Rattle.std.proofs.lemmas.List.{drop_all}
use Rattle.std.specs.Bool.{IsTrue}
use Rattle.std.specs.Char.{to_ascii_lowercase}
use Rattle.queue_rounds.specs.Responses.{IsLengthField, IsNumberIn, StatesLength}
use Rattle.queue_rounds.proofs.AnswerLemmas.{next_drop}

abbrev pub Pair : Type 0
Pair = List ℕ × List ℕ

-- a first field that is a length states it
first_is : (field : Pair) (rest : List Pair) (it : Option ℕ) → IsLengthField field → IsNumberIn field.1 it → StatesLength (field ∷ rest) it
unfolding StatesLength
first_is field rest it is number = (λ _. number, λ other. absurd (other is))

-- a first field that is none leaves it to the others
first_other : (field : Pair) (rest : List Pair) (it : Option ℕ) → ¬ (IsLengthField field) → StatesLength rest it → StatesLength (field ∷ rest) it
unfolding StatesLength
first_other field rest it other states = (λ is. absurd (other is), λ _. states)

at_next : {X : Type 0} (f : X → Pair) (items : List X) (i : ℕ) (d : X) (it : Option ℕ) → i < length items
    → StatesLength (f (get_or items i d) ∷ map f (drop (i + 1) items)) it → StatesLength (map f (drop i items)) it
at_next f items i d it within states = subst (λ rest. StatesLength (map f rest) it) (sym (next_drop items i d within)) states

-- the field that is next states the length of the rest
pub next_is : {X : Type 0} (f : X → Pair) (items : List X) (i : ℕ) (d : X) (it : Option ℕ) → i < length items
    → IsLengthField (f (get_or items i d)) → IsNumberIn (f (get_or items i d)).1 it → StatesLength (map f (drop i items)) it
next_is f items i d it within is number = at_next f items i d it within (first_is (f (get_or items i d)) (map f (drop (i + 1) items)) it is number)

-- the field that is next is none
pub next_other : {X : Type 0} (f : X → Pair) (items : List X) (i : ℕ) (d : X) (it : Option ℕ) → i < length items
    → ¬ (IsLengthField (f (get_or items i d))) → StatesLength (map f (drop (i + 1) items)) it → StatesLength (map f (drop i items)) it
next_other f items i d it within other states = at_next f items i d it within (first_other (f (get_or items i d)) (map f (drop (i + 1) items)) it other states)

-- no fields state no length
pub none_left : {X : Type 0} (f : X → Pair) (items : List X) (i : ℕ) → length items ≤ i → StatesLength (map f (drop i items)) None
unfolding StatesLength
none_left f items i over = subst (λ rest. StatesLength (map f rest) None) (sym (drop_all i items over)) refl

-- the name that was compared is that of the field
pub true_is : (compared name : List ℕ) (b : Bool) → compared ≡ name → b ≡ true
    → (IsTrue b → map to_ascii_lowercase compared ≡ codes "content-length") → map to_ascii_lowercase name ≡ codes "content-length"
true_is compared name b same is test = ap (map to_ascii_lowercase) (sym same) ∙ test is

pub false_is : (compared name : List ℕ) (b : Bool) → compared ≡ name → b ≡ false
    → (map to_ascii_lowercase compared ≡ codes "content-length" → IsTrue b) → ¬ (map to_ascii_lowercase name ≡ codes "content-length")
false_is compared name b same is test named = absurd (true≢false (sym (test (ap (map to_ascii_lowercase) same ∙ named)) ∙ is))
