-- for the law `near_names_are_the_only_ones`
use Rattle.std.proofs.Common.{◌≡◌, ℕ, ◌+◌, ◌<◌, ◌≤◌, ◌==◌, Bool, true, false, List, length, take, get_or, Option, Some, None, if◌then◌else◌, refl, sym, ◌∙◌, ap, arith}
use Rattle.std.specs.Option.{option_and_then, option_map}
use Rattle.std.specs.List.{count_by, position}
use Rattle.std.specs.Prelude.{cond}
use Rattle.std.proofs.lemmas.Bool.{eqb-true}
use Rattle.std.proofs.lemmas.List.{get_or-take, length-take-le}
use Rattle.std.proofs.lemmas.List.Sums.{get_or-le-sum_by, sum_by_more_le}
use Rattle.std.proofs.lemmas.List.Quantifiers.{position-Some}
use Rattle.std.proofs.lemmas.Option.{same_Some}
use Rattle.autocoder_statements.specs.declared.names.Name.{Name}
use Rattle.autocoder_statements.proofs.Tests.{both_ways}
use Rattle.autocoder_layout.specs.Slots.{origin}
use Rattle.autocoder_layout.specs.declared.slots.Definition.{Definition}
use Rattle.autocoder_layout.specs.declared.slots.Slot.{Slot}
use Rattle.source_reports.specs.Carets.{IsOnlyNear}
use Rattle.source_reports.specs.Names.{differences, is_of_near, defines_near, known_at, near_name}
use Rattle.source_reports.specs.declared.names.Known.{Known}

-- two places that pass are counted as two
two_counted : {X : Type 0} (p : X → Bool) (xs : List X) (i j : ℕ) (d : X) → i < j → j < length xs
    → p (get_or xs i d) ≡ true → p (get_or xs j d) ≡ true → 2 ≤ count_by p xs
two_counted {X} p xs i j d order below one other =
    let first : counted (get_or (take j xs) i d) ≡ 1 =
    ap counted (get_or-take j xs i d order) ∙ ap (λ b. cond b 1 0) one in
    let second : counted (get_or xs j d) ≡ 1 = ap (λ b. cond b 1 0) other in
    let enough : i < length (take j xs) = omega (arith, length-take-le j xs (omega arith)) in
    omega (arith, get_or-le-sum_by counted (take j xs) i d enough, sum_by_more_le counted xs j d below, first, second)
  where
    counted : X → ℕ
    counted x = cond (p x) 1 0

-- the only place that passes is the first one
pub only_one : {X : Type 0} (p : X → Bool) (xs : List X) (first k : ℕ) (d : X) → count_by p xs ≡ 1
    → position p xs ≡ Some first → k < length xs → p (get_or xs k d) ≡ true → k ≡ first
only_one p xs first k d one at below pass =
    let known = position-Some p xs first d at in
    let not_before : k < first → ⊥ = λ order. both_ways (p (get_or xs k d)) (known.2 k order) pass in
    let not_after : first < k → ⊥ = λ order. omega (arith, two_counted p xs first k d order below known.1 pass, one) in
    omega (arith, not_before, not_after)

pub near_is_only : (wanted : Name) (slots : List Slot) (known : Known)
    → near_name wanted slots ≡ Some known → IsOnlyNear wanted slots known
unfolding near_name
near_is_only wanted slots known e =
    by_count (count_by (defines_near wanted) slots == 1) refl e
  where
    by_definition : (index : ℕ) → count_by (defines_near wanted) slots ≡ 1
        → position (defines_near wanted) slots ≡ Some index → (found : Option Definition)
        → (get_or slots index origin).defines ≡ found
        → option_map (λ (definition : Definition). record { name = definition.name; card = index + 1 }) found
        ≡ Some known → IsOnlyNear wanted slots known
    by_definition index one at None is made = absurd (cc)
    by_definition index one at (Some definition) is made =
        let passes = position-Some (defines_near wanted) slots index origin at in
        let same : record { name = definition.name; card = index + 1 } ≡ known = same_Some _ _ made in
        let near : is_of_near wanted (Some definition) ≡ true =
        ap (is_of_near wanted) (sym is) ∙ passes.1 in
        record {
          index = index;
          card = ap (λ (k : Known). k.card) (sym same);
          within = passes.0;
          definition = definition;
          defined = is;
          name = ap (λ (k : Known). k.name) same;
          near = ap (λ (k : Known). differences k.name.characters wanted.characters) (sym same)
              ∙ eqb-true _ _ near;
          only = λ k below pass. only_one (defines_near wanted) slots index k origin one at below pass;
        }

    by_place : count_by (defines_near wanted) slots ≡ 1 → (found : Option ℕ)
        → position (defines_near wanted) slots ≡ found
        → option_and_then (known_at slots) found ≡ Some known → IsOnlyNear wanted slots known
    by_place one None at made = absurd (cc)
    by_place one (Some index) at made =
        by_definition index one at (get_or slots index origin).defines refl made

    by_count : (test : Bool) → (count_by (defines_near wanted) slots == 1) ≡ test
        → (if test then option_and_then (known_at slots) (position (defines_near wanted) slots)
        else None) ≡ Some known → IsOnlyNear wanted slots known
    by_count true is made =
        by_place (eqb-true _ _ is) (position (defines_near wanted) slots) refl made
    by_count false is made = absurd (cc)
