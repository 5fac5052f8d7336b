-- attempts, counted by the addresses at which they begin
use Rattle.std.proofs.Common.{◌≡◌, ◌≢◌, ◌⊎◌, ℕ, zero, suc, ◌+◌, ◌<◌, ◌≤◌, ◌==◌, ◌&&◌, Bool, true, false, if◌then◌else◌, List, [], ◌++◌, length, append-nil, append_assoc, get_or, refl, sym, ap, ◌∙◌, arith, subst, ⊎_elim, inl, inr}
use Rattle.std.proofs.lemmas.Bool.{cases_eq}
use Rattle.std.proofs.lemmas.Bool.Decides.{eqb_tells}
use Rattle.std.proofs.lemmas.List.Elements.{All-get_or}
use Rattle.std.specs.List.{All}
use Rattle.core_store.specs.Storage.{largest_size}
use Rattle.machine.specs.Ranges.{IsInRange}
use Rattle.machine.specs.Run.{State, after}
use Rattle.machine.proofs.InRange.{after_in_range}
use Rattle.run_traces.specs.Profiles.{CountsNext, IsCounted, began_at, first_at, place_shown, places_shown, sum_below}
use Rattle.run_traces.specs.Shown.{characters_next}
use Rattle.run_traces.specs.declared.counting.Begun.{Begun}

at_most_one : (n count : ℕ) (began : Bool) → n ≤ count → n + (if began then 1 else 0) ≤ suc count
at_most_one n count true h = omega arith
at_most_one n count false h = omega arith

pub began_fits : (m : State) (count address : ℕ) → began_at m count address ≤ count
unfolding began_at
began_fits m zero address = omega arith
began_fits m (suc count) address = at_most_one (began_at m count address) count ((after m count).works.registers.i == address) (began_fits m count address)

-- nothing is counted yet
pub counted_none : (m : State) (places : List Begun) → length places ≡ largest_size
    → All (λ begun. (begun.count ≡ 0) × (begun.characters.items ≡ [])) places → IsCounted m 0 places
unfolding began_at first_at
counted_none m places size none = record {
  size = size;
  counts = λ address other below. (All-get_or (λ begun. (begun.count ≡ 0) × (begun.characters.items ≡ [])) places address other (rw size below) none).0;
  firsts = λ address other below. (All-get_or (λ begun. (begun.count ≡ 0) × (begun.characters.items ≡ [])) places address other (rw size below) none).1;
  beyond = λ address above. refl;
}

module _ (m : State) (count address : ℕ) where
  here_count : (after m count).works.registers.i ≡ address → began_at m (suc count) address ≡ began_at m count address + 1
  unfolding began_at
  here_count same =
      ⊎_elim (λ (is, e). ap (λ b. began_at m count address + (if b then 1 else 0)) is) (λ (is, ne). absurd (ne same)) (eqb_tells (after m count).works.registers.i address)

  elsewhere_count : (after m count).works.registers.i ≢ address → began_at m (suc count) address ≡ began_at m count address
  unfolding began_at
  elsewhere_count other =
      ⊎_elim (λ (is, e). absurd (other e)) (λ (is, ne). ap (λ b. began_at m count address + (if b then 1 else 0)) is ∙ omega arith) (eqb_tells (after m count).works.registers.i address)

  here_first : (after m count).works.registers.i ≡ address
      → first_at m (suc count) address ≡ (if began_at m count address == 0 then characters_next (after m count) else first_at m count address)
  unfolding first_at
  here_first same =
      ⊎_elim (λ (is, e). ap (λ b. if began_at m count address == 0 && b then characters_next (after m count) else first_at m count address) is ∙ whole (began_at m count address == 0))
      (λ (is, ne). absurd (ne same)) (eqb_tells (after m count).works.registers.i address)
    where
      whole : (b : Bool) → (if b && true then characters_next (after m count) else first_at m count address) ≡ (if b then characters_next (after m count) else first_at m count address)
      whole true = refl
      whole false = refl

  elsewhere_first : (after m count).works.registers.i ≢ address → first_at m (suc count) address ≡ first_at m count address
  unfolding first_at
  elsewhere_first other =
      ⊎_elim (λ (is, e). absurd (other e)) (λ (is, ne). ap (λ b. if began_at m count address == 0 && b then characters_next (after m count) else first_at m count address) is ∙ none (began_at m count address == 0))
      (eqb_tells (after m count).works.registers.i address)
    where
      none : (b : Bool) → (if b && false then characters_next (after m count) else first_at m count address) ≡ first_at m count address
      none true = refl
      none false = refl

-- one attempt more is counted
module _ (m now : State) (count : ℕ) (old new : List Begun) (counted : IsCounted m count old) (reached : now ≡ after m count) (next : CountsNext now old new) (inside : now.works.registers.i < largest_size) where
  at_register : (after m count).works.registers.i ≡ now.works.registers.i
  at_register = ap (λ (x : State). x.works.registers.i) (sym reached)

  counts_more : (address : ℕ) (other : Begun) → address < largest_size → (address ≡ now.works.registers.i) ⊎ (address ≢ now.works.registers.i)
      → (get_or new address other).count ≡ began_at m (suc count) address
  counts_more address other below (inl here) =
      ap (λ a. (get_or new a other).count) here ∙ next.count other ∙ ap (λ a. (get_or old a other).count + 1) (sym here)
      ∙ ap (λ n. n + 1) (counted.counts address other below) ∙ sym (here_count m count address (at_register ∙ sym here))
  counts_more address other below (inr there) =
      ap (λ (begun : Begun). begun.count) (next.others address other there) ∙ counted.counts address other below
      ∙ sym (elsewhere_count m count address (λ same. there (sym same ∙ at_register)))

  firsts_more : (address : ℕ) (other : Begun) → address < largest_size → (address ≡ now.works.registers.i) ⊎ (address ≢ now.works.registers.i)
      → (get_or new address other).characters.items ≡ first_at m (suc count) address
  firsts_more address other below (inl here) =
      ap (λ a. (get_or new a other).characters.items) here ∙ next.characters other
      ∙ ap (λ a. if (get_or old a other).count == 0 then characters_next now else (get_or old a other).characters.items) (sym here)
      ∙ ap (λ n. if n == 0 then characters_next now else (get_or old address other).characters.items) (counted.counts address other below)
      ∙ ap (λ text. if began_at m count address == 0 then characters_next now else text) (counted.firsts address other below)
      ∙ ap (λ (x : State). if began_at m count address == 0 then characters_next x else first_at m count address) reached
      ∙ sym (here_first m count address (at_register ∙ sym here))
  firsts_more address other below (inr there) =
      ap (λ (begun : Begun). begun.characters.items) (next.others address other there) ∙ counted.firsts address other below
      ∙ sym (elsewhere_first m count address (λ same. there (sym same ∙ at_register)))

  pub counted_on : IsCounted m (count + 1) new
  counted_on =
      let one_more : suc count ≡ count + 1 = omega arith in
      subst (λ n. IsCounted m n new) one_more
      (record {
        size = next.size ∙ counted.size;
        counts = λ address other below. counts_more address other below (cases_eq address now.works.registers.i);
        firsts = λ address other below. firsts_more address other below (cases_eq address now.works.registers.i);
        beyond = λ address above. elsewhere_count m count address (λ same. absurd (omega (arith, inside, above, at_register, same))) ∙ counted.beyond address above;
      })

-- ---- the sum of the counts

module _ (number more : ℕ → ℕ) (place : ℕ) (elsewhere : (address : ℕ) → address ≢ place → more address ≡ number address) (here : more place ≡ number place + 1) where
  sum_before : (addresses : ℕ) → addresses ≤ place → sum_below more addresses ≡ sum_below number addresses
  unfolding sum_below
  sum_before zero below = refl
  sum_before (suc address) below = omega (arith, sum_before address (omega arith), elsewhere address (omega arith))

  sum_by : (address : ℕ) → (address < place → sum_below more (suc address) ≡ sum_below number (suc address)) → (place < address → sum_below more address ≡ sum_below number address + 1)
      → (address ≡ place → sum_below more address ≡ sum_below number address) → place < suc address → sum_below more (suc address) ≡ sum_below number (suc address) + 1
  unfolding sum_below
  sum_by address low high same below =
      ⊎_elim (λ is. omega (arith, same is, here, ap more is, ap number is)) (λ other. omega (arith, high (omega arith), elsewhere address other)) (cases_eq address place)

  pub sum_behind : (addresses : ℕ) → place < addresses → sum_below more addresses ≡ sum_below number addresses + 1
  sum_behind zero below = absurd (omega (arith, below))
  sum_behind (suc address) below =
      sum_by address (λ less. sum_before (suc address) (omega arith)) (λ less. sum_behind address less) (λ same. sum_before address (omega (arith, same))) below

no_sum : (m : State) (addresses : ℕ) → sum_below (began_at m 0) addresses ≡ 0
unfolding sum_below began_at
no_sum m zero = refl
no_sum m (suc address) = omega (arith, no_sum m address)

pub adds_up : (m : State) (attempts addresses : ℕ) → IsInRange m → largest_size ≤ addresses → sum_below (began_at m attempts) addresses ≡ attempts
adds_up m zero addresses range whole = no_sum m addresses
adds_up m (suc count) addresses range whole =
    let place = (after m count).works.registers.i in
    let below = (after_in_range m count range).registers.i in
    let more = sum_behind (began_at m count) (began_at m (suc count)) place (λ address other. elsewhere_count m count address (λ same. other (sym same))) (here_count m count place refl) addresses (omega (arith, below, whole)) in
    omega (arith, more, adds_up m count addresses range whole)

-- ---- what is shown of the addresses

pub places_begin : (m : State) (attempts : ℕ) (start : List ℕ) → start ≡ start ++ places_shown m attempts 0
unfolding places_shown
places_begin m attempts start = sym (append-nil start)

pub places_on : (m : State) (attempts address : ℕ) (start text : List ℕ) → text ≡ start ++ places_shown m attempts address
    → text ++ place_shown m attempts address ≡ start ++ places_shown m attempts (address + 1)
unfolding places_shown
places_on m attempts address start text before =
    let one : suc address ≡ address + 1 = omega arith in
    ap (λ t. t ++ place_shown m attempts address) before ∙ append_assoc start (places_shown m attempts address) (place_shown m attempts address)
    ∙ ap (λ n. start ++ places_shown m attempts n) one
