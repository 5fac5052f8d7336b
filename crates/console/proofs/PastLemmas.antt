-- the machine of a past
use Rattle.std.proofs.Common.{◌≡◌, ℕ, ◌+◌, ◌-◌, ◌≤◌, true, List, [], ◌∷◌, ◌++◌, refl, sym, ap, ◌∙◌, arith}
use Rattle.std.specs.Prelude.{All, cond, nat_le}
use Rattle.std.proofs.lemmas.Bool.{le-leb, leb-true}
use Rattle.std.proofs.lemmas.List.Elements.{All-head, All-tail, filter_passes}
use Rattle.machine.specs.Run.{State, after}
use Rattle.machine.proofs.Steps.{after-after}
use Rattle.console.specs.Answers.{starts_until}
use Rattle.console.specs.SessionStates.{machine_from, machine_of, pressed}
use Rattle.console.specs.declared.starts.Start.{Start}

-- attempts behind the last start are steps
pub past_later : (m : State) (done : ℕ) (starts : List Start) (count more : ℕ) → done ≤ count → All (λ start. start.made ≤ count) starts
    → machine_from m done starts (count + more) ≡ after (machine_from m done starts count) more
unfolding machine_from
past_later m done [] count more within earlier =
    let apart : count + more - done ≡ count - done + more = omega arith in
    ap (after m) apart ∙ sym (after-after m (count - done) more)
past_later m done (start ∷ starts) count more within earlier =
    past_later (pressed (after m (start.made - done)) start.switches) start.made starts count more (All-head (λ (other : Start). other.made ≤ count) start starts earlier)
    (All-tail (λ (other : Start). other.made ≤ count) start starts earlier)

-- a start behind all others
pub past_started : (m : State) (done : ℕ) (starts : List Start) (start : Start)
    → machine_from m done (starts ++ start ∷ []) start.made ≡ pressed (machine_from m done starts start.made) start.switches
unfolding machine_from after
past_started m done [] start =
    let none : start.made - start.made ≡ 0 = omega arith in
    ap (after (pressed (after m (start.made - done)) start.switches)) none
past_started m done (first ∷ starts) start = past_started (pressed (after m (first.made - done)) first.switches) first.made starts start

-- without a start
pub past_alone : (base : State) (count : ℕ) → machine_of base [] count ≡ after base count
unfolding machine_from
past_alone base count = let whole : count - 0 ≡ count = omega arith in ap (after base) whole

pub past_none : (base : State) → machine_of base [] 0 ≡ base
unfolding machine_from after
past_none base = let none : 0 - 0 ≡ 0 = omega arith in ap (after base) none

-- starts from before a time are from before a later one
pub all_later : (starts : List Start) (a b : ℕ) → a ≤ b → All (λ start. start.made ≤ a) starts → All (λ start. start.made ≤ b) starts
all_later starts a b le all = λ k d within. let here = all k d within in omega arith

-- the starts until a time are from before it
pub until_all : (made : ℕ) (starts : List Start) → All (λ start. start.made ≤ made) (starts_until made starts)
until_all made starts = λ k d within. leb-true _ _ (filter_passes (λ (start : Start). nat_le start.made made) starts k d within)

-- where all are from before it, they are all
pub until_same : (made : ℕ) (starts : List Start) → All (λ start. start.made ≤ made) starts → starts_until made starts ≡ starts
until_same made [] all = refl
until_same made (start ∷ starts) all =
    let here : nat_le start.made made ≡ true = le-leb start.made made (All-head (λ (other : Start). other.made ≤ made) start starts all) in
    ap (λ b. cond b (start ∷ starts_until made starts) (starts_until made starts)) here
    ∙ ap (λ rest. start ∷ rest) (until_same made starts (All-tail (λ (other : Start). other.made ≤ made) start starts all))
