use Rattle.std.proofs.Common.{◌≡◌, ℕ, ◌+◌, ◌++◌, drop}
use Rattle.machine.specs.Run.{State}
use Rattle.run_traces.specs.CountedCards.{cards_counted}
use Rattle.run_traces.specs.Profiles.{IsCounted, began_at}
use Rattle.run_traces.proofs.counted_cards.push_cards.Given as goal

abbrev pub invariant-loop-i : goal.invariant-loop-i
invariant-loop-i l = (m : State) (attempts : ℕ) → IsCounted m attempts l.places →
    l.text.items ++ cards_counted (began_at m attempts) (l.i + 1) (drop l.i l.cards) (drop l.i l.slots)
    ≡ l.fn.text.items ++ cards_counted (began_at m attempts) 1 l.cards l.slots
