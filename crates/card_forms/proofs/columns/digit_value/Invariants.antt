use Rattle.std.proofs.Common.{◌≡◌, ℕ, ◌<◌}
use Rattle.cards.specs.Files.{hexadecimal}
use Rattle.card_forms.proofs.columns.digit_value.Given as goal

abbrev pub invariant-loop-number : goal.invariant-loop-number
invariant-loop-number l = (k : ℕ) → k < l.number → hexadecimal k ≡ l.byte → ⊥
