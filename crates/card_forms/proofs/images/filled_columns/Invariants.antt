use Rattle.std.proofs.Common.{◌≡◌, length}
use Rattle.card_forms.specs.Signs.{filled}
use Rattle.card_forms.proofs.images.filled_columns.Given as goal

abbrev pub invariant-loop-last : goal.invariant-loop-last
invariant-loop-last l = filled l.image.0 ≡ filled l.columns

abbrev pub decreases-loop-last : goal.decreases-loop-last
decreases-loop-last l = length l.columns
