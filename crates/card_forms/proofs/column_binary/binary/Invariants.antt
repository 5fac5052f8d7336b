use Rattle.std.proofs.Common.{◌≡◌, take}
use Rattle.card_forms.specs.ColumnBinary.{binary_of}
use Rattle.card_forms.proofs.column_binary.binary.Given as goal

abbrev pub invariant-loop-card : goal.invariant-loop-card
invariant-loop-card l = l.file.items ≡ binary_of (take l.card-index l.cards)
