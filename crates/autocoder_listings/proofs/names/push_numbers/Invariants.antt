use Rattle.std.proofs.Common.{◌≡◌, ◌++◌, take}
use Rattle.autocoder_listings.specs.Names.{numbers_of}
use Rattle.autocoder_listings.proofs.names.push_numbers.Given as goal

abbrev pub invariant-loop-card : goal.invariant-loop-card
invariant-loop-card l = l.line.items ≡ l.initial.line.items ++ numbers_of (take l.card-index l.row)
