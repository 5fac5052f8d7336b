use Rattle.std.proofs.Common.{◌≡◌, ◌++◌}
use Rattle.films.specs.Films.{deck_lines}
use Rattle.films.proofs.readers.push_deck.Given as goal

abbrev pub invariant-loop-place : goal.invariant-loop-place
invariant-loop-place l = l.out.items ≡ l.fn.out.items ++ deck_lines l.deck l.first l.place
