use Rattle.std.proofs.Common.{◌≡◌, ◌≤◌, ◌/◌, ◌++◌, min, length}
use Rattle.std.specs.Vec.{vec_capacity}
use Rattle.cards.specs.Decks.{IsDeck}
use Rattle.cards.specs.Files.{file_of, line_length}
use Rattle.cards.proofs.reading.read.Given as goal

abbrev pub invariant-loop-rest : goal.invariant-loop-rest
invariant-loop-rest l = record {
  deck : IsDeck l.cards.items;
  before : l.bytes ≡ file_of l.form l.cards.items ++ l.rest;
  room : min (length l.bytes / line_length l.form) 2000 ≤ vec_capacity l.cards;
}

abbrev pub decreases-loop-rest : goal.decreases-loop-rest
decreases-loop-rest l = length l.rest
