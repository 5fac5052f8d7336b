use Rattle.std.proofs.Common.{◌≡◌, ◌+◌, ◌*◌, ◌<◌, ◌++◌, length}
use Rattle.std.specs.List.{All, concat}
use Rattle.core_store.specs.declared.TheConstants.{LARGEST_SIZE}
use Rattle.loader.specs.Stretches.{marks_of}
use Rattle.loader.specs.Cards.{marking}
use Rattle.loader.proofs.places.punch_marking.Given as goal

abbrev pub invariant-loop-first : goal.invariant-loop-first
invariant-loop-first l = record {
  below : All (λ c. c.position < LARGEST_SIZE) l.rest;
  punched : l.columns ++ concat (marking (marks_of l.rest)) ≡ l.fn.columns ++ concat (marking (marks_of l.fn.cells));
  columns : length l.columns ≡ length l.fn.columns + 7 * l.count;
  count : l.count + length (marking (marks_of l.rest)) ≡ length (marking (marks_of l.fn.cells));
}

abbrev pub decreases-loop-first : goal.decreases-loop-first
decreases-loop-first l = length l.rest
