use Rattle.std.proofs.Common.{◌≡◌, ◌<◌, ◌++◌, length, map}
use Rattle.std.specs.List.{All}
use Rattle.core_store.specs.declared.TheConstants.{LARGEST_SIZE}
use Rattle.loader.specs.Stretches.{stretches_of}
use Rattle.loader.specs.Cards.{load_card}
use Rattle.loader.proofs.object.push_stretches.Given as goal

abbrev pub invariant-loop-rest : goal.invariant-loop-rest
invariant-loop-rest l = record {
  below : All (λ c. c.position < LARGEST_SIZE) l.rest;
  pushed : l.deck ++ map load_card (stretches_of l.rest) ≡ l.fn.deck ++ map load_card (stretches_of l.fn.cells);
}

abbrev pub decreases-loop-rest : goal.decreases-loop-rest
decreases-loop-rest l = length l.rest
