use Rattle.std.proofs.lemmas.List.Elements.{All-replicate}
use Rattle.machine.specs.Kinds.{IsRight}
use Rattle.machine.proofs.cache.Cache.new.Goals as goal

pub invariant_of-result : goal.invariant_of-result
invariant_of-result c = record { right = All-replicate (IsRight c.args.size) 512 c.unused.result (c.unused.ensures c.args.size) }
