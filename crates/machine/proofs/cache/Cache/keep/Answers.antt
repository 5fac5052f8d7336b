use Rattle.std.proofs.Common.{◌%◌}
use Rattle.std.proofs.lemmas.List.Elements.{All-set}
use Rattle.machine.specs.Kinds.{IsRight}
use Rattle.machine.proofs.cache.Cache.keep.Goals as goal

pub invariant_of-self : goal.invariant_of-self
invariant_of-self c =
    let cache = c.args.self.now in
    record { right = All-set (IsRight cache.size) cache.entries (c.args.position % 512) c.args.entry c.requires cache.right }
