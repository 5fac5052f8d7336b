use Rattle.std.proofs.Common.{◌∙◌, sym, arith}
use Rattle.machine.proofs.KindLemmas.{position_fixed}
use Rattle.machine.proofs.cache.fixed_position.Goals as goal

pub returns-clause-position : goal.returns-clause-position
returns-clause-position c =
    rw (← c.address.view_is) (position_fixed c.args.size c.address.inside.base c.address.inside.index (sym c.is_some.ensures ∙ c.if-is_some.false) (omega arith))
