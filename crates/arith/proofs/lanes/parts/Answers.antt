use Rattle.std.proofs.Common.{◌++◌, ◌-◌, ◌∙◌, ap, arith, take, drop, replicate}
use Rattle.arith.proofs.LaneLemmas.{parts_are}
use Rattle.arith.proofs.lanes.parts.Goals as goal

pub returns : goal.returns
returns c =
    let k = 16 - c.args.count in
    c.last_of.ensures ∙ ap (λ l. take k (replicate 16 0) ++ drop k l) c.mask.ensures ∙ parts_are k c.args.codes (omega arith)
