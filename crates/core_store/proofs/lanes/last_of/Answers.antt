use Rattle.std.proofs.Common.{◌-◌, ◌∙◌, ap, leb, take, drop, replicate}
use Rattle.std.specs.Simd.Lanes.{sel_l, chunk}
use Rattle.std.proofs.lemmas.Simd.{tops_compared}
use mir.Syntax.{w8}
use Rattle.core_store.proofs.LaneLemmas.{edge, last_is}
use Rattle.core_store.proofs.lanes.last_of.Goals as goal

pub returns : goal.returns
returns c =
    ap (λ ms. sel_l ms c.args.lanes c.args.others) (tops_compared w8 leb (replicate 16 128) (chunk 0 16 (take (32 - c.args.count) (drop c.args.count edge))))
    ∙ last_is c.args.count c.args.lanes c.args.others c.requires.most c.requires.lanes c.requires.others
