use Rattle.std.proofs.Common.{◌∙◌, ap, eqb, replicate}
use Rattle.std.specs.Simd.Lanes.{sel_l}
use Rattle.std.proofs.lemmas.Simd.{tops_compared, zip2_splat}
use mir.Syntax.{w8}
use Rattle.core_store.proofs.LaneLemmas.{sel_map}
use Rattle.core_store.proofs.lanes.replace_lanes.Goals as goal

pub returns : goal.returns
returns c =
    ap (λ ms. sel_l ms (replicate 16 c.args.new) c.args.lanes) (tops_compared w8 eqb c.args.lanes (replicate 16 c.args.old) ∙ zip2_splat eqb c.args.lanes 16 c.args.old c.requires)
    ∙ sel_map (λ x. eqb x c.args.old) c.args.new c.args.lanes 16 c.requires
