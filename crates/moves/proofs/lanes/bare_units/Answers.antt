use Rattle.std.proofs.Common.{◌<◌, ◌∙◌, ap, length}
use Rattle.std.proofs.lemmas.List.Elements.{All-same}
use Rattle.moves.proofs.Copying.{length_bare_units}
use Rattle.moves.proofs.LaneBlanks.{bare_lanes, bare_all_below}
use Rattle.moves.proofs.lanes.bare_units.Goals as goal

pub returns-clause-bare : goal.returns-clause-bare
returns-clause-bare c = bare_lanes 15 c.args.codes c.requires.sixteen c.requires.below

pub returns-clause-sixteen : goal.returns-clause-sixteen
returns-clause-sixteen c = ap length (bare_lanes 15 c.args.codes c.requires.sixteen c.requires.below) ∙ length_bare_units c.args.codes ∙ c.requires.sixteen

pub returns-clause-below : goal.returns-clause-below
returns-clause-below c = All-same (λ code. code < 64) _ _ (bare_lanes 15 c.args.codes c.requires.sixteen c.requires.below) (bare_all_below c.args.codes c.requires.below)
