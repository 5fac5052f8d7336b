use Rattle.std.proofs.Common.{◌∙◌}
use Rattle.core_store.proofs.MarkRows.{eight_listed}
use Rattle.core_store.proofs.planes.word_from.Goals as goal

pub returns : goal.returns
returns c = c.from_le_bytes.ensures ∙ eight_listed c.args.plane.now c.args.first c.requires
