use Rattle.console.proofs.LineLemmas.{part_none}
use Rattle.console.proofs.talking.read_part.Goals as goal

pub returns-in-Err-clause-part : goal.returns-in-Err-clause-part
returns-in-Err-clause-part g c = part_none _ _ _ _ c.fill_buf.follows.holds-at-none.0
