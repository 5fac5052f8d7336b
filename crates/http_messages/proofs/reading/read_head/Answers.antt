use Rattle.std.proofs.Common.{arith, rules}
use Rattle.std.proofs.lemmas.Grind.{common_steps}
use Rattle.http_messages.proofs.ReadingPieces.{read_more}
use Rattle.http_messages.proofs.reading.read_head.Goals as goal

pub loop-outcome-preserved : goal.loop-outcome-preserved
loop-outcome-preserved g c = (
  grind (arith, common_steps),
  search rules,
  search rules,
  read_more _ _ _ c.loop-outcome.buffer c.read.new.buf c.loop-outcome.filled _ c.in-Ok.count c.loop-outcome.invariant.0 c.in-Ok.ensures.bound.0 c.loop-outcome.invariant.3 c.in-Ok.ensures.bytes.0,
)
