use Rattle.std.proofs.Common.{arith, rules, take}
use Rattle.std.proofs.lemmas.Grind.{common_steps}
use Rattle.std.proofs.lemmas.List.{length-take-le}
use Rattle.http_messages.proofs.ReadingPieces.{read_more}
use Rattle.http_messages.proofs.request_bodies.fill.Goals as goal

pub returns-in-Ok-eq0-clause-filled : goal.returns-in-Ok-eq0-clause-filled
returns-in-Ok-eq0-clause-filled g c = (
  take c.loop-filled.filled c.loop-filled.buffer,
  search (rules, length-take-le c.loop-filled.filled c.loop-filled.buffer c.loop-filled.invariant.0),
  search rules,
  search rules,
)

pub loop-filled-preserved : goal.loop-filled-preserved
loop-filled-preserved g c = (
  grind (arith, common_steps),
  search rules,
  read_more _ _ _ c.loop-filled.buffer c.read.new.buf c.loop-filled.filled _ c.in-Ok.count c.loop-filled.invariant.0 c.in-Ok.ensures.bound.0 c.loop-filled.invariant.2 c.in-Ok.ensures.bytes.0,
)
