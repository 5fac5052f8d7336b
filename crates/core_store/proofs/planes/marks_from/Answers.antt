use Rattle.std.proofs.Common.{arith}
use Rattle.core_store.proofs.PlaneLemmas.{bitmask_marks}
use Rattle.core_store.proofs.planes.marks_from.Goals as goal

pub returns : goal.returns
returns c = bitmask_marks c.args.marks.now c.args.first 16 (omega arith) (omega arith) c.requires.bits
