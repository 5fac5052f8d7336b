use Rattle.std.proofs.Common.{arith}
use Rattle.core_store.proofs.PlaneLemmas.{length-joined}
use Rattle.core_store.proofs.MarkRows.{nine_joined}
use Rattle.core_store.proofs.planes.PlaneCoreCore.nine_marks.Goals as goal

pub returns : goal.returns
returns c =
    let core = c.args.self.now in
    let long = length-joined core.codes.items core.marks.items core.even in
    nine_joined core.codes.items core.marks.items c.deref.result.now c.args.position c.marks_from.result c.deref.ensures.value core.even (omega (arith, long, core.even)) c.marks_from.ensures
