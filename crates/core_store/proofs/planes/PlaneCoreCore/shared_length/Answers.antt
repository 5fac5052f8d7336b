use Rattle.std.proofs.Common.{arith}
use Rattle.core_store.proofs.PlaneLemmas.{shared_joined, shared_none_joined}
use Rattle.core_store.proofs.planes.PlaneCoreCore.shared_length.Goals as goal

pub returns-then-run-min : goal.returns-then-run-min
returns-then-run-min c =
    let core = c.args.self.now in
    let run = c.shared_run-run in
    record { length = shared_none_joined core.codes.items core.marks.items c.deref.result.now c.deref.ensures.value c.args.a c.args.b run.result core.even (omega (arith, run.ensures.most)) run.ensures.before }

pub returns : goal.returns
returns c =
    let core = c.args.self.now in
    let run = c.shared_run-run in
    record { length = shared_joined core.codes.items core.marks.items c.deref.result.now c.deref.ensures.value c.args.a c.args.b run.result core.even (omega arith) run.ensures.before (run.ensures.stops (omega arith)) }
