use Rattle.core_store.proofs.PlaneLemmas.{near_joined}
use Rattle.core_store.proofs.planes.PlaneCoreCore.near_length.Goals as goal

pub returns-clause-length : goal.returns-clause-length
returns-clause-length c =
    let core = c.args.self.now in
    let run = c.unmarked_before in
    near_joined core.codes.items core.marks.items c.deref.result.now c.deref.ensures.value c.args.position run.result core.even c.requires.room run.ensures.most run.ensures.after run.ensures.stops
