use Rattle.std.proofs.Common.{arith}
use Rattle.core_store.proofs.PlaneLemmas.{length-joined}
use Rattle.core_store.proofs.PlaneStretches.{codes_copied}
use Rattle.core_store.proofs.planes.PlaneCoreCore.move_codes.Goals as goal

pub returns : goal.returns
returns c =
    let core = c.args.self.now in
    let long = length-joined core.codes.items core.marks.items core.even in
    codes_copied core.codes.items core.marks.items c.args.from c.args.to c.args.count _ core.even (omega (arith, long)) (omega (arith, long)) c.requires.from_room c.requires.to_room (omega arith)
    c.copy_within.new.self.items (omega arith) c.copy_within.ensures.by_index
