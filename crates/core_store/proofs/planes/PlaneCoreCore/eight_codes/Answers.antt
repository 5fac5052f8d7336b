use Rattle.std.proofs.Common.{arith}
use Rattle.core_store.proofs.PlaneLemmas.{length-joined}
use Rattle.core_store.proofs.MarkRows.{eight_joined, all_in_stretch}
use Rattle.core_store.proofs.planes.PlaneCoreCore.eight_codes.Goals as goal

pub returns-clause-codes : goal.returns-clause-codes
returns-clause-codes c =
    let core = c.args.self.now in
    let long = length-joined core.codes.items core.marks.items core.even in
    eight_joined core.codes.items core.marks.items c.deref.result.now c.args.position c.word_from.result c.deref.ensures.value core.even (omega (arith, long)) c.word_from.ensures

pub returns-clause-below : goal.returns-clause-below
returns-clause-below c =
    let core = c.args.self.now in
    let long = length-joined core.codes.items core.marks.items core.even in
    all_in_stretch core.codes.items core.marks.items c.args.position 8 64 core.even (omega (arith, long)) core.numbers
