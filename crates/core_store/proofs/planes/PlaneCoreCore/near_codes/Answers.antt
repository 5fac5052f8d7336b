use Rattle.std.proofs.Common.{◌-◌, arith}
use Rattle.core_store.proofs.PlaneLemmas.{length-joined}
use Rattle.core_store.proofs.NearCodes.{codes_loaded, all_loaded}
use Rattle.core_store.proofs.planes.PlaneCoreCore.near_codes.Goals as goal

pub returns-clause-codes : goal.returns-clause-codes
returns-clause-codes c =
    let core = c.args.self.now in
    let long = length-joined core.codes.items core.marks.items core.even in
    codes_loaded core.codes.items core.marks.items c.deref.result.now c.load.result c.args.position c.deref.ensures.value core.even (omega (arith, long)) c.requires.room c.load.ensures

pub returns-clause-below : goal.returns-clause-below
returns-clause-below c =
    let core = c.args.self.now in
    let long = length-joined core.codes.items core.marks.items core.even in
    all_loaded core.codes.items c.deref.result.now c.load.result (c.args.position - 15) 64 c.deref.ensures.value (omega (arith, long)) c.load.ensures core.numbers
