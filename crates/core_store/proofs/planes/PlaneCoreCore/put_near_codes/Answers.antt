use Rattle.std.proofs.Common.{◌-◌, arith}
use Rattle.core_store.proofs.PlaneLemmas.{length-joined}
use Rattle.core_store.proofs.NearCodes.{length_back, all_back, joined_back}
use Rattle.core_store.proofs.planes.PlaneCoreCore.put_near_codes.Goals as goal

pub invariant_of-self-clause-limit : goal.invariant_of-self-clause-limit
invariant_of-self-clause-limit c =
    let core = c.args.self.now in
    let long = length-joined core.codes.items core.marks.items core.even in
    let size = length_back core.codes.items c.args.codes (c.args.position - 15) c.requires.sixteen (omega (arith, long)) core.codes.len c.deref_mut.result.now c.store.new.plane c.deref_mut.ensures.value c.store.ensures (omega arith) in
    omega (arith, size, core.limit)

pub invariant_of-self-clause-numbers : goal.invariant_of-self-clause-numbers
invariant_of-self-clause-numbers c =
    let core = c.args.self.now in
    let long = length-joined core.codes.items core.marks.items core.even in
    all_back core.codes.items c.args.codes (c.args.position - 15) c.requires.sixteen (omega (arith, long)) core.codes.len c.deref_mut.result.now c.store.new.plane c.deref_mut.ensures.value c.store.ensures (omega arith)
    64 core.numbers c.requires.below

pub returns : goal.returns
returns c =
    let core = c.args.self.now in
    let long = length-joined core.codes.items core.marks.items core.even in
    joined_back core.codes.items c.args.codes (c.args.position - 15) c.requires.sixteen (omega (arith, long)) core.codes.len c.deref_mut.result.now c.store.new.plane c.deref_mut.ensures.value c.store.ensures (omega arith)
    core.marks.items core.even
