use Rattle.std.proofs.Common.{sym, Some, None}
use Rattle.core_store.proofs.PlaneLemmas.{last_is_greatest}
use Rattle.core_store.proofs.planes.PlaneCoreCore.mark_at_or_below.Goals as goal

pub returns-in-Some-clause-mark : goal.returns-in-Some-clause-mark
returns-in-Some-clause-mark c = sym (last_is_greatest c.args.self.now.codes.items c.args.self.now.marks.items c.args.position (Some c.in-Some.found) c.args.self.now.even (rw c.deref.ensures.value at c.in-Some.ensures))

pub returns-in-None-clause-mark : goal.returns-in-None-clause-mark
returns-in-None-clause-mark c = sym (last_is_greatest c.args.self.now.codes.items c.args.self.now.marks.items c.args.position None c.args.self.now.even (rw c.deref.ensures.value at c.in-None.ensures))
