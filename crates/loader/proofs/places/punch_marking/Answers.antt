use Rattle.std.proofs.Common.{arith}
use Rattle.loader.specs.Stretches.{marks_of}
use Rattle.loader.proofs.PlaceFills.{marking_done, count_done}
use Rattle.loader.proofs.places.punch_marking.Goals as goal

pub returns-clause-punched : goal.returns-clause-punched
returns-clause-punched c = marking_done c.loop-first.columns _ (marks_of c.loop-first.rest.now) c.in_default.ensures.pair c.loop-first.invariant.punched

pub returns-clause-length : goal.returns-clause-length
returns-clause-length c =
    let all = count_done c.loop-first.count _ (marks_of c.loop-first.rest.now) c.in_default.ensures.pair c.loop-first.invariant.count in
    omega (arith, all)

pub returns-clause-count : goal.returns-clause-count
returns-clause-count c = count_done c.loop-first.count _ (marks_of c.loop-first.rest.now) c.in_default.ensures.pair c.loop-first.invariant.count
