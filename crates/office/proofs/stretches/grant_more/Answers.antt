use Rattle.std.proofs.Common.{arith}
use Rattle.office.proofs.StretchLemmas.{some_of, last_granted, more_in_last}
use Rattle.office.proofs.stretches.grant_more.Goals as goal

pub overflow_add-last : goal.overflow_add-last
overflow_add-last c = omega (arith, c.requires, last_granted c.args.stretches.now c.in-Some.last.now (some_of c.args.stretches.now c.in-Some.ensures.item.0) c.in-Some.ensures.item.1)

pub returns-in-Some : goal.returns-in-Some
returns-in-Some c = more_in_last c.args.stretches.now c.in-Some.last.now c.args.limit (some_of c.args.stretches.now c.in-Some.ensures.item.0) c.in-Some.ensures.item.1
