use Rattle.std.proofs.Common.{◌≡◌, ◌∷◌, sym, ap, subst, ◌∙◌, rules}
use Rattle.machine.specs.Run.{State, after, started, loaded}
use Rattle.office.specs.Jobs.{all_off, AreStretches}
use Rattle.job_checks.specs.Again.{GoesThrough, HasResumed, StartsAtHalts}
use Rattle.job_checks.proofs.AgainLemmas.{halts_after_first, resumed_first}
use Rattle.job_checks.proofs.again.run_again.Goals as goal

pub returns-in-Ok-clause-resumed : goal.returns-in-Ok-clause-resumed
returns-in-Ok-clause-resumed c =
    let begun = loaded c.args.loaded c.args.size all_off c.args.profile in
    let first = c.in-Some.first.now in
    let others = c.in-Some.others.now in
    let cons : c.args.stretches.now ≡ first ∷ others = search rules in
    let allowed : AreStretches c.args.stretches.now = c.are_stretches.ensures.0 c.if-not-are_stretches.false in
    let at_first : c.run.new.self ≡ after (started begun first.switches) first.granted = c.in_ok-run.ensures.machine ∙ ap (λ s. after s first.granted) c.in_ok-machine.ensures in
    subst (λ xs. HasResumed begun xs c.go_on.new.machine) (sym cons)
    (resumed_first begun c.go_on.new.machine first others (subst AreStretches cons allowed)
    (subst (λ s. GoesThrough s c.go_on.new.machine others) at_first c.in-Ok.ensures.goes))

pub returns-in-Err-clause-other : goal.returns-in-Err-clause-other
returns-in-Err-clause-other c = λ is m has.
    let begun = loaded c.args.loaded c.args.size all_off c.args.profile in
    let first = c.in-Some.first.now in
    let others = c.in-Some.others.now in
    let cons : c.args.stretches.now ≡ first ∷ others = search rules in
    let at_first : c.run.new.self ≡ after (started begun first.switches) first.granted = c.in_ok-run.ensures.machine ∙ ap (λ s. after s first.granted) c.in_ok-machine.ensures in
    c.in-Err.ensures.other is
    (subst (λ (s : State). StartsAtHalts s others) (sym at_first) (halts_after_first begun m first others (subst (λ xs. HasResumed begun xs m) cons has)))
