use Rattle.std.proofs.Common.{◌≡◌, below_more, refl, sym, ap, ◌∙◌, rules, arith}
use Rattle.machine.specs.Run.{State}
use Rattle.machine.specs.declared.standings.Standing.TheVariants.{Halted}
use Rattle.office.specs.Jobs.{resumed}
use Rattle.job_checks.proofs.AgainLemmas.{next_is}
use Rattle.job_checks.proofs.again.go_on.Goals as goal

pub loop-at-init : goal.loop-at-init
unfolding resumed
loop-at-init c = (refl, λ n less. absurd (omega (arith, less)))

pub loop-at-preserved : goal.loop-at-preserved
loop-at-preserved c =
    let inv = c.loop-at.invariant in
    let halted : c.loop-at.machine.standing ≡ Halted = search rules in (
      next_is c.args.machine.now c.loop-at.machine c.resume.new.machine c.args.stretches.now c.loop-at.at _ _ c.loop-at-test.true inv.0 refl c.in_ok-resume.ensures,
      below_more _ _ inv.1 (ap (λ (s : State). s.standing) (sym inv.0) ∙ halted),
    )
