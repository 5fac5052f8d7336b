use Rattle.std.proofs.Common.{◌∙◌, ap, sym, subst, length}
use Rattle.units.specs.Units.{Makes}
use Rattle.machine.specs.Ranges.{IsInRange}
use Rattle.machine.specs.Run.{State, after, attempts, IsGivenUp}
use Rattle.machine.proofs.InRange.{after_in_range}
use Rattle.machine.proofs.Steps.{IsCheckpointOf, executed_is, restored_is, stems_after, stems_same, wanting_given_up, wanting_makes, wanting_stems}
use Rattle.machine.proofs.runs.Machine.run.Goals as goal

-- a run that came to its end

pub returns-in-Ok-clause-executed : goal.returns-in-Ok-clause-executed
returns-in-Ok-clause-executed g c =
    let began = c.checkpoint-checkpoint.result.standing in
    c.report.ensures.executed
    ∙ executed_is c.args.self.now c.work.new.self c.args.limit c.in-Ok.attempted began
    (c.in-Ok.ensures.attempted ∙ ap (λ (m : State). attempts m c.args.limit) c.self.view_is)
    (c.checkpoint-checkpoint.ensures.standing ∙ ap (λ (m : State). m.standing) c.self.view_is)
    (c.in-Ok.ensures.machine ∙ ap (λ (m : State). after m c.args.limit) c.self.view_is)

pub invariant_of-self : goal.invariant_of-self
invariant_of-self g c =
    let old = c.self.inside.parts in
    let ended = c.in-Ok.ensures.machine in (
      subst IsInRange (sym ended) (after_in_range old c.args.limit c.self.invariant.0),
      ap (λ (m : State). length m.works.storage) ended ∙ (stems_after old old c.args.limit (stems_same old)).size ∙ sym (ap length c.checkpoint-checkpoint.ensures.storage),
    )

-- one that was given up

pub restore-requires : goal.restore-requires
restore-requires g c = (wanting_stems _ _ _ _ c.in-Err.ensures.given_up).size ∙ sym (ap length c.checkpoint-checkpoint.ensures.storage)

pub invariant_of-self-in-Err : goal.invariant_of-self-in-Err
invariant_of-self-in-Err g c =
    let old = c.self.inside.parts in
    let kept = c.checkpoint-checkpoint.ensures in
    let is : IsCheckpointOf c.checkpoint-checkpoint.result old =
    record {
      registers = kept.registers;
      taken = kept.taken;
      cards = kept.cards;
      chosen = kept.chosen;
      lines = kept.lines;
      carriage = kept.carriage;
      standing = kept.standing;
    } in
    let back = c.restore.ensures ∙ restored_is old c.work.new.self _ c.checkpoint-checkpoint.result kept.storage is (wanting_stems _ _ _ _ c.in-Err.ensures.given_up) in (
      subst IsInRange (sym back) c.self.invariant.0,
      ap (λ (m : State). length m.works.storage) back ∙ sym (ap length kept.storage),
    )

pub returns-in-Err-clause-unchanged : goal.returns-in-Err-clause-unchanged
returns-in-Err-clause-unchanged g c =
    let old = c.self.inside.parts in
    let kept = c.checkpoint-checkpoint.ensures in
    let is : IsCheckpointOf c.checkpoint-checkpoint.result old =
    record {
      registers = kept.registers;
      taken = kept.taken;
      cards = kept.cards;
      chosen = kept.chosen;
      lines = kept.lines;
      carriage = kept.carriage;
      standing = kept.standing;
    } in
    c.restore.ensures ∙ restored_is old c.work.new.self _ c.checkpoint-checkpoint.result kept.storage is (wanting_stems _ _ _ _ c.in-Err.ensures.given_up) ∙ c.self.view_is

pub returns-in-Err-clause-memory : goal.returns-in-Err-clause-memory
returns-in-Err-clause-memory g c =
    subst (λ (m : State). Makes m.works.units (after m c.args.limit).works.units) c.self.view_is (wanting_makes _ _ _ _ c.in-Err.ensures.given_up)

pub returns-in-Err-clause-given_up : goal.returns-in-Err-clause-given_up
returns-in-Err-clause-given_up g c =
    subst (λ (m : State). IsGivenUp m c.args.limit c.args.meter.now c.advance-in-Err.new.self) c.self.view_is
    (wanting_given_up _ _ _ _ c.in-Err.ensures.given_up c.args.meter.now c.advance-in-Err.new.self c.advance-in-Err.ensures)
