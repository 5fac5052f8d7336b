use Rattle.std.proofs.Common.{◌∙◌, ap, sym, unwrap_or}
use Rattle.units.specs.declared.pockets.Pocket.TheVariants.{Normal}
use Rattle.machine.specs.Effect.{works_of}
use Rattle.machine.specs.Instructions.{decoded_by}
use Rattle.machine.proofs.OperationEffects.{ends_stopped}
use Rattle.machine.proofs.OperationNames.{pocket_meant, selected, selection_refused}
use Rattle.machine.proofs.operations.select_pocket.Goals as goal

pub returns-in_err-choose_pocket : goal.returns-in_err-choose_pocket
returns-in_err-choose_pocket c =
    let i = c.args.instruction in
    let pocket = c.unwrap_or-pocket.ensures ∙ ap (λ found. unwrap_or found Normal) c.of_code.ensures ∙ sym (pocket_meant i.first i.length i.last c.requires) in
    let check = c.in_err-choose_pocket.field-0.0 in
    λ s. ends_stopped c.from_residual.result check c.from_residual.ensures.1 (works_of s c.args.registers.now c.args.units.now) _ _
    (selection_refused (decoded_by i) c.args.next (works_of s c.args.registers.now c.args.units.now) c.unwrap_or-pocket.result check pocket c.in_err-choose_pocket.ensures.check)
    (ap (λ p. works_of s c.args.registers.now (record c.args.units.now { punch = p })) c.in_err-choose_pocket.ensures.unchanged)

pub returns : goal.returns
returns c =
    let i = c.args.instruction in
    let pocket = c.unwrap_or-pocket.ensures ∙ ap (λ found. unwrap_or found Normal) c.of_code.ensures ∙ sym (pocket_meant i.first i.length i.last c.requires) in
    λ s. selected (decoded_by i) c.args.next (works_of s c.args.registers.now c.args.units.now) c.unwrap_or-pocket.result c.choose_pocket.new.punch pocket c.in_ok-choose_pocket.ensures.done
