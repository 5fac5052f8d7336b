use Rattle.std.proofs.Common.{◌∙◌, sym, ap}
use Rattle.machine.specs.Effect.{works_of}
use Rattle.machine.specs.Instructions.{decoded_by}
use Rattle.machine.proofs.OperationEffects.{ends_stopped}
use Rattle.machine.proofs.OperationNames.{meant_by_order, meant_by_no_order, ordered, order_refused, not_ordered}
use Rattle.machine.proofs.operations.give_order.Goals as goal

pub returns-in_err-move_carriage : goal.returns-in_err-move_carriage
returns-in_err-move_carriage c =
    let i = c.args.instruction in
    let check = c.in_err-move_carriage.field-0.0 in
    λ s. ends_stopped c.from_residual.result check c.from_residual.ensures.1 (works_of s c.args.registers.now c.args.units.now) _ _
    (order_refused (decoded_by i) c.args.next (works_of s c.args.registers.now c.args.units.now) c.in-Some.order check
    (meant_by_order i.first i.length i.last c.in-Some.order c.requires (sym c.of_code.ensures ∙ c.in-Some.is)) c.in_err-move_carriage.ensures.check)
    (ap (λ p. works_of s c.args.registers.now (record c.args.units.now { printer = p })) c.in_err-move_carriage.ensures.unchanged)

pub returns-in-Some : goal.returns-in-Some
returns-in-Some c =
    let i = c.args.instruction in
    λ s. ordered (decoded_by i) c.args.next (works_of s c.args.registers.now c.args.units.now) c.in-Some.order c.move_carriage.new.printer
    (meant_by_order i.first i.length i.last c.in-Some.order c.requires (sym c.of_code.ensures ∙ c.in-Some.is)) c.in_ok-move_carriage.ensures.done

pub returns : goal.returns
returns c =
    let i = c.args.instruction in
    λ s. not_ordered (decoded_by i) c.args.next (works_of s c.args.registers.now c.args.units.now)
    (meant_by_no_order i.first i.length i.last c.requires (sym c.of_code.ensures ∙ c.in_default.is))
