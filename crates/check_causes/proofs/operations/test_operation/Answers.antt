use Rattle.std.proofs.Common.{◌∙◌, sym, ap, arith}
use Rattle.machine.specs.Operations.{devices}
use Rattle.check_causes.specs.Devices.{devices_told}
use Rattle.check_causes.proofs.OperationLemmas.{by_devices, blank_passes}
use Rattle.check_causes.proofs.operations.test_operation.Goals as goal

pub returns-in-0 : goal.returns-in-0
returns-in-0 g c = blank_passes c.args.instruction.first _ _ c.args.units.now c.args.instruction.a c.args.instruction.b (sym c.number.ensures.same ∙ c.in-0.is)

pub returns-in-1-to-7 : goal.returns-in-1-to-7
returns-in-1-to-7 g c =
    c.test_devices.ensures
    ∙ ap (λ d. devices_told d c.args.units.now) (c.of_sum.ensures ∙ ap (λ n. devices n) c.number.ensures.same)
    ∙ by_devices c.args.instruction.first _ _ c.args.units.now c.args.instruction.a c.args.instruction.b (omega (arith, c.number.ensures.same)) (omega (arith, c.number.ensures.same))
