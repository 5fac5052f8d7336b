-- what an operation does, by the character that names it
use Rattle.std.proofs.Common.{◌≡◌, ℕ, Result, Ok, Err, sym, subst, ap, ◌∙◌}
use Rattle.std.specs.Result.{IsErrAnd}
use Rattle.core_store.specs.declared.checks.Check.{Check}
use Rattle.units.specs.declared.fault.Fault.{Fault}
use Rattle.units.specs.declared.fault.Fault.TheVariants.{Stopped}
use Rattle.machine.specs.declared.instruction.Instruction.{Instruction}
use Rattle.machine.specs.declared.operations.Course.{Course}
use Rattle.machine.specs.Effect.{Works, effect, Fails, Ends}
use Rattle.machine.specs.Instructions.{operation_by, decoded_by}

-- the same end by another effect that has the same outcome here
pub ends_by : (result : Result Course Fault) (w after : Works) (one other : Works → Result (Works × Course) Check) → one w ≡ other w → Ends result w after other → Ends result w after one
ends_by (Ok course) w after one other same h = same ∙ h
ends_by (Err fault) w after one other same h = (subst (Fails fault w) (sym same) h.0, h.1)

-- an instruction that begins with the character of an operation ends as the operation does
pub ends_as : (i : Instruction) (next code : ℕ) → i.first ≡ code → (result : Result Course Fault) (w after : Works) →
    Ends result w after (effect (operation_by code) (decoded_by i) next) → Ends result w after (effect (operation_by i.first) (decoded_by i) next)
ends_as i next code same result w after h =
    ends_by result w after (effect (operation_by i.first) (decoded_by i) next) (effect (operation_by code) (decoded_by i) next)
    (ap (λ k. effect (operation_by k) (decoded_by i) next w) same) h

-- a call that was stopped returned its check as the fault
pub ends_stopped : (r : Result Course Fault) (check : Check) → IsErrAnd r (λ fault. fault ≡ Stopped check) →
    (w after : Works) (effect : Works → Result (Works × Course) Check) → effect w ≡ Err check → after ≡ w → Ends r w after effect
ends_stopped (Ok course) check stopped w after effect e same = absurd stopped
ends_stopped (Err fault) check stopped w after effect e same = (subst (λ f. Fails f w (effect w)) (sym stopped) e, same)
