-- why a job was not found to be as it ran
use Rattle.std.specs.Prelude.{◌≡◌, ⊤, Result, IfErr, IfOk}
use Rattle.job_checks.specs.declared.differences.Stop.{Stop}
use Rattle.job_checks.specs.declared.differences.Stop.TheVariants.{NoMemory, Differs}

-- a difference was found; it was not memory that ran out
abbrev pub IsDifference : Stop → Type 0
IsDifference NoMemory = ⊥
IsDifference (Differs difference) = ⊤

-- if a difference was found, this holds
abbrev pub IfDiffers : {X : Type 0} → Result X Stop → Type 0 → Type 0
IfDiffers result P = IfErr result (λ stop. IsDifference stop → P)

-- this is what was found, unless memory ran out
abbrev pub Gives : {X : Type 0} → Result X Stop → X → Type 0
Gives result x = IfOk result (λ found. found ≡ x) × IfErr result (λ stop. stop ≡ NoMemory)
