use Rattle.std.proofs.Common.{◌≡◌, ◌<◌, ℕ, take}
use Rattle.machine.specs.declared.standings.Standing.TheVariants.{Halted}
use Rattle.office.specs.Jobs.{resumed}
use Rattle.job_checks.proofs.again.go_on.Given as goal

abbrev pub invariant-loop-at : goal.invariant-loop-at
invariant-loop-at l = (l.machine ≡ resumed l.fn.machine (take l.at l.stretches))
    × ((n : ℕ) → n < l.at → (resumed l.fn.machine (take n l.stretches)).standing ≡ Halted)
