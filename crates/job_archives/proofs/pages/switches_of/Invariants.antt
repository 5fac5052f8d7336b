use Rattle.std.proofs.Common.{◌≡◌, map, take}
use Rattle.office.specs.declared.stretches.Stretch.{Stretch}
use Rattle.job_archives.proofs.pages.switches_of.Given as goal

abbrev pub invariant-loop-stretch : goal.invariant-loop-stretch
invariant-loop-stretch l = l.switches.items ≡ map (λ (s : Stretch). s.switches) (take l.stretch-index l.stretches)
