use Rattle.std.proofs.Common.{take}
use Rattle.std.specs.Io.KnownBytes.{Appends}
use Rattle.local_runs.specs.Endings.{fault_lines}
use Rattle.local_runs.proofs.source_faults.put_fault_lines.Given as goal

abbrev pub invariant-loop-fault : goal.invariant-loop-fault
invariant-loop-fault g l = Appends (g.W.Write.contents l.fn.output) (g.W.Write.contents l.output) (fault_lines (take l.fault-index l.faults))
