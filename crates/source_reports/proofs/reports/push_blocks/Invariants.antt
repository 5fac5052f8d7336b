use Rattle.std.proofs.Common.{◌≡◌, ◌++◌, take}
use Rattle.std.specs.List.{flat_map}
use Rattle.source_reports.specs.Blocks.{block}
use Rattle.source_reports.proofs.reports.push_blocks.Given as goal

abbrev pub invariant-loop-fault : goal.invariant-loop-fault
invariant-loop-fault l = l.text.items
    ≡ l.initial.text.items ++ flat_map (block l.layout l.source) (take l.fault-index l.faults)
