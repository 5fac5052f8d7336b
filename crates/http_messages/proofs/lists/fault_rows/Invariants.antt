use Rattle.std.proofs.Common.{◌≡◌, map, take}
use Rattle.serde_json.specs.View.{view}
use Rattle.http_messages.specs.Values.{fault_data}
use Rattle.http_messages.proofs.lists.fault_rows.Given as goal

abbrev pub invariant-loop-told : goal.invariant-loop-told
invariant-loop-told l = map view l.rows.items ≡ map fault_data (take l.told-index l.faults)
