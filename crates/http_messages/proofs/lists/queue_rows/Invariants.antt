use Rattle.std.proofs.Common.{◌≡◌, map, take}
use Rattle.serde_json.specs.View.{view}
use Rattle.http_messages.specs.Values.{queued_data}
use Rattle.http_messages.proofs.lists.queue_rows.Given as goal

abbrev pub invariant-loop-job : goal.invariant-loop-job
invariant-loop-job l = map view l.rows.items ≡ map queued_data (take l.job-index l.jobs)
