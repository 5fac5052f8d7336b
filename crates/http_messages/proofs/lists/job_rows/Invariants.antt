use Rattle.std.proofs.Common.{◌≡◌, map, take}
use Rattle.serde_json.specs.View.{view}
use Rattle.http_messages.specs.Values.{job_data}
use Rattle.http_messages.proofs.lists.job_rows.Given as goal

abbrev pub invariant-loop-line : goal.invariant-loop-line
invariant-loop-line l = map view l.rows.items ≡ map job_data (take l.line-index l.jobs)
