use Rattle.std.proofs.Common.{◌≡◌, true, refl}
use Rattle.sqlite.specs.Held.{state}
use Rattle.sqlite.specs.Steps.{over_memory}
use Rattle.sqlite.specs.View.{doubt}
use Rattle.ledger_tables.specs.Schema.{bureau_schema}
use Rattle.job_archives.proofs.own_schema.own_connection.Goals as goal

-- memory is a clean disk
no_doubt : doubt true ≡ 0
unfolding doubt
no_doubt = refl

pub returns-in-Ok : goal.returns-in-Ok
returns-in-Ok c =
    let made = c.in-Ok.ensures.made no_doubt c.in_ok-empty.ensures.empty.2 in
    let ours : (state over_memory c.in-Ok.bureau.conn).now.schema ≡ bureau_schema = (made.now (c.in-Ok.ensures.opened no_doubt)).tables.schema in
    rw c.into_connection.ensures ours
