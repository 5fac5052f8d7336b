use Rattle.std.proofs.Common.{◌≡◌}
use Rattle.job_archives.proofs.filling.put_rows.Given as goal

abbrev pub invariant-loop-row : goal.invariant-loop-row
invariant-loop-row g l = l.tx.conn.ghost_name ≡ l.fn.tx.conn.ghost_name
