use Rattle.ledger_tables.proofs.Stepping.{if_ok_then}
use Rattle.job_checks.proofs.TableReads.{version_read}
use Rattle.job_checks.proofs.whole_tables.read_version.Goals as goal

pub returns-clause-read : goal.returns-clause-read
returns-clause-read g c clean = if_ok_then c.rows.result _ _ (λ rows shown ours. let did = version_read _ _ rows.items shown ours in (did.0, λ bureaus. did.1)) (c.rows.ensures.shown clean)
