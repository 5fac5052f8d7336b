use Rattle.std.proofs.Common.{◌≤◌, subst}
use Rattle.sqlite.specs.Files.{file_state}
use Rattle.sqlite.specs.FileStore.{view}
use Rattle.sqlite.specs.View.{doubt}
use Rattle.ledger_files.specs.Rounds.{HoldsOneOf}
use Rattle.ledger_files.proofs.RoundLemmas.{link_from}
use Rattle.ledger_files.proofs.rounds.stop.Goals as goal

pub returns-clause-left : goal.returns-clause-left
returns-clause-left g c clean left may =
    subst (λ h. HoldsOneOf (view c.leave.result).has_sums left (file_state h).may_leave) c.connection_of.ensures (c.leave.ensures.left clean left may)

pub returns-clause-kept : goal.returns-clause-kept
returns-clause-kept g c db may = subst (λ h. (file_state h).may_leave db) c.connection_of.ensures (c.leave.ensures.kept db may)

pub returns-clause-clean : goal.returns-clause-clean
returns-clause-clean g c = subst (λ h. doubt (file_state h).is_clean ≤ doubt (view c.leave.result).is_clean) c.connection_of.ensures c.leave.ensures.clean

pub returns-clause-link : goal.returns-clause-link
returns-clause-link g c first commands replies it =
    link_from first c.args.bureau.conn c.args.bureau.broken commands replies it c.leave.result (returns-clause-clean g c) (returns-clause-left g c)
