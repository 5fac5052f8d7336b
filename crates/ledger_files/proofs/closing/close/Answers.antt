use Rattle.std.proofs.Common.{◌≤◌, subst}
use Rattle.std.specs.Prelude.{IfErr, IfOk}
use Rattle.sqlite.specs.Files.{file_state}
use Rattle.sqlite.specs.FileStore.{recovers, view}
use Rattle.sqlite.specs.Recovery.{Image}
use Rattle.sqlite.specs.State.{HasCleanDisk}
use Rattle.sqlite.specs.Tree.{Trees}
use Rattle.sqlite.specs.View.{IsClean, doubt}
use Rattle.sqlite.specs.WalFiles.{outcomes}
use Rattle.sqlite_wal.specs.Reads.{AreClean}
use Rattle.office.specs.Office.{Office}
use Rattle.office_tables.specs.Standing.{Stands}
use Rattle.ledger_files.specs.Closing.{HindersClosing, StandsAlone}
use Rattle.ledger_files.proofs.closing.close.Goals as goal

pub returns-clause-alone : goal.returns-clause-alone
returns-clause-alone g c =
    subst (λ h. IfOk c.close_connection.result (λ closed. AreClean g.D.Disk closed.files.log closed.files.db → (office : Office) → Stands (file_state h) office → (left : Image) → outcomes g.D.Disk closed.files.log closed.files.db left → StandsAlone left office))
    c.connection_of.ensures c.close_connection.ensures.alone

pub returns-clause-clean : goal.returns-clause-clean
returns-clause-clean g c =
    subst (λ h. IfOk c.close_connection.result (λ closed. AreClean g.D.Disk closed.files.log closed.files.db → HasCleanDisk (file_state h))) c.connection_of.ensures c.close_connection.ensures.clean

pub returns-clause-kept : goal.returns-clause-kept
returns-clause-kept g c =
    subst (λ h. IfErr c.close_connection.result (λ e. (db : Trees) → recovers e.1 db → (file_state h).may_leave db)) c.connection_of.ensures c.close_connection.ensures.kept

pub returns-clause-clean_still : goal.returns-clause-clean_still
returns-clause-clean_still g c =
    subst (λ h. IfErr c.close_connection.result (λ e. doubt (file_state h).is_clean ≤ doubt (view e.1).is_clean)) c.connection_of.ensures c.close_connection.ensures.clean_still

pub returns-clause-cause : goal.returns-clause-cause
returns-clause-cause g c =
    subst (λ h. IfErr c.close_connection.result (λ e. IsClean (view e.1) → HindersClosing h e.1 e.0)) c.connection_of.ensures c.close_connection.ensures.cause
