use Rattle.std.proofs.Common.{◌≡◌, subst, sym, ap, ◌∙◌, arith, if◌then◌else◌}
use Rattle.std.proofs.Math.Logic.{∥∥₁_map, ∥∥₁_elim}
use Rattle.sqlite.specs.State.{HasCleanDisk}
use Rattle.sqlite.specs.Tree.{Trees}
use Rattle.sqlite.specs.Files.{file_state, HoldsDatabase}
use Rattle.ledger_tables.specs.Versions.{IsKnown}
use Rattle.sqlite.specs.WalFiles.{image_at}
use Rattle.office_tables.specs.Standing.{LeftAs, Stands}
use Rattle.ledger_files.specs.Opening.{AreRefused, HoldsOnly, IsCleanKept}
use Rattle.ledger_files.proofs.OpeningLeftovers.{not_opened}
use Rattle.ledger_files.proofs.opening.open_from.Goals as goal

pub returns-in-Ok-adopted-clause-found : goal.returns-in-Ok-adopted-clause-found
returns-in-Ok-adopted-clause-found g c clean office are =
    let early : HasCleanDisk (file_state c.in-Ok.conn) = omega (arith, c.in-Ok-adopted.ensures.clean) in
    let opened = c.in-Ok.ensures.opened early in
    let found = c.in-Ok.ensures.found early in
    ∥∥₁_map are (λ it. let r : Stands (file_state c.in-Ok-adopted.bureau.conn) office =
    c.in-Ok-adopted.ensures.stands clean office (c.in-Ok-adopted.ensures.opened opened.0 opened.1 office (subst (λ d. LeftAs d office) (sym (found.holds it.0 it.1)) it.2)) in r)

pub returns-in-Ok-adopted-clause-version : goal.returns-in-Ok-adopted-clause-version
returns-in-Ok-adopted-clause-version g c clean db held sound =
    let early : HasCleanDisk (file_state c.in-Ok.conn) = omega (arith, c.in-Ok-adopted.ensures.clean) in
    let opened = c.in-Ok.ensures.opened early in
    c.in-Ok-adopted.ensures.answer clean opened.0 opened.1 db sound ((c.in-Ok.ensures.found early).holds db.trees held)

pub returns-in-Ok-adopted-clause-opened : goal.returns-in-Ok-adopted-clause-opened
returns-in-Ok-adopted-clause-opened g c clean =
    let early : HasCleanDisk (file_state c.in-Ok.conn) = omega (arith, c.in-Ok-adopted.ensures.clean) in
    (c.in-Ok.conn, c.in-Ok.ensures.opened early, c.in-Ok.ensures.found early, c.in-Ok-adopted.ensures.told)

pub returns-in-Ok-adopted-clause-holds : goal.returns-in-Ok-adopted-clause-holds
returns-in-Ok-adopted-clause-holds g c clean db held =
    let early : HasCleanDisk (file_state c.in-Ok.conn) = omega (arith, c.in-Ok-adopted.ensures.clean) in
    subst (λ t. HoldsOnly (file_state c.in-Ok-adopted.bureau.conn) t) ((c.in-Ok.ensures.found early).holds db held) (c.in-Ok-adopted.ensures.holds clean (c.in-Ok.ensures.opened early).0)

pub returns-in-Ok-adopted-clause-sound : goal.returns-in-Ok-adopted-clause-sound
returns-in-Ok-adopted-clause-sound g c clean =
    let early : HasCleanDisk (file_state c.in-Ok.conn) = omega (arith, c.in-Ok-adopted.ensures.clean) in
    c.in-Ok.ensures.sound early

-- the files were opened, and are no bureau's
pub returns-in-Err-adopted-clause-refused : goal.returns-in-Err-adopted-clause-refused
returns-in-Err-adopted-clause-refused g c clean =
    let early : HasCleanDisk (file_state c.in-Ok.conn) = omega (arith, c.in-Err-adopted.ensures.clean_still) in
    let opened = c.in-Ok.ensures.opened early in
    let found = c.in-Ok.ensures.found early in
    let known : (office : _) (db : Trees) → HoldsDatabase (image_at g.S.Start) db → LeftAs db office → IsKnown c.in-Err-adopted.fault = λ office db held left.
    c.in-Err-adopted.ensures.known clean office (c.in-Err-adopted.ensures.opened opened.0 opened.1 office (subst (λ d. LeftAs d office) (sym (found.holds db held)) left)) in
    record {
      known = λ office are. (λ e. ∥∥₁_elim are (λ x y. absurd x) (λ it. (known office it.0 it.1 it.2).0 e), λ version e. ∥∥₁_elim are (λ x y. absurd x) (λ it. (known office it.0 it.1 it.2).1 version e));
      stands = λ has_sums office are. ∥∥₁_map are (λ it. let r : Stands (file_state c.in-Err-adopted.conn) office =
          c.in-Err-adopted.ensures.kept clean office (c.in-Err-adopted.ensures.opened opened.0 opened.1 office (subst (λ d. LeftAs d office) (sym (found.holds it.0 it.1)) it.3)) in r);
      answer = λ db held sound. c.in-Err-adopted.ensures.answer clean opened.0 opened.1 db sound (found.holds db.trees held);
      told = (c.in-Ok.conn, opened, found, c.in-Err-adopted.ensures.told);
      untouched = λ db held. subst (λ t. HoldsOnly (file_state c.in-Err-adopted.conn) t) (found.holds db held) (c.in-Err-adopted.ensures.holds clean opened.0);
      same = λ db held. subst (λ t. HoldsOnly (file_state c.in-Err-adopted.conn) t) (found.holds db held) (c.in-Err-adopted.ensures.holds clean opened.0);
    }

-- the files were not opened
pub returns-in-Err-clause-refused : goal.returns-in-Err-clause-refused
returns-in-Err-clause-refused g c =
    let first = image_at g.S.Start in
    let known = subst (λ p. IsKnown p.0) c.handed_on.ensures.all c.handed_on.ensures.known in
    subst (λ p. IsCleanKept p.1 → AreRefused first p.0 p.1) (sym c.handed_on.ensures.all)
    (not_opened first c.in-Err.error known c.in-Err.left c.in-Err.ensures.unreached c.in-Err.ensures.cause)
