use Rattle.std.proofs.Common.{◌≡◌, ◌⊎◌, ◌∙◌, ℕ, ap, arith, if◌then◌else◌, subst, sym}
use Rattle.std.proofs.Math.Logic.{∥∥₁_elim, ∥∥₁_map}
use Rattle.sqlite.specs.Files.{file_state, HoldsDatabase}
use Rattle.sqlite.specs.State.{HasCleanDisk}
use Rattle.sqlite.specs.Tree.{Trees}
use Rattle.sqlite.specs.WalFiles.{image_at}
use Rattle.ledger_tables.specs.Versions.{IsKnown}
use Rattle.ledger_tables.specs.declared.openings.OpenFault.TheVariants.{NoMemory}
use Rattle.office.specs.Office.{Office}
use Rattle.ledger.specs.Older.{LeftOf, StandsOf}
use Rattle.office_tables.specs.Standing.{LeftAs, Stands}
use Rattle.ledger_files.specs.Migrating.{AreNotMigrated}
use Rattle.ledger_files.specs.Opening.{HoldsOnly, IsCleanKept}
use Rattle.ledger_files.proofs.OpeningLeftovers.{not_migrated}
use Rattle.ledger_files.proofs.migrating.migrate_from.Goals as goal

pub returns-in-Ok-raised-clause-raised : goal.returns-in-Ok-raised-clause-raised
returns-in-Ok-raised-clause-raised g c clean version office are =
    let early : HasCleanDisk (file_state c.in-Ok.conn) = omega (arith, c.in-Ok-raised.ensures.clean) in
    let opened = c.in-Ok.ensures.opened early in
    let found = c.in-Ok.ensures.found early in
    ∥∥₁_map are (λ it. let r : (c.in-Ok-raised.done.0 ≡ version) × Stands (file_state c.in-Ok-raised.done.1) office =
    c.in-Ok-raised.ensures.raised clean version office (c.in-Ok-raised.ensures.opened opened.0 opened.1 version office (subst (λ d. LeftOf version d office) (sym (found.holds it.0 it.1)) it.2)) in r)

pub returns-in-Ok-raised-clause-midway : goal.returns-in-Ok-raised-clause-midway
returns-in-Ok-raised-clause-midway g c clean version office are =
    let early : HasCleanDisk (file_state c.in-Ok.conn) = omega (arith, c.in-Ok-raised.ensures.clean) in
    let opened = c.in-Ok.ensures.opened early in
    let found = c.in-Ok.ensures.found early in
    ∥∥₁_map are (λ it. let r : (db : Trees) → (file_state c.in-Ok-raised.done.1).may_leave db → LeftOf version db office ⊎ LeftAs db office =
    c.in-Ok-raised.ensures.midway clean version office (c.in-Ok-raised.ensures.opened opened.0 opened.1 version office (subst (λ d. LeftOf version d office) (sym (found.holds it.0 it.1)) it.2)) in r)

pub returns-in-Ok-raised-clause-version : goal.returns-in-Ok-raised-clause-version
returns-in-Ok-raised-clause-version g c clean db held sound =
    let early : HasCleanDisk (file_state c.in-Ok.conn) = omega (arith, c.in-Ok-raised.ensures.clean) in
    let opened = c.in-Ok.ensures.opened early in
    c.in-Ok-raised.ensures.version clean opened.0 opened.1 db sound ((c.in-Ok.ensures.found early).holds db.trees held)

pub returns-in-Ok-raised-clause-alone : goal.returns-in-Ok-raised-clause-alone
returns-in-Ok-raised-clause-alone g c own clean db held =
    let early : HasCleanDisk (file_state c.in-Ok.conn) = omega (arith, c.in-Ok-raised.ensures.clean) in
    subst (λ t. HoldsOnly (file_state c.in-Ok-raised.done.1) t) ((c.in-Ok.ensures.found early).holds db held) (c.in-Ok-raised.ensures.alone own clean (c.in-Ok.ensures.opened early).0)

pub returns-in-Ok-raised-clause-sound : goal.returns-in-Ok-raised-clause-sound
returns-in-Ok-raised-clause-sound g c clean =
    let early : HasCleanDisk (file_state c.in-Ok.conn) = omega (arith, c.in-Ok-raised.ensures.clean) in
    c.in-Ok.ensures.sound early

-- the files were opened, and not raised
pub returns-in-Err-raised-clause-refused : goal.returns-in-Err-raised-clause-refused
returns-in-Err-raised-clause-refused g c clean =
    let early : HasCleanDisk (file_state c.in-Ok.conn) = omega (arith, c.in-Err-raised.ensures.clean_still) in
    let opened = c.in-Ok.ensures.opened early in
    let found = c.in-Ok.ensures.found early in
    let conn = c.in-Err-raised.conn in
    let stands : (version : ℕ) (office : Office) (db : Trees) → HoldsDatabase (image_at g.S.Start) db → LeftOf version db office → StandsOf version (file_state c.in-Ok.conn) office = λ version office db held left.
    c.in-Err-raised.ensures.opened opened.0 opened.1 version office (subst (λ d. LeftOf version d office) (sym (found.holds db held)) left) in
    record {
      not_old = c.in-Err-raised.ensures.known.0;
      known = λ version office are is. ∥∥₁_elim are (λ x y. absurd x) (λ it. c.in-Err-raised.ensures.known.1 clean version office (stands version office it.0 it.1 it.2) is);
      keeps = λ has_sums version office are. ∥∥₁_map are (λ it.
          let was = stands version office it.0 it.1 it.3 in
          let r : (c.in-Err-raised.fault ≡ NoMemory → StandsOf version (file_state conn) office) × ((db : Trees) → (file_state conn).may_leave db → LeftOf version db office ⊎ LeftAs db office) =
          (λ memory. c.in-Err-raised.ensures.kept memory clean version office was, c.in-Err-raised.ensures.left clean version office was) in r);
      told = tt;
      answer = λ db held sound. c.in-Err-raised.ensures.answer_still clean opened.0 opened.1 db sound (found.holds db.trees held);
      untouched = λ is db held. subst (λ t. HoldsOnly (file_state conn) t) (found.holds db held) (c.in-Err-raised.ensures.untouched is clean opened.0);
    }

-- the files were not opened
pub returns-in-Err-clause-refused : goal.returns-in-Err-clause-refused
returns-in-Err-clause-refused g c =
    let first = image_at g.S.Start in
    let known = subst (λ p. IsKnown p.0) c.handed_on.ensures.all c.handed_on.ensures.known in
    subst (λ p. IsCleanKept p.1 → AreNotMigrated first p.0 p.1) (sym c.handed_on.ensures.all)
    (not_migrated first c.in-Err.error known c.in-Err.left c.in-Err.ensures.unreached c.in-Err.ensures.cause)

pub returns-in-Err-raised-clause-told : goal.returns-in-Err-raised-clause-told
returns-in-Err-raised-clause-told g c = c.in-Err-raised.ensures.known.0

pub returns-in-Err-clause-told : goal.returns-in-Err-clause-told
returns-in-Err-clause-told g c = c.handed_on.ensures.known.1

pub returns-in-Ok-raised-clause-answer : goal.returns-in-Ok-raised-clause-answer
returns-in-Ok-raised-clause-answer g c clean db held sound =
    let early : HasCleanDisk (file_state c.in-Ok.conn) = omega (arith, c.in-Ok-raised.ensures.clean) in
    let opened = c.in-Ok.ensures.opened early in
    c.in-Ok-raised.ensures.answer clean opened.0 opened.1 db sound ((c.in-Ok.ensures.found early).holds db.trees held)
