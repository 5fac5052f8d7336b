use Rattle.std.proofs.Common.{length, ap, subst, ◌∙◌, arith}
use Rattle.std.proofs.lemmas.List.{take_all}
use Rattle.sqlite.specs.State.{HasCleanDisk}
use Rattle.ledger_tables.specs.Raising.{with_plain_profiles}
use Rattle.ledger_tables.specs.Steps.{seen}
use Rattle.ledger_tables.specs.Tables.{Holds}
use Rattle.ledger_tables.proofs.Frames.{on_ok_then}
use Rattle.ledger.specs.Older.{storages_of, with_first_pages}
use Rattle.office_tables.specs.Standing.{tables_of}
use Rattle.ledger.proofs.MigratingPages.{all_first_pages}
use Rattle.ledger.proofs.MigratingProfiles.{plain_tables}
use Rattle.ledger.proofs.migrating.raise_first.Goals as goal

pub returns-clause-raised : goal.returns-clause-raised
returns-clause-raised g c clean inside =
    let late : HasCleanDisk (seen g.S.Store c.raise_storages.new.tables) = omega (arith, c.end_first.ensures.step.survives.clean) in
    let early : HasCleanDisk (seen g.S.Store c.lay_out.new.self) = omega (arith, late, c.raise_storages.ensures.step.survives.clean) in
    let on = c.in_ok-lay_out.ensures.step.frame early inside in
    let laid = c.in_ok-lay_out.ensures.laid early inside in
    let more = c.in_ok-raise_storages.ensures.step.frame late on.inside in
    let raised = c.in_ok-raise_storages.ensures.raised late on.inside in
    on_ok_then c.end_first.result _ _ (λ ended office rows.
    let first = laid (tables_of office) (storages_of office) (λ _. rows.tables) in
    let all = ended (storages_of office) 1 (with_first_pages (length office) office) (raised office rows.jobs.kept first) in
    record {
      tables = subst (Holds (seen g.S.Store c.end_first.new.tables).now) (ap with_plain_profiles (all_first_pages office (length office) (take_all (length office) office (omega arith))) ∙ plain_tables office rows.jobs.plain) all;
      jobs = rows.jobs.kept;
    }) (c.end_first.ensures.ended clean more.inside)
