use Rattle.std.proofs.Common.{ap, subst, ◌∙◌, arith}
use Rattle.sqlite.specs.State.{HasCleanDisk}
use Rattle.ledger_tables.specs.Raising.{with_plain_profiles, without_blank_pages}
use Rattle.ledger_tables.specs.Steps.{seen}
use Rattle.ledger_tables.specs.Tables.{Holds}
use Rattle.ledger_tables.proofs.Frames.{on_ok_then}
use Rattle.ledger.specs.Older.{second_tables_of}
use Rattle.ledger.proofs.MigratingPages.{second_without_blank}
use Rattle.ledger.proofs.MigratingProfiles.{plain_tables}
use Rattle.ledger.proofs.migrating.raise_second.Goals as goal

pub returns-clause-raised : goal.returns-clause-raised
returns-clause-raised g c clean inside =
    let early : HasCleanDisk (seen g.S.Store c.clear_blank_pages.new.self) = omega (arith, c.end_third.ensures.step.survives.clean) in
    let on = c.in_ok-clear_blank_pages.ensures.step.frame early inside in
    let cleared = c.in_ok-clear_blank_pages.ensures.cleared early inside in
    on_ok_then c.end_third.result _ _ (λ ended office rows.
    let all = ended 2 (without_blank_pages (second_tables_of office)) (λ _. cleared (second_tables_of office) 2 (λ _. rows.tables)) in
    record {
      tables = subst (Holds (seen g.S.Store c.end_third.new.tables).now) (ap with_plain_profiles (second_without_blank office) ∙ plain_tables office rows.jobs.plain) all;
      jobs = rows.jobs.kept;
    }) (c.end_third.ensures.ended clean on.inside)
