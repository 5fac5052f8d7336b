use Rattle.ledger_tables.proofs.Frames.{on_ok_then}
use Rattle.ledger_tables.specs.Steps.{seen}
use Rattle.office_tables.specs.Standing.{tables_of}
use Rattle.ledger.proofs.SavingFlags.{flags_saved}
use Rattle.ledger.proofs.Offices.{job_is}
use Rattle.ledger.proofs.SummaryLemmas.{flagged_is}
use Rattle.ledger.proofs.saving.note_flags.Goals as goal

pub returns-clause-saved : goal.returns-clause-saved
returns-clause-saved g c old clean inside =
    on_ok_then c.set_flags.result _ _ (λ did office stands is.
    let it = job_is c.args.name.customer.now c.args.name.number office old stands.jobs is in
    flags_saved (seen g.S.Store c.args.tables.now).now (seen g.S.Store c.set_flags.new.self).now office c.args.name.customer.now c.args.name.number _ _ c.args.held c.args.collected old stands is (flagged_is c.args.held c.args.collected old it.job) c.truth.ensures c.truth-2.ensures (did (tables_of office) stands.tables tt))
    (c.set_flags.ensures.set clean inside)
