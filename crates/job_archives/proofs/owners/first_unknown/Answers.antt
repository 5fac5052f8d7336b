use Rattle.std.proofs.Common.{subst, ◌∙◌}
use Rattle.job_archives.specs.Parts.{IsUnknownAmong}
use Rattle.job_archives.proofs.PartLemmas.{unknown_of}
use Rattle.job_archives.proofs.owners.first_unknown.Goals as goal

pub returns-clause-found : goal.returns-clause-found
returns-clause-found g c clean office stands =
    let rows = c.deref.ensures.value ∙ (c.in_ok-rows.ensures.names clean office stands).2 in
    unknown_of c.args.customers c.deref.result.now office c.unknown_among.result rows (subst (λ names. IsUnknownAmong names c.deref.result.now c.unknown_among.result) c.names_in.ensures c.unknown_among.ensures)
