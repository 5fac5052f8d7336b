use Rattle.std.proofs.Common.{subst, ◌∙◌}
use Rattle.job_archives.specs.Parts.{IsSharedAmong}
use Rattle.job_archives.proofs.PartLemmas.{shared_none, shared_some}
use Rattle.job_archives.proofs.owners.first_shared.Goals as goal

pub returns-in-Some-clause-found : goal.returns-in-Some-clause-found
returns-in-Some-clause-found g c clean other_clean office more stands others =
    let rows = c.deref.ensures.value ∙ (c.in_ok-rows.ensures.names clean office stands).2 in
    let other_rows = c.deref-2.ensures.value ∙ (c.in_ok-more.ensures.names other_clean more others).2 in
    shared_some _ _ office more c.in-Some.customer rows other_rows (subst (IsSharedAmong c.deref.result.now c.deref-2.result.now) c.in-Some.is c.in_ok-customer.ensures) _ c.in_ok-from_str-in-Some.ensures.ok

pub returns-clause-found : goal.returns-clause-found
returns-clause-found g c clean other_clean office more stands others =
    let rows = c.deref.ensures.value ∙ (c.in_ok-rows.ensures.names clean office stands).2 in
    let other_rows = c.deref-2.ensures.value ∙ (c.in_ok-more.ensures.names other_clean more others).2 in
    shared_none _ _ office more rows other_rows (subst (IsSharedAmong c.deref.result.now c.deref-2.result.now) c.in-None.is c.in_ok-customer.ensures)
