use Rattle.std.proofs.Common.{◌≡◌, sym, subst, ◌∙◌, arith, rules}
use Rattle.sqlite.specs.State.{HasCleanDisk}
use Rattle.core_store.specs.Storage.{Storage}
use Rattle.ledger_tables.specs.Steps.{seen}
use Rattle.ledger_tables.specs.Tables.{HoldsAs, pictured}
use Rattle.ledger_tables.proofs.Frames.{on_ok_then}
use Rattle.ledger.specs.Saving.{with_storage}
use Rattle.office_tables.proofs.ReadingLemmas.{ok_is, some_is}
use Rattle.ledger.proofs.MigratingPages.{found_whole}
use Rattle.ledger.proofs.migrating.raise_storage.Goals as goal

pub returns-clause-raised : goal.returns-clause-raised
returns-clause-raised g c clean inside =
    let mid = seen g.S.Store c.find_storage.new.self in
    let last = seen g.S.Store c.insert_pages.new.tables in
    let early : HasCleanDisk mid = omega (arith, c.insert_pages.ensures.step.survives.clean) in
    let on = c.in_ok-found.ensures.step.frame early inside in
    on_ok_then c.insert_pages.result _ _ (λ added storages version t s holds size characters whole.
    let found = c.in_ok-found.ensures.found early inside t storages version holds in
    let here : HoldsAs (pictured storages) version mid.now t = subst (λ db. HoldsAs (pictured storages) version db t) (sym found.0.0.now_is) holds in
    let read_from : c.deref.result.now ≡ c.in_ok-row.row = search rules in
    let bytes = read_from ∙ some_is (sym c.in_ok-row.ensures.some ∙ found.1 ∙ found_whole c.args.name s storages t whole) in
    let read = ok_is _ _ c.read_storage.result c.in_ok-core.ensures.found c.read_storage.ensures.all s size characters bytes in
    subst (λ (u : Storage). HoldsAs (pictured storages) version last.now (with_storage c.args.name u t)) read.0 (added (pictured storages) version t here whole.pages))
    (c.insert_pages.ensures.added clean on.inside)
