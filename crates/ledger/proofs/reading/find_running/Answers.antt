use Rattle.std.proofs.Common.{sym, ap, subst, ◌∙◌, arith}
use Rattle.cards.specs.Decks.{deck_bytes, IsDeck}
use Rattle.sqlite.specs.State.{HasCleanDisk}
use Rattle.ledger_tables.specs.Cells.{LoadedCells}
use Rattle.ledger_tables.specs.Steps.{seen}
use Rattle.office.specs.Jobs.{picture}
use Rattle.ledger.proofs.BureauResults.{store_passed}
use Rattle.ledger.proofs.Offices.{if_ok_then, job_is}
use Rattle.ledger.proofs.ReadFaults.{failed_later, failed_unless}
use Rattle.office_tables.proofs.ReadingLemmas.{picture_deck}
use Rattle.ledger.proofs.reading.find_running.Goals as goal

pub returns-clause-found : goal.returns-clause-found
returns-clause-found g c clean inside =
    let early : HasCleanDisk (seen g.S.Store c.find_punch.new.tables) = omega (arith, c.find_machine.ensures.step.survives.clean) in
    let on = c.in_ok-punch.ensures.step.frame early inside in
    if_ok_then _ _ c.find_machine.result (λ machine found office s.
    let punch = c.in_ok-punch.ensures.found early inside office s in
    let rest = found office punch.0 in (
      rest.0,
      λ job is row switches.
          let kept = job_is c.args.name.customer.now c.args.name.number office job s.jobs is in
          let cells = c.row.view_is ∙ row in
          let deck = picture_deck c.runs_only_add.ensures.deck job in
          let loaded = c.deref.ensures.value ∙ ap (λ (r : LoadedCells). r.loaded) cells in
          rest.1 job is (ap (λ (r : LoadedCells). r.size) cells) (c.in_ok-media.ensures.read (picture job) (subst IsDeck (sym deck) kept.job.loaded) (loaded ∙ ap deck_bytes (sym deck)) switches (punch.1 job is)),
    )) (c.find_machine.ensures.found clean on.inside)

pub returns-in_err-punch-clause-failed : goal.returns-in_err-punch-clause-failed
returns-in_err-punch-clause-failed g c job row switches clean inside store office has is =
    c.in_err-punch.ensures.failed job clean inside (store_passed c.from_residual.result _ c.from_residual.ensures.1 store) office has is

pub returns-in_err-media-clause-failed : goal.returns-in_err-media-clause-failed
returns-in_err-media-clause-failed g c job row switches clean inside store office has is =
    failed_unless (seen g.S.Store c.args.tables.now) (seen g.S.Store c.find_punch.new.tables) (λ opened.
    let kept = job_is c.args.name.customer.now c.args.name.number office job (has opened).jobs is in
    let deck = picture_deck c.runs_only_add.ensures.deck job in
    let loaded = c.deref.ensures.value ∙ ap (λ (r : LoadedCells). r.loaded) (c.row.view_is ∙ row) in
    absurd (c.in_err-media.ensures.store (store_passed c.from_residual-in_err-media.result _ c.from_residual-in_err-media.ensures.1 store) (picture job) (subst IsDeck (sym deck) kept.job.loaded) (loaded ∙ ap deck_bytes (sym deck))))

pub returns-clause-failed : goal.returns-clause-failed
returns-clause-failed g c job row switches clean inside store office has is =
    let old = seen g.S.Store c.args.tables.now in
    let mid = seen g.S.Store c.find_punch.new.tables in
    let new = seen g.S.Store c.find_machine.new.tables in
    let early : HasCleanDisk mid = omega (arith, clean, c.find_machine.ensures.step.survives.clean) in
    let on = c.in_ok-punch.ensures.step.frame early inside in
    failed_unless old new (λ opened.
    let s = has opened in
    let punch = c.in_ok-punch.ensures.found early inside office s in
    let kept = job_is c.args.name.customer.now c.args.name.number office job s.jobs is in
    let cells = c.row.view_is ∙ row in
    let deck = picture_deck c.runs_only_add.ensures.deck job in
    let loaded = c.deref.ensures.value ∙ ap (λ (r : LoadedCells). r.loaded) cells in
    let media = c.in_ok-media.ensures.read (picture job) (subst IsDeck (sym deck) kept.job.loaded) (loaded ∙ ap deck_bytes (sym deck)) switches (punch.1 job is) in
    failed_later old mid new c.find_punch.ensures.step.survives c.find_machine.ensures.step.survives early opened
    (c.find_machine.ensures.failed job (ap (λ (r : LoadedCells). r.size) cells) media clean on.inside store office (λ still. punch.0) is))
