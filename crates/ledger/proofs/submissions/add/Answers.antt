use Rattle.std.proofs.Common.{length, sym, ap, ◌∙◌, arith}
use Rattle.sqlite.specs.State.{HasCleanDisk}
use Rattle.ledger_tables.specs.Steps.{seen}
use Rattle.office.specs.Kept.{Kept}
use Rattle.office.specs.declared.replies.Reply.TheVariants.{Taken}
use Rattle.office_tables.proofs.ReadingLemmas.{picture_deck}
use Rattle.ledger.proofs.Replies.{too_many, few_enough}
use Rattle.ledger.proofs.submissions.add.Goals as goal

pub returns-then-branch-clause-done : goal.returns-then-branch-clause-done
returns-then-branch-clause-done g c job it clean inside office free s =
    let found = c.in_ok-has_most_jobs.ensures.found clean inside office s in
    too_many (seen g.S.Store c.has_most_jobs.new.tables) c.args.name.customer.now c.args.name.number job office (sym found.1 ∙ c.if-branch.true) found.0

pub returns-clause-done : goal.returns-clause-done
returns-clause-done g c job it clean inside office free s =
    let mid = seen g.S.Store c.has_most_jobs.new.tables in
    let early : HasCleanDisk mid = omega (arith, c.save_new.ensures.step.survives.clean) in
    let found = c.in_ok-has_most_jobs.ensures.found early inside office s in
    let on = c.in_ok-has_most_jobs.ensures.step.frame early inside in
    let saved = c.in_ok-save_new.ensures.saved job it clean on.inside office found.0 free in
    let done = few_enough (seen g.S.Store c.save_new.new.tables) c.args.name.customer.now c.args.name.number job office (sym found.1 ∙ c.if-branch.false) saved in
    let loads = ap (λ (k : Kept). k.machine.works.units.hopper.deck) it.kept_is ∙ picture_deck c.runs_only_add.ensures.deck job in
    record { reply_is = ap Taken (c.cards_loaded.ensures ∙ ap length loads) ∙ done.reply_is; stands = done.stands }
