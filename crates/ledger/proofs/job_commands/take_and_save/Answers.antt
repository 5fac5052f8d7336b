use Rattle.std.proofs.Common.{◌∙◌, ap, length, sym}
use Rattle.ledger_tables.specs.Steps.{seen}
use Rattle.office.specs.Jobs.{picture}
use Rattle.office.specs.Kept.{Kept, kept_of, take_kept, drive_command}
use Rattle.ledger.specs.Saving.{IsEarlier}
use Rattle.ledger.proofs.EarlierLemmas.{same_reply, is_after, same_size}
use Rattle.ledger.proofs.Offices.{job_is}
use Rattle.ledger.proofs.Replies.{let_through, command_refused, command_done}
use Rattle.ledger.proofs.job_commands.take_and_save.Goals as goal

pub returns-in-Refused-clause-done : goal.returns-in-Refused-clause-done
returns-in-Refused-clause-done g c old alone clean inside office is s =
    let command = drive_command c.args.drive in
    let told = c.in_ok-reply.ensures.reply ∙ ap (λ (k : Kept). (take_kept command k).1) alone ∙ same_reply old c.args.drive in
    command_refused (seen g.S.Store c.args.tables.now) c.args.name.customer.now c.args.name.number command c.in-Refused.reason office old is (sym c.in-Refused.is ∙ told) s

pub returns-in_ok-save-in_default-clause-done : goal.returns-in_ok-save-in_default-clause-done
returns-in_ok-save-in_default-clause-done g c old alone clean inside office is s =
    let command = drive_command c.args.drive in
    let told = c.in_ok-reply.ensures.reply ∙ ap (λ (k : Kept). (take_kept command k).1) alone ∙ same_reply old c.args.drive in
    let none = let_through command (kept_of old) c.in_ok-reply.reply told (λ reason e. c.in_default.not-Refused reason e) in
    let made = c.in_ok-reply.ensures.job ∙ ap (λ (k : Kept). (take_kept command k).0) alone in
    let it = job_is c.args.name.customer.now c.args.name.number office old s.jobs is in
    let earlier : IsEarlier c.args.earlier.now (picture old) = record { storage = c.requires.storage ∙ ap (λ (k : Kept). k.machine.works.storage) alone; chosen = c.requires.chosen ∙ ap (λ (k : Kept). k.machine.works.units.punch.chosen) alone } in
    let after = is_after old c.commands_act_on_pictures.ensures c.commands_keep_jobs.ensures.kept c.args.name c.args.drive c.drive.new.self office is it.job made none in
    command_done (seen g.S.Store c.save.new.tables) c.args.name.customer.now c.args.name.number command c.in_ok-reply.reply office old is told none (c.in_ok-save-in_default.ensures.saved old clean inside office s (record { after = after; earlier_is = earlier }))

pub save-requires : goal.save-requires
save-requires g c =
    ap length c.requires.storage ∙ sym (ap (λ (k : Kept). length k.machine.works.storage) c.in_ok-reply.ensures.job ∙ same_size c.runs_only_add.ensures.size c.args.drive c.args.job.now)
