use Rattle.bureau.proofs.WorkLemmas.{migrated_so}
use Rattle.bureau.proofs.AnswerLemmas.{ended_migration}
use Rattle.bureau.proofs.migrate_file.Goals as goal

pub returns : goal.returns
returns g c =
    let old = g.W.Write.contents c.args.output.now in
    let new = g.W.Write.contents c.tell_migrated-outcome.new.output in
    ended_migration c.show_outcome.result c.tell_migrated-outcome.result old new (g.E.Write.contents c.args.errors.now) (g.E.Write.contents c.show_outcome.new.errors)
    (migrated_so _ old new c.tell_migrated-outcome.result c.migrate-migrated.result c.migrate-migrated.ensures.unmigrated c.tell_migrated-outcome.ensures) c.show_outcome.ensures
