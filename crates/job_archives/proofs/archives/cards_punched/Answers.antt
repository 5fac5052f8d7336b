use Rattle.std.proofs.Common.{◌≡◌, ap, ◌∙◌, rules}
use Rattle.office.specs.Jobs.{cards_by}
use Rattle.office.specs.Stackers.{cards_from}
use Rattle.office.specs.declared.stackers.Stacker.TheVariants.{All}
use Rattle.ledger_tables.proofs.Stepping.{if_ok_then}
use Rattle.job_archives.proofs.ReadingLaw.{all_cards}
use Rattle.job_archives.proofs.archives.cards_punched.Goals as goal

pub returns : goal.returns
returns c =
    let same : c.deref.result.now ≡ cards_by c.args.run.now.job = search rules in
    if_ok_then c.cards_from.result _ _ (λ cards is. is ∙ ap (cards_from All) same ∙ all_cards (cards_by c.args.run.now.job)) c.cards_from.ensures
