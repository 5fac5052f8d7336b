use Rattle.bureau_laws.proofs.LaterRoundLaw.{replied_again, kept_later, given_later}
use Rattle.bureau_laws.proofs.later_rounds.repeats_in_later_rounds.Goals as goal

pub returns : goal.returns
returns c = record {
  replied = replied_again c.submissions_repeat.ensures;
  kept = kept_later c.submissions_repeat.ensures;
  given = given_later c.submissions_repeat.ensures;
}
