use Rattle.source_reports.proofs.BlankLaw.{caret_behind_blank}
use Rattle.source_reports.proofs.laws.carets_stand_behind_a_blank.Goals as goal

pub returns : goal.returns
returns c = caret_behind_blank
