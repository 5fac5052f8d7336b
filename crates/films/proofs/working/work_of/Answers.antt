use Rattle.std.proofs.Common.{◌∙◌, sym}
use Rattle.films.proofs.WorkLemmas.{has_some}
use Rattle.films.proofs.working.work_of.Goals as goal

pub work_in-requires-clause-some : goal.work_in-requires-clause-some
work_in-requires-clause-some g c =
    has_some _ _ c.in-Some-word_length.count (sym c.word_length.ensures.count ∙ c.in-Some-word_length.is)
