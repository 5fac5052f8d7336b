-- what came of a job that was run again
use Rattle.std.specs.Prelude.{Bool, true, false, ⊤}
use Rattle.job_checks.specs.declared.reports.Outcome.{Outcome}
use Rattle.job_checks.specs.declared.reports.Outcome.TheVariants.{AsItRan, Differs}

-- the job's rows are those that it makes
abbrev pub IsAsItRan : Outcome → Type 0
IsAsItRan (AsItRan summary) = ⊤
IsAsItRan (Differs difference) = ⊥

-- whether the job's rows are those that it makes
abbrev pub is_as_it_ran : Outcome → Bool
is_as_it_ran (AsItRan summary) = true
is_as_it_ran (Differs difference) = false
