-- the cause of a check, behind its name
use Rattle.std.specs.Prelude.{ℕ, List, [], ◌++◌, codes, Option, Some, None}
use Rattle.check_causes.specs.Words.{cause_words}
use Rattle.check_causes.specs.declared.causes.Cause.{Cause}

-- what follows the name of a check: its cause
abbrev pub cause_shown : Option Cause → List ℕ
cause_shown None = []
cause_shown (Some cause) = codes ": " ++ cause_words cause
