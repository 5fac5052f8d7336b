-- the report of a machine as a line
use Rattle.std.specs.Prelude.{ℕ, List, [], ◌∷◌, ◌++◌}
use Rattle.cards.specs.Files.{line_feed}
use Rattle.machine.specs.Run.{State}
use Rattle.machine.specs.Reports.{report_of, report_words}

-- the report of a machine as a line
unfoldable pub report_line : State → List ℕ
report_line m = report_words (report_of m) ++ line_feed ∷ []
