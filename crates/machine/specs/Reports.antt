-- the report of a machine
use Rattle.std.specs.Prelude.{ℕ, List, ◌++◌, codes, decimal}
use Rattle.units.specs.Units.{made_in_all}
use Rattle.machine.specs.Run.{State}
use Rattle.machine.specs.Standings.{standing_of, standing_words}
use Rattle.machine.specs.declared.reports.Report.{Report}

-- the report of a machine: how many cards and lines it has made in all, and its standing
abbrev pub report_of : State → Report
report_of m = record {
  cards = (made_in_all m.works.units).cards;
  lines = (made_in_all m.works.units).lines;
  standing = standing_of m;
}

-- the report of a run: how many cards and lines were made, and the machine's standing
abbrev pub report_words : Report → List ℕ
report_words report =
    codes "cards " ++ decimal report.cards ++ codes " lines " ++ decimal report.lines ++ codes " "
    ++ standing_words report.standing
