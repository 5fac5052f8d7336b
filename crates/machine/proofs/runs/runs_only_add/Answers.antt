use Rattle.units.proofs.InRange.{begins_take}
use Rattle.machine.specs.Run.{lines_of, after}
use Rattle.machine.proofs.Steps.{stems_after, stems_same}
use Rattle.machine.proofs.runs.runs_only_add.Goals as goal

pub returns : goal.returns
returns c = record {
  size = λ m count. (stems_after m m count (stems_same m)).size;
  deck = λ m count. (stems_after m m count (stems_same m)).deck;
  before = λ m count. (stems_after m m count (stems_same m)).before;
  switches = λ m count. (stems_after m m count (stems_same m)).switches;
  cards = λ m count. begins_take m.works.units.punch.cards (after m count).works.units.punch.cards (stems_after m m count (stems_same m)).punch.cards;
  profile = λ m count. (stems_after m m count (stems_same m)).punch.profile;
  plain = λ m count. (stems_after m m count (stems_same m)).punch.plain;
  lines = λ m count. begins_take (lines_of m) (lines_of (after m count)) (stems_after m m count (stems_same m)).lines;
}
