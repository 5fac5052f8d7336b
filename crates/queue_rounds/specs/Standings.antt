-- how a job stands, without the places of its texts
use Rattle.std.specs.Prelude.{string_bytes}
use Rattle.queue_rounds.specs.Answers.{Stands}
use Rattle.queue_rounds.specs.declared.standings.Standing.{Standing}

-- how a job stands that the program holds
abbrev pub stands : Standing → Stands
stands it = record {
  standing = string_bytes it.standing;
  held = it.held;
  collected = it.collected;
  granted = it.granted;
  cards = it.cards;
  lines = it.lines;
}
