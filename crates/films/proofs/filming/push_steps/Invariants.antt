use Rattle.std.proofs.Common.{◌≡◌, ◌<◌, ◌≤◌, ℕ, All, length}
use Rattle.std.specs.Prelude.{option_copied}
use Rattle.machine.specs.Run.{after, attempts}
use Rattle.films.specs.Frames.{shown_of}
use Rattle.films.specs.Steps.{change_lines, most_bytes}
use Rattle.films.proofs.filming.push_steps.Given as goal

abbrev pub invariant-loop-made : goal.invariant-loop-made
invariant-loop-made g l = record {
  machine : l.machine ≡ after l.fn.machine l.made;
  attempts : attempts l.fn.machine l.made ≡ l.made;
  lines : l.out.items ≡ change_lines (option_copied l.names) l.fn.machine l.made;
  fits : length l.out.items ≤ most_bytes;
  shown : l.shown ≡ shown_of l.machine;
  storage : g.C.Core.cells l.storage ≡ l.machine.works.storage;
  characters : (k : ℕ) → k ≤ l.made → All (λ cell. cell.0 < 64) (after l.fn.machine k).works.storage;
}
