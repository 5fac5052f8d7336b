use Rattle.std.proofs.Common.{◌≡◌, ◌++◌, ◌<◌, ℕ, drop, take, false, length, get_or}
use Rattle.autocoder_layout.specs.Source.{lines_of, IsInRange, silent}
use Rattle.autocoder_layout.proofs.source.read_lines.Given as goal

abbrev pub invariant-loop-index : goal.invariant-loop-index
invariant-loop-index l = record {
  lines : take l.index l.lines ++ lines_of l.has_size (drop l.index l.cards) ≡ lines_of false l.cards;
  range : (k : ℕ) → k < l.index → IsInRange (get_or l.lines k silent);
  size : length l.lines ≡ length l.cards;
}
