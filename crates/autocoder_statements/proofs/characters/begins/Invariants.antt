use Rattle.std.proofs.Common.{◌≡◌, ◌≤◌, drop, length}
use Rattle.autocoder_statements.specs.Characters.{begins}
use Rattle.autocoder_statements.proofs.characters.begins.Given as goal

abbrev pub invariant-loop-index : goal.invariant-loop-index
invariant-loop-index l = record {
  left : begins (drop l.index l.glyphs) (drop l.index l.text) ≡ begins l.glyphs l.text;
  within : l.index ≤ length l.text;
}
