use Rattle.std.proofs.Common.{◌≡◌, ◌*◌, ◌≤◌, ◌++◌, length, drop}
use Rattle.autocoder_layout.specs.Literals.{uses_of}
use Rattle.autocoder_layout.proofs.literals.uses.Given as goal

abbrev pub invariant-loop-i : goal.invariant-loop-i
invariant-loop-i l = record {
  uses : l.uses.items ++ uses_of (drop l.i l.source.lines) (drop l.i l.slots) ≡ uses_of l.source.lines l.slots;
  count : length l.uses.items ≤ 2 * l.i;
}
