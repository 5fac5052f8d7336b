use Rattle.std.proofs.Common.{◌≡◌, ◌+◌, ◌*◌, ◌≤◌, drop}
use Rattle.autocoder_layout.specs.Literals.{literal_end}
use Rattle.autocoder_layout.proofs.literals.literal_end.Given as goal

abbrev pub invariant-loop-literal : goal.invariant-loop-literal
invariant-loop-literal l = record {
  end : literal_end l.here (drop l.literal-index l.literals) l.wanted ≡ literal_end l.fn.place l.literals l.wanted;
  limit : l.here ≤ l.fn.place + 52 * l.literal-index;
}
