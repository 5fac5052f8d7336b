use Rattle.std.proofs.Common.{◌≡◌, ◌+◌, ◌*◌, ◌≤◌, ◌++◌, drop}
use Rattle.autocoder.specs.Listing.{literal_lines}
use Rattle.autocoder.proofs.listings.push_literals.Given as goal

abbrev pub invariant-loop-literal : goal.invariant-loop-literal
invariant-loop-literal l = record {
  text : l.text.items ++ literal_lines l.here (drop l.literal-index l.literals) ≡ l.fn.text.items ++ literal_lines l.fn.place l.literals;
  limit : l.here ≤ l.fn.place + 52 * l.literal-index;
}
