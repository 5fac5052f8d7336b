use Rattle.std.proofs.Common.{◌≡◌, ◌≤◌, ◌++◌, [], length, take, drop}
use Rattle.autocoder_layout.specs.Literals.{Characters, is_used, firsts}
use Rattle.autocoder_layout.proofs.literals.firsts.Given as goal

abbrev pub invariant-loop-i : goal.invariant-loop-i
invariant-loop-i l = record {
  list : l.literals.items ++ firsts (take l.i l.uses) (drop l.i l.uses) ≡ firsts [] l.uses;
  used : (other : Characters) → is_used l.literals.items other ≡ is_used (take l.i l.uses) other;
  count : length l.literals.items ≤ l.i;
}
