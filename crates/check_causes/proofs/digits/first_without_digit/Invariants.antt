use Rattle.std.proofs.Common.{◌≡◌, ◌≤◌}
use Rattle.std.specs.Prelude.{IfSome}
use Rattle.check_causes.specs.Fields.{first_without_digit}
use Rattle.check_causes.proofs.digits.first_without_digit.Given as goal

abbrev pub invariant-loop-place : goal.invariant-loop-place
invariant-loop-place g l = record {
  first : l.found ≡ first_without_digit (g.C.Core.cells l.core) l.position l.place;
  inside : IfSome l.found (λ found. found ≤ l.position);
}
