use Rattle.std.proofs.Common.{◌≡◌, true}
use Rattle.core_store.specs.Storage.{codes_ending}
use Rattle.arith.specs.Decimal.{is_number}
use Rattle.arith.proofs.decimal.is_number.Given as goal

abbrev pub invariant-loop-i : goal.invariant-loop-i
invariant-loop-i g l = is_number (codes_ending (g.C.Core.cells l.core) l.position l.i) ≡ true
