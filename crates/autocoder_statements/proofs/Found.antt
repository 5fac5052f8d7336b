-- for the laws of the crates above: what was there before something was found
use Rattle.std.proofs.Common.{◌≡◌, Bool, true, false, Option, Some, None, Result, Ok, Err, refl}
use Rattle.std.specs.Bool.{if◌then◌else◌}
use Rattle.std.specs.Prelude.{option_map}
use Rattle.autocoder_statements.specs.Statements.{◌>>=◌, or_fault}
use Rattle.autocoder_statements.specs.declared.faults.StatementFault.{StatementFault}

-- ---- options

pub some_if : {A : Type 0} (test : Bool) (x found : A) → (if test then Some x else None) ≡ Some found → (test ≡ true) × (x ≡ found)
some_if true x found e = (refl, cc)
some_if false x found e = absurd (cc)

pub mapped : {A B : Type 0} (f : A → B) (x : Option A) (found : B) → option_map f x ≡ Some found → (a : A) × (x ≡ Some a) × (f a ≡ found)
mapped f None found e = absurd (cc)
mapped f (Some a) found e = (a, refl, cc)

-- ---- results

pub bound : {A B : Type 0} (x : Result A StatementFault) (rest : A → Result B StatementFault) (found : B) → (x >>= rest) ≡ Ok found → (a : A) × (x ≡ Ok a) × (rest a ≡ Ok found)
bound (Ok a) rest found e = (a, refl, e)
bound (Err reason) rest found e = absurd (cc)

pub is_found : {A : Type 0} (reason : StatementFault) (x : Option A) (found : A) → or_fault reason x ≡ Ok found → x ≡ Some found
is_found reason None found e = absurd (cc)
is_found reason (Some a) found e = cc
