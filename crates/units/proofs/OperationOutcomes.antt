-- facts of what an operation leaves, where there is no check
use Rattle.std.proofs.Common.{◌≡◌, Bool, true, false, Option, Some, None, IfSome, Result, Ok, Err, if◌then◌else◌, refl, subst}
use Rattle.core_store.specs.Checked.{require, find_or, and_then}
use Rattle.core_store.specs.declared.checks.Check.{Check}

-- a fact of the value where there is no check
abbrev pub Each : {T : Type 0} → (T → Type 0) → Result T Check → Type 0
Each P (Ok x) = P x
Each P (Err check) = Unit {0}

pub each_require : {T : Type 0} (P : T → Type 0) (test : Bool) (check : Check) (rest : Result T Check) → Each P rest → Each P (require test check rest)
each_require P true check rest h = h
each_require P false check rest h = tt

-- the rest where the test is known to hold
pub each_where : {T : Type 0} (P : T → Type 0) (test : Bool) (check : Check) (rest : Result T Check) → (test ≡ true → Each P rest) → Each P (require test check rest)
each_where P true check rest h = h refl
each_where P false check rest h = tt

pub each_find : {S T : Type 0} (P : T → Type 0) (found : Option S) (check : Check) (rest : S → Result T Check) → ((x : S) → Each P (rest x)) → Each P (find_or found check rest)
each_find P (Some x) check rest h = h x
each_find P None check rest h = tt

-- the rest for what was found and is known of it
pub each_found : {S T : Type 0} (Q : S → Type 0) (P : T → Type 0) (found : Option S) (check : Check) (rest : S → Result T Check) → IfSome found Q → ((x : S) → Q x → Each P (rest x)) → Each P (find_or found check rest)
each_found Q P (Some x) check rest q h = h x q
each_found Q P None check rest q h = tt

pub each_then : {S T : Type 0} (Q : S → Type 0) (P : T → Type 0) (first : Result S Check) (rest : S → Result T Check) → Each Q first → ((x : S) → Q x → Each P (rest x)) → Each P (and_then first rest)
each_then Q P (Ok x) rest q h = h x q
each_then Q P (Err check) rest q h = tt

pub each_if : {T : Type 0} (P : T → Type 0) (test : Bool) (worked : Result T Check) (same : T) → Each P worked → P same → Each P (if test then worked else Ok same)
each_if P true worked same h k = h
each_if P false worked same h k = k

pub of_ok : {T : Type 0} (P : T → Type 0) (outcome : Result T Check) (x : T) → outcome ≡ Ok x → Each P outcome → P x
of_ok P outcome x e h = subst (Each P) e h

pub some_where : {S : Type 0} (Q : S → Type 0) (test : Bool) (found : Option S) → (test ≡ true → IfSome found Q) → IfSome (if test then found else None) Q
some_where Q true found h = h refl
some_where Q false found h = tt

pub some_choice : {S : Type 0} (Q : S → Type 0) (test : Bool) (first second : Option S) → (test ≡ true → IfSome first Q) → (test ≡ false → IfSome second Q) → IfSome (if test then first else second) Q
some_choice Q true first second h k = h refl
some_choice Q false first second h k = k refl
