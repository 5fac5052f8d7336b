-- for the clauses `range` of `reading`: what takes a whole field is what was read
use Rattle.std.proofs.Common.{ℕ, Bool, true, false, List, drop, Option, Some, None, IfSome, if◌then◌else◌}
use Rattle.autocoder_statements.specs.Characters.{is_ended}
use Rattle.autocoder_statements.specs.Statements.{whole}

if_ended : {A : Type 0} (P : A → Type 0) (ended : Bool) (x : A) → P x → IfSome (if ended then Some x else None) P
if_ended P true x h = h
if_ended P false x h = tt

pub whole_keeps : {A : Type 0} (P : A → Type 0) (field : List ℕ) (found : Option (A × ℕ)) → IfSome found (λ f. P f.0) → IfSome (whole field found) P
unfolding whole
whole_keeps P field None h = tt
whole_keeps P field (Some f) h = if_ended P (is_ended (drop f.1 field)) f.0 h
