-- What holds where something differs.
use Rattle.std.proofs.Common.{Result, Ok, Err, OnErr}
use Rattle.job_checks.specs.Stops.{IfDiffers}
use Rattle.job_checks.specs.declared.differences.Stop.{Stop}

pub if_differs_any : {X : Type 0} (r : Result X Stop) (P : Type 0) → P → IfDiffers r P
if_differs_any (Ok x) P holds = tt
if_differs_any (Err stop) P holds = λ is. holds

pub if_differs_then : {X : Type 0} (r : Result X Stop) (P Q : Type 0) → (P → Q) → IfDiffers r P → IfDiffers r Q
if_differs_then (Ok x) P Q so holds = tt
if_differs_then (Err stop) P Q so holds = λ is. so (holds is)

pub on_err_then : {X E : Type 0} (r : Result X E) (P Q : Type 0) → (P → Q) → OnErr r P → OnErr r Q
on_err_then (Ok x) P Q so holds = tt
on_err_then (Err e) P Q so holds = so holds
