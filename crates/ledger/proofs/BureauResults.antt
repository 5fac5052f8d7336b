-- what is said of a result under a premise
use Rattle.std.proofs.Common.{◌≡◌, sym, ap, ◌∙◌, Result, Ok, Err, IfErr, IsErrAnd, OnOk}
use Rattle.ledger_tables.specs.declared.faults.Fault.{Fault}
use Rattle.ledger_tables.specs.declared.faults.Fault.TheVariants.{Store}

pub err_under : {X E : Type 0} (r : Result X E) (H : Type 0) (P Q : E → Type 0)
    → (H → IfErr r P) → ((e : E) → H → P e → Q e) → IfErr r (λ e. H → Q e)
err_under (Ok x) H P Q h f = tt
err_under (Err e) H P Q h f = λ it. f e it (h it)

pub ok_under : {X E : Type 0} (r : Result X E) (H P Q : Type 0)
    → (H → OnOk r P) → (H → P → Q) → OnOk r (H → Q)
ok_under (Ok x) H P Q h f = λ it. f it (h it)
ok_under (Err e) H P Q h f = tt

-- fault 2 that is returned as it came
pub store_passed : {X Y : Type 0} (r : Result X Fault) (f : Fault) → IsErrAnd r (λ y. y ≡ f) → r ≡ Err Store → ◌≡◌ {A = Result Y Fault} (Err f) (Err Store)
store_passed (Ok x) f given is = absurd given
store_passed (Err y) f given is = let same : y ≡ Store = cc in ap (λ (e : Fault). Err e) (sym given ∙ same)
