-- what was read of a reader says of all its bytes
use Rattle.std.specs.declared.alloc.Global.{Global}
use Rattle.std.proofs.Common.{◌≡◌, ℕ, List, ◌++◌, Vec, Option, Some, None, Result, Ok, Err, IfOk, IfSome, inl, inr, sym, subst}
use Rattle.std.specs.Borrow.{Bor}
use Rattle.http_messages.specs.Judging.{IsReadOf, Judges, ReadsHead}
use Rattle.http_messages.specs.declared.targets.Target.{Target}
use Rattle.http_messages.specs.declared.head.Head.{Head}
use Rattle.http_messages.specs.declared.verdicts.Verdict.{Verdict}
use Rattle.http_messages.specs.declared.verdicts.Verdict.TheVariants as verdict
use Rattle.http_messages.specs.Requests.{IsAskedWith, IsRefusedFor, IsRefusingStatus, IsRequestOf}
use Rattle.http_messages.specs.Asking.{IsAskedBy}
use Rattle.http_messages.specs.RequestBodies.{IsBodyOf}
use Rattle.http_messages.specs.declared.request_bodies.Body.{Body}
use Rattle.http_messages.specs.declared.request_bodies.Body.TheVariants as body
use Rattle.http_messages.specs.declared.fault.RequestFault.{RequestFault}
use Rattle.http_messages.specs.declared.request.Request.{Request}
use Rattle.http_messages.specs.declared.request.Request.TheVariants as request
use Rattle.http_messages.proofs.RequestStatuses.{refuses_so}

-- the whole body of what a head asks for was read
pub asked_with : (old : Option (List ℕ)) (begun : List ℕ) (asked : Target) (count : ℕ) (b : Body) (bytes : Vec ℕ Global) (r : Request) → b ≡ body.Whole bytes
    → IfSome old (λ rest. IsBodyOf (begun ++ rest) count b) → IsAskedBy asked bytes.items r → IfSome old (λ rest. IsAskedWith asked count (begun ++ rest) r)
asked_with None begun asked count b bytes r is read asks = tt
asked_with (Some rest) begun asked count b bytes r is read asks =
    let whole = subst (IsBodyOf (begun ++ rest) count) is read in
    inl (whole.0, subst (λ (found : List ℕ). IsAskedBy asked found r) whole.1 asks)

-- the head is refused
pub refused_request : (old mid : Option (List ℕ)) (head : Head) (v : Verdict) (status : ℕ) (r : Request) → ReadsHead old mid head → v ≡ verdict.Refused status
    → ((input rest : List ℕ) → IsReadOf head input rest → Judges input rest v) → (IsRefusingStatus status → r ≡ request.Refused status)
    → IfSome old (λ input. IsRequestOf input r)
refused_request None mid head v status r reads is judged same = tt
refused_request (Some input) None head v status r reads is judged same = absurd reads
refused_request (Some input) (Some rest) head v status r reads is judged same =
    let refuses = subst (λ w. Judges input rest w) is (judged input rest reads) in
    inl (subst (IsRefusedFor input) (sym (same (refuses_so input status refuses))) refuses)

-- the head asks for something
asked_request : (old mid : Option (List ℕ)) (head : Head) (v : Verdict) (asked : Target) (count : ℕ) (begun : Bor (List ℕ)) (r : Request) → ReadsHead old mid head → v ≡ verdict.Asks asked count begun
    → ((input rest : List ℕ) → IsReadOf head input rest → Judges input rest v) → IfSome mid (λ rest. IsAskedWith asked count (begun.now ++ rest) r)
    → IfSome old (λ input. IsRequestOf input r)
asked_request None mid head v asked count begun r reads is judged with_body = tt
asked_request (Some input) None head v asked count begun r reads is judged with_body = absurd reads
asked_request (Some input) (Some rest) head v asked count begun r reads is judged with_body =
    let asks = subst (λ w. Judges input rest w) is (judged input rest reads) in
    inr (asked, count, begun.now ++ rest, asks, with_body)

pub asked_read : (old mid : Option (List ℕ)) (head : Head) (v : Verdict) (asked : Target) (count : ℕ) (begun : Bor (List ℕ)) (result : Result Request RequestFault) → ReadsHead old mid head → v ≡ verdict.Asks asked count begun
    → ((input rest : List ℕ) → IsReadOf head input rest → Judges input rest v) → IfOk result (λ r. IfSome mid (λ rest. IsAskedWith asked count (begun.now ++ rest) r))
    → IfOk result (λ r. IfSome old (λ input. IsRequestOf input r))
asked_read old mid head v asked count begun (Ok r) reads is judged with_body = asked_request old mid head v asked count begun r reads is judged with_body
asked_read old mid head v asked count begun (Err fault) reads is judged with_body = tt
