-- the statuses that refuse a request alone
use Rattle.std.proofs.Common.{◌≡◌, ℕ, List, [], ◌∷◌, Bool, true, false, Option, Some, None, inl, inr, refl, sym, subst}
use Rattle.std.specs.List.{AllByRecursion}
use Rattle.http_messages.specs.declared.routes.Path.{Path}
use Rattle.http_messages.specs.Fields.{Field}
use Rattle.http_messages.specs.Judging.{Refuses}
use Rattle.http_messages.specs.HeadTests.{first_failed, status_on, tests}
use Rattle.http_messages.specs.declared.targets.Target.{Target}
use Rattle.http_messages.specs.declared.targets.Target.TheVariants as target
use Rattle.http_messages.specs.Asking.{IsAskedBy}
use Rattle.http_messages.specs.Requests.{HasRefusingStatus, IsRefusingStatus}
use Rattle.http_messages.specs.declared.request.Request.{Request}
use Rattle.http_messages.specs.declared.request.Request.TheVariants as request

some_is : {X : Type 0} {x y : X} → Some x ≡ Some y → x ≡ y
some_is e = cc

one_failed : (ts : List (Bool × ℕ)) (status : ℕ) → AllByRecursion (λ (t : Bool × ℕ). IsRefusingStatus t.1) ts
    → first_failed ts ≡ Some status → IsRefusingStatus status
one_failed [] status all is = absurd (let e = is in cc)
one_failed ((true, s) ∷ ts) status all is = one_failed ts status all.1 is
one_failed ((false, s) ∷ ts) status all is = subst IsRefusingStatus (some_is is) all.0

tests_refuse : (path : Option Path) (method : List ℕ) (fields : List Field) (status : ℕ)
    → status_on path method fields ≡ Some status → IsRefusingStatus status
tests_refuse None method fields status is = inr (inl (sym (some_is is)))
tests_refuse (Some path) method fields status is =
    one_failed (tests path method fields) status
    (inr (inr (inl refl)), (inl refl, (inl refl, (inr (inr (inr (inl refl))), (inr (inr (inr (inr (inl refl)))), (inl refl, tt)))))) is

-- bytes are refused with one of these statuses
pub refuses_so : (input : List ℕ) (status : ℕ) → Refuses input status → IsRefusingStatus status
refuses_so input status (inl (inl bad)) = inl bad.1
refuses_so input status (inl (inr large)) = inr (inr (inr (inr (inr large.1))))
refuses_so input status (inr (h, begins, inl is)) = tests_refuse _ h.method _ status is
refuses_so input status (inr (h, begins, inr unread)) = inl unread.1

-- what is asked for is not refused
pub not_refused : (a : Target) (body : List ℕ) (r : Request) → IsAskedBy a body r → HasRefusingStatus r
not_refused (target.Submission job kind size switches) body (request.Refused status) is = absurd is
not_refused (target.Job job c) body (request.Refused status) is = absurd is
not_refused (target.Jobs customer) body (request.Refused status) is = absurd is
not_refused target.Queue body (request.Refused status) is = absurd (let e = is in cc)
not_refused a body (request.BadDeck fault) is = tt
not_refused a body (request.Asks command) is = tt
