-- which bytes may be refused with both 400 and 431
use Rattle.std.proofs.Common.{◌≡◌, ◌∙◌, ◌⊎◌, ◌↔◌, ℕ, ◌-◌, ◌+◌, ◌≤◌, List, [], ◌++◌, length, take, sym, ap, subst, refl, arith, append_assoc, inl, inr}
use Rattle.std.proofs.Math.Seq.{take-append-add}
use Rattle.httparse.specs.Grammar.{HasNoRequest, ReadsRequest, RequestHead}
use Rattle.http_messages.specs.Judging.{EndsEarly, IsNoHead, IsTooLong, Refuses}
use Rattle.bureau_laws.specs.Statuses.{EndsInBadTarget, HasFurtherFault}
use Rattle.bureau_laws.proofs.HeadLaw.{one_of_head}

-- what begins as no head does goes on so within as many bytes as a head may have
front_in : (input front rest : List ℕ) → input ≡ front ++ rest → length front ≤ 8192
    → (more : List ℕ) × (take 8192 input ≡ front ++ more)
front_in input front rest same short =
    let left = 8192 - length front in
    let parts : 8192 ≡ length front + left = omega (arith, short) in
    (take left rest, ap (take 8192) same ∙ ap (λ (n : ℕ). take n (front ++ rest)) parts ∙ take-append-add front rest left)

none_in : (input : List ℕ) → IsNoHead input → HasNoRequest (take 8192 input)
none_in input (front, rest, same, short, never) h after reads =
    let more = front_in input front rest same short in
    never more.0 h after (subst (λ (i : List ℕ). ReadsRequest i h after) more.1 reads)

-- no head begins so, and so none can go on from there
never_becomes : (input : List ℕ) → IsNoHead input → (more : List ℕ) (h : RequestHead) → ReadsRequest (take 8192 input ++ more) h [] → ⊥
never_becomes input (front, rest, same, short, never) more h reads =
    let begun = front_in input front rest same short in
    let whole = ap (λ (b : List ℕ). b ++ more) begun.1 ∙ append_assoc front begun.0 more in
    never (begun.0 ++ more) h [] (subst (λ (i : List ℕ). ReadsRequest i h []) whole reads)

long_too : (input : List ℕ) → IsNoHead input ⊎ EndsEarly input → IsTooLong input → EndsInBadTarget input
long_too input (inl none) (long, none_yet, inl (more, h, reads)) = absurd (never_becomes input none more h reads)
long_too input (inl none) (long, none_yet, inr ends) = (long, ends, none)
long_too input (inr early) (long, none_yet, may) = absurd (omega (arith, early.1, long))

not_same : {X : Type 0} (one other : ℕ) → one ≡ 400 → other ≡ 431 → one ≡ other → X
not_same one other first second same = absurd (omega (arith, first, second, same))

both : (input : List ℕ) → Refuses input 400 → Refuses input 431 → HasFurtherFault input ⊎ EndsInBadTarget input
both input (inl (inl (bad, is))) (inl (inr (inl many, so))) = inl (many, bad)
both input (inl (inl (bad, is))) (inl (inr (inr long, so))) = inr (long_too input bad long)
both input (inl (inl (bad, is))) (inl (inl (worse, so))) = not_same 400 431 refl refl (sym so)
both input (inl (inr (large, is))) other = not_same 400 431 refl refl is
both input (inl (inl (bad, is))) (inr (h, begins, refused)) =
    not_same 400 431 refl refl (one_of_head input h begins.rest 400 431 begins.reads (inl (inl (bad, is))) (inr (h, begins, refused)))
both input (inr (h, begins, refused)) other =
    not_same 400 431 refl refl (one_of_head input h begins.rest 400 431 begins.reads (inr (h, begins, refused)) other)

either : (input : List ℕ) → HasFurtherFault input ⊎ EndsInBadTarget input → Refuses input 400 × Refuses input 431
either input (inl (many, bad)) = (inl (inl (bad, refl)), inl (inr (inl many, refl)))
either input (inr (long, ends, none)) =
    (inl (inl (inl none, refl)), inl (inr (inr (long, none_in input none, inr ends), refl)))

pub both_statuses : (input : List ℕ) → (Refuses input 400 × Refuses input 431) ↔ (HasFurtherFault input ⊎ EndsInBadTarget input)
both_statuses input = ((λ is. both input is.0 is.1), either input)
