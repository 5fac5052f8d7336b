-- a buffer that begins with some bytes, and was filled after them
use Rattle.std.proofs.Common.{◌≡◌, ◌∙◌, ℕ, ◌-◌, ◌≤◌, List, [], ◌++◌, length, take, ap, arith, length-append, append-nil}
use Rattle.std.proofs.lemmas.List.{drop_all}
use Rattle.std.proofs.Math.Seq.{take-append_seam}
use Rattle.std.specs.Prelude.{Option}
use Rattle.http_messages.specs.RequestBodies.{IsFilled, IsFilledAfter}
use Rattle.http_messages.specs.declared.request_bodies.Filled.{Filled}
use Rattle.http_messages.specs.declared.request_bodies.Filled.TheVariants as filled
use borrow.Rule.Slice.PartMut.{Post-is, post_of, put_mid}

begun_and_rest : (begun rest ys : List ℕ)
    → put_mid (length begun) (length (begun ++ rest) - length begun) (begun ++ rest) ys ≡ begun ++ ys
begun_and_rest begun rest ys =
    let all : length begun ≤ length (begun ++ rest) = omega (arith, length-append begun rest) in
    let after : post_of (length begun) (length (begun ++ rest) - length begun) (begun ++ rest) ≡ [] =
    Post-is (length begun) (length (begun ++ rest)) (begun ++ rest) all ∙ drop_all (length (begun ++ rest)) (begun ++ rest) (omega arith) in
    ap (λ (zs : List ℕ). take (length begun) (begun ++ rest) ++ (ys ++ zs)) after
    ∙ ap (λ (zs : List ℕ). take (length begun) (begun ++ rest) ++ zs) (append-nil ys)
    ∙ ap (λ (zs : List ℕ). zs ++ ys) (take-append_seam begun rest)

pub filled_after : (begun rest ys : List ℕ) (old new : Option (List ℕ)) (r : Filled) → IsFilled old new ys r
    → IsFilledAfter begun old new (put_mid (length begun) (length (begun ++ rest) - length begun) (begun ++ rest) ys) r
filled_after begun rest ys old new filled.Whole h = (ys, begun_and_rest begun rest ys, h)
filled_after begun rest ys old new filled.Ended h =
    let long = ap length (begun_and_rest begun rest ys) in
    (h.0, omega (arith, h.1, long, length-append begun ys), h.2, h.3)
filled_after begun rest ys old new filled.Failed h = tt
