-- What the writes of a loop come to.
use Rattle.std.proofs.Common.{◌≡◌, ℕ, ◌+◌, ◌-◌, ◌≤◌, List, length, take, drop, sym, subst, arith}
use Rattle.std.proofs.lemmas.List.{length-drop, take_all}
use Rattle.std.proofs.Math.Seq.{take-add}
use Rattle.std.proofs.KnownBytes.{Appends-trans}
use Rattle.std.specs.Io.KnownBytes.{Appends}
use Rattle.std.specs.Prelude.{Option}

-- a write of n more bytes of the rest
pub sent_more : (a b c : Option (List ℕ)) (bs : List ℕ) (s n : ℕ) → s ≤ length bs → Appends a b (take s bs) → Appends b c (take n (take (length bs - s) (drop s bs)))
    → Appends a c (take (s + n) bs)
sent_more a b c bs s n le p q =
    let whole : take (length bs - s) (drop s bs) ≡ drop s bs = take_all _ _ (omega (arith, length-drop s bs)) in
    let more : Appends b c (take n (drop s bs)) = subst (λ (xs : List ℕ). Appends b c (take n xs)) whole q in
    subst (Appends a c) (sym (take-add s n bs)) (Appends-trans a b c _ _ p more)
