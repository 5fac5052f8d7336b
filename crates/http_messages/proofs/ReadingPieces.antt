-- the pieces that a loop of reads puts into a buffer
use Rattle.std.proofs.Common.{◌≡◌, ◌∙◌, ℕ, ◌+◌, ◌≤◌, List, ◌++◌, length, take, sym, ap, subst}
use Rattle.std.proofs.lemmas.List.{length-take-le, take-append-le}
use Rattle.std.proofs.Math.Seq.{take-append-add}
use Rattle.std.proofs.KnownBytes.{Consumes-trans}
use Rattle.std.specs.Io.KnownBytes.{Consumes}
use Rattle.std.specs.Prelude.{Option}
use borrow.Rule.Slice.PartMut.{post_of, put_mid}

-- the front of a buffer whose rest was read into
filled_front : (a k n : ℕ) (xs ys : List ℕ) → a ≤ length xs → n ≤ length ys
    → take (a + n) (put_mid a k xs ys) ≡ take a xs ++ take n ys
filled_front a k n xs ys le fits =
    let len : length (take a xs) ≡ a = length-take-le a xs le in
    let whole : take (length (take a xs) + n) (put_mid a k xs ys) ≡ take a xs ++ take n (ys ++ post_of a k xs)
    = take-append-add (take a xs) (ys ++ post_of a k xs) n in
    subst (λ (m : ℕ). take (m + n) (put_mid a k xs ys) ≡ take a xs ++ take n ys) len
    (whole ∙ ap (λ (zs : List ℕ). take a xs ++ zs) (take-append-le n ys (post_of a k xs) fits))

-- a read of n more bytes after the first a
pub read_more : (r s t : Option (List ℕ)) (xs ys : List ℕ) (a k n : ℕ) → a ≤ length xs → n ≤ length ys
    → Consumes r s (take a xs) → Consumes s t (take n ys) → Consumes r t (take (a + n) (put_mid a k xs ys))
read_more r s t xs ys a k n le fits p q =
    subst (Consumes r t) (sym (filled_front a k n xs ys le fits)) (Consumes-trans r s t _ _ p q)
