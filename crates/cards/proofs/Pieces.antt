-- lists of pieces that are told apart by what they begin with
use Rattle.std.proofs.Common.{◌≡◌, ℕ, ◌<◌, ◌≤◌, List, [], ◌∷◌, ◌++◌, refl, sym, ◌∙◌, ap, arith, length, append_assoc, append-nil}
use Rattle.std.specs.List.{flat_map, All}
use Rattle.std.proofs.lemmas.List.{nil_from_length, length-append}
use Rattle.std.proofs.lemmas.List.Elements.{All-head, All-tail}

-- two of these pieces that begin the same bytes are one
abbrev pub AreApart : {X : Type 0} → (X → List ℕ) → (X → Type 0) → Type 0
AreApart {X} f P = (x y : X) (r s : List ℕ) → P x → P y → f x ++ r ≡ f y ++ s → (x ≡ y) × (r ≡ s)

-- the second list goes on behind the first, whose bytes go on as it does
pub record GoesOn {X : Type 0} (f : X → List ℕ) (P : X → Type 0) (xs ys : List X) (r s : List ℕ) : Type 0 where
  pub more : List X
  pub each : All P more
  pub list : ys ≡ xs ++ more
  pub bytes : r ≡ flat_map f more ++ s

pub goes_on : {X : Type 0} (f : X → List ℕ) (P : X → Type 0) → AreApart f P → (xs ys : List X) (r s : List ℕ) →
    All P xs → All P ys → length xs ≤ length ys → flat_map f xs ++ r ≡ flat_map f ys ++ s → GoesOn f P xs ys r s
goes_on f P apart [] ys r s each_x each_y le same = record { more = ys; each = each_y; list = refl; bytes = same }
goes_on f P apart (x ∷ xs) [] r s each_x each_y le same = absurd (omega arith)
goes_on f P apart (x ∷ xs) (y ∷ ys) r s each_x each_y le same =
    let both = apart x y (flat_map f xs ++ r) (flat_map f ys ++ s) (All-head P x xs each_x) (All-head P y ys each_y)
    (sym (append_assoc (f x) (flat_map f xs) r) ∙ same ∙ append_assoc (f y) (flat_map f ys) s) in
    let behind = goes_on f P apart xs ys r s (All-tail P x xs each_x) (All-tail P y ys each_y) (omega arith) both.1 in
    record {
      more = behind.more;
      each = behind.each;
      list = ap (λ z. z ∷ ys) (sym both.0) ∙ ap (λ zs. x ∷ zs) behind.list;
      bytes = behind.bytes;
    }

-- as many pieces that begin the same bytes are the same
pub same_pieces : {X : Type 0} (f : X → List ℕ) (P : X → Type 0) → AreApart f P → (xs ys : List X) (r s : List ℕ) →
    All P xs → All P ys → length xs ≡ length ys → flat_map f xs ++ r ≡ flat_map f ys ++ s → (xs ≡ ys) × (r ≡ s)
same_pieces f P apart xs ys r s each_x each_y len same =
    let behind = goes_on f P apart xs ys r s each_x each_y (omega arith) same in
    let none : behind.more ≡ [] = nil_from_length behind.more (omega (arith, ap length behind.list, length-append xs behind.more)) in
    (sym (behind.list ∙ rw (none, append-nil) refl), behind.bytes ∙ rw none refl)

-- the bytes begin with a piece
pub record Next {X : Type 0} (f : X → List ℕ) (P : X → Type 0) (r : List ℕ) : Type 0 where
  pub piece : X
  pub is : P piece
  pub after : List ℕ
  pub begins : r ≡ f piece ++ after

next_from : {X : Type 0} (f : X → List ℕ) (P : X → Type 0) (more : List X) (r s : List ℕ) → All P more → r ≡ flat_map f more ++ s →
    0 < length more → Next f P r
next_from f P [] r s each bytes some = absurd (omega arith)
next_from f P (x ∷ more) r s each bytes some = record {
  piece = x;
  is = All-head P x more each;
  after = flat_map f more ++ s;
  begins = bytes ∙ append_assoc (f x) (flat_map f more) s;
}

-- behind fewer pieces the next of the others begins
pub next_of : {X : Type 0} (f : X → List ℕ) (P : X → Type 0) (xs ys : List X) (r s : List ℕ) → GoesOn f P xs ys r s →
    length xs < length ys → Next f P r
next_of f P xs ys r s behind fewer =
    next_from f P behind.more r s behind.each behind.bytes (omega (arith, ap length behind.list, length-append xs behind.more))
