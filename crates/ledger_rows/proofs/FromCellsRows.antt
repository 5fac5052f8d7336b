-- rows of a table, each made from one of the things in a list
use Rattle.std.proofs.Common.{◌≡◌, ℕ, zero, suc, ◌<◌, ◌≤◌, Option, Some, List, [], ◌∷◌, ◌++◌, ◌+◌, refl, ◌∙◌, ap, arith, length, get_or, map, take}
use Rattle.std.proofs.lemmas.List.{length-map, map_push, take_more}
use Rattle.std.specs.List.{All}
use Rattle.std.proofs.lemmas.List.Elements.{All-head, All-push, All-tail}

-- things of which two that make the same row are one
abbrev pub AreTold : {X Y : Type 0} → (X → Y) → (X → Type 0) → Type 0
AreTold {X} f P = (x y : X) → P x → P y → f x ≡ f y → x ≡ y

-- rows are one list's at most
pub same_things : {X Y : Type 0} (f : X → Y) (P : X → Type 0) → AreTold f P → (xs ys : List X) → All P xs → All P ys → map f xs ≡ map f ys → xs ≡ ys
same_things f P told [] [] is_xs is_ys same = refl
same_things f P told [] (y ∷ ys) is_xs is_ys same = absurd (cc)
same_things f P told (x ∷ xs) [] is_xs is_ys same = absurd (cc)
same_things f P told (x ∷ xs) (y ∷ ys) is_xs is_ys same =
    let here : f x ≡ f y = cc in
    let behind : map f xs ≡ map f ys = cc in
    let one : x ≡ y = told x y (All-head P x xs is_xs) (All-head P y ys is_ys) here in
    let rest : xs ≡ ys = same_things f P told xs ys (All-tail P x xs is_xs) (All-tail P y ys is_ys) behind in
    ap (λ z. z ∷ xs) one ∙ ap (λ zs. y ∷ zs) rest

-- the thing that a row was made from, after those before it
pub record MadeFrom {X Y : Type 0} (f : X → Y) (P : X → Type 0) (xs : List X) (i : ℕ) (row : Y) : Type 0 where
  pub thing : X
  pub is : P thing
  pub row_is : row ≡ f thing
  pub next : take (i + 1) xs ≡ take i xs ++ thing ∷ []

module _ {X Y : Type 0} (f : X → Y) (P : X → Type 0) where
  made_at : (xs : List X) (i : ℕ) (row : Y) → All P xs → i < length xs → row ≡ get_or (map f xs) i row
      → (x : X) × P x × (row ≡ f x) × (take (suc i) xs ≡ take i xs ++ x ∷ [])
  made_at [] i row each within is = absurd (omega arith)
  made_at (x ∷ xs) zero row each within is = (x, All-head P x xs each, is, refl)
  made_at (x ∷ xs) (suc i) row each within is =
      let rest = made_at xs i row (All-tail P x xs each) (omega arith) is in
      (rest.0, rest.1, rest.2, ap (λ ys. x ∷ ys) rest.3)

  pub made_from : (rows : List Y) (i : ℕ) (row : Y) → i < length rows → row ≡ get_or rows i row
      → (xs : List X) → All P xs → rows ≡ map f xs → MadeFrom f P xs i row
  made_from rows i row within is xs each same =
      let it = made_at xs i row each (omega (arith, simp length-map at (ap length same))) (is ∙ ap (λ ys. get_or ys i row) same) in
      let on : i + 1 ≡ suc i = omega arith in
      record { thing = it.0; is = it.1; row_is = it.2; next = ap (λ n. take n xs) on ∙ it.3 }

  -- one row more was read
  pub one_more : (rows : List Y) (i : ℕ) (row : Y) (x : X) (before after : List X) → i < length rows → row ≡ get_or rows i row
      → map f before ≡ take i rows → All P before → (f x ≡ row) × P x → after ≡ before ++ x ∷ [] → (map f after ≡ take (i + 1) rows) × All P after
  one_more rows i row x before after within is same each made new =
      let last : map f before ++ f x ∷ [] ≡ take (i + 1) rows = rw (take_more rows i row within, ← is, made.0, same) in
      (ap (map f) new ∙ map_push f before x ∙ last, rw new (All-push P before x each made.1))

  -- there are no more things than rows
  pub fits : (rows : List Y) (i : ℕ) (xs : List X) → rows ≡ map f xs → length rows ≤ i → length xs ≤ i
  fits rows i xs same past = let long = ap length same ∙ length-map xs f in omega (arith, long, past)

pub some_is : {X : Type 0} {x y : X} → ◌≡◌ {A = Option X} (Some x) (Some y) → x ≡ y
some_is e = cc
