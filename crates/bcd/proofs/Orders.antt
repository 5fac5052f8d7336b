-- a list of anything in order
use Rattle.std.proofs.Common.{◌≡◌, ◌⊎◌, inl, inr, ◌<◌, ℕ, zero, suc, List, [], ◌∷◌, length, map, filter, get_or, Contains, Bool, true, false, cond, Ordering, Less, Equal, Greater, refl, sym, ap, subst, ◌∙◌, true≢false, arith}
use Rattle.std.specs.List.{AllByRecursion}
use Rattle.std.specs.Ordering.{is_eq, is_gt, ordering_reverse}
use Rattle.std.specs.Cmp.{IsTotalOrder}
use Rattle.std.specs.List.Sorted.{IsPermutation, IsStrictlySortedBy}
use Rattle.std.proofs.lemmas.List.Sorted.{IsPermutation-refl, IsPermutation-sym, IsPermutation-cons, IsPermutation-trans, IsPermutation-middle}
use Rattle.bcd.specs.Orders.{put_among, in_order}

-- no two of a list tie
abbrev pub AreApart : {X : Type 0} → (X → X → Ordering) → List X → Type 0
AreApart cmp [] = Unit {0}
AreApart cmp (x ∷ xs) = AllByRecursion (λ y. is_eq (cmp x y) ≡ false) xs × AreApart cmp xs

pub all_weaker : {X : Type 0} (P Q : X → Type 0) → ((x : X) → P x → Q x) → (xs : List X) → AllByRecursion P xs → AllByRecursion Q xs
all_weaker P Q f [] all = tt
all_weaker P Q f (x ∷ xs) all = (f x all.0, all_weaker P Q f xs all.1)

module _ {X : Type 0} (cmp : X → X → Ordering) where
  put_has : (new : X) (xs : List X) → IsPermutation (put_among cmp new xs) (new ∷ xs)
  put_has new [] = IsPermutation-refl (new ∷ [])
  put_has new (x ∷ xs) =
      elim (is_gt (cmp new x)) as (λ b. IsPermutation (cond b (x ∷ put_among cmp new xs) (new ∷ x ∷ xs)) (new ∷ x ∷ xs)) [
        | true ↦ IsPermutation-trans _ _ _ (IsPermutation-cons x _ _ (put_has new xs)) (IsPermutation-middle (x ∷ []) new xs)
        | false ↦ IsPermutation-refl _
      ]

  ordered_has : (xs : List X) → IsPermutation (in_order cmp xs) xs
  ordered_has [] = IsPermutation-refl []
  ordered_has (x ∷ xs) = IsPermutation-trans _ _ _ (put_has x _) (IsPermutation-cons x _ _ (ordered_has xs))

  -- it has the same things
  pub in_order_has : (xs : List X) → IsPermutation xs (in_order cmp xs)
  in_order_has xs = IsPermutation-sym (in_order cmp xs) xs (ordered_has xs)

  pub all_put : (P : X → Type 0) (new : X) (xs : List X) → P new → AllByRecursion P xs → AllByRecursion P (put_among cmp new xs)
  all_put P new [] h all = (h, tt)
  all_put P new (x ∷ xs) h all =
      elim (is_gt (cmp new x)) as (λ b. AllByRecursion P (cond b (x ∷ put_among cmp new xs) (new ∷ x ∷ xs))) [ true ↦ (all.0, all_put P new xs h all.1) | false ↦ (h, all) ]

  pub all_ordered : (P : X → Type 0) (xs : List X) → AllByRecursion P xs → AllByRecursion P (in_order cmp xs)
  all_ordered P [] all = tt
  all_ordered P (x ∷ xs) all = all_put P x _ all.0 (all_ordered P xs all.1)

module _ {X : Type 0} (cmp : X → X → Ordering) (total : IsTotalOrder cmp) where
  rises_put : (new : X) (xs : List X) → AllByRecursion (λ y. is_eq (cmp new y) ≡ false) xs → IsStrictlySortedBy cmp xs → IsStrictlySortedBy cmp (put_among cmp new xs)
  unfolding IsStrictlySortedBy
  rises_put new [] apart up = (tt, tt)
  rises_put new (x ∷ xs) apart up = go (cmp new x) refl (rises_put new xs apart.1 up.1)
    where
      go : (o : Ordering) → cmp new x ≡ o → IsStrictlySortedBy cmp (put_among cmp new xs) → IsStrictlySortedBy cmp (cond (is_gt o) (x ∷ put_among cmp new xs) (new ∷ x ∷ xs))
      go Less e more = ((e, all_weaker _ (λ y. cmp new y ≡ Less) (λ y. total.trans new x y e) xs up.0), up)
      go Equal e more = absurd (true≢false (sym (ap is_eq e) ∙ apart.0))
      go Greater e more = (all_put cmp _ new xs (total.antisymm x new ∙ ap ordering_reverse e) up.0, more)

  -- where nothing ties, each is below those after it
  pub in_order_rises : (xs : List X) → AreApart cmp xs → IsStrictlySortedBy cmp (in_order cmp xs)
  unfolding IsStrictlySortedBy
  in_order_rises [] apart = tt
  in_order_rises (x ∷ xs) apart = rises_put x _ (all_ordered cmp _ xs apart.0) (in_order_rises xs apart.1)

-- ---- the things of a list

module _ {X : Type 0} where
  first : (x : X) (xs : List X) → Contains (x ∷ xs) x
  first x xs = (0, omega arith, refl)

  later : (x y : X) (xs : List X) → Contains xs y → Contains (x ∷ xs) y
  later x y xs h = (suc h.0, omega (arith, h.1), h.2)

  first_or_later : (x y : X) (xs : List X) → Contains (x ∷ xs) y → (y ≡ x) ⊎ Contains xs y
  first_or_later x y xs h = go h.0 h.1 h.2
    where
      go : (k : ℕ) → k < length (x ∷ xs) → get_or (x ∷ xs) k y ≡ y → (y ≡ x) ⊎ Contains xs y
      go zero less is = inl (sym is)
      go (suc k) less is = inr (k, omega (arith, less), is)

  has_it : (P : X → Type 0) (xs : List X) (y : X) → AllByRecursion P xs → Contains xs y → P y
  has_it P [] y all h = absurd (omega (arith, h.1))
  has_it P (x ∷ xs) y all h = go (first_or_later x y xs h) (has_it P xs y all.1)
    where
      go : (y ≡ x) ⊎ Contains xs y → (Contains xs y → P y) → P y
      go (inl same) rest = subst P (sym same) all.0
      go (inr there) rest = rest there

  all_kept : (P : X → Type 0) (p : X → Bool) (xs : List X) → AllByRecursion P xs → AllByRecursion P (filter p xs)
  all_kept P p [] all = tt
  all_kept P p (x ∷ xs) all = go (p x) (all_kept P p xs all.1)
    where
      go : (b : Bool) → AllByRecursion P (filter p xs) → AllByRecursion P (cond b (x ∷ filter p xs) (filter p xs))
      go true rest = (all.0, rest)
      go false rest = rest

  -- those that pass are apart where all are
  pub apart_kept : (cmp : X → X → Ordering) (p : X → Bool) (xs : List X) → AreApart cmp xs → AreApart cmp (filter p xs)
  apart_kept cmp p [] apart = tt
  apart_kept cmp p (x ∷ xs) apart = go (p x) (apart_kept cmp p xs apart.1)
    where
      go : (b : Bool) → AreApart cmp (filter p xs) → AreApart cmp (cond b (x ∷ filter p xs) (filter p xs))
      go true rest = (all_kept (λ y. is_eq (cmp x y) ≡ false) p xs apart.0, rest)
      go false rest = rest

pub all_map : {X Y : Type 0} (P : Y → Type 0) (f : X → Y) (xs : List X) → AllByRecursion (λ x. P (f x)) xs → AllByRecursion P (map f xs)
all_map P f [] all = tt
all_map P f (x ∷ xs) all = (all.0, all_map P f xs all.1)

-- what is told of things that rise by it rises
pub rises_map : {X Y : Type 0} (cmp : Y → Y → Ordering) (f : X → Y) (xs : List X) → IsStrictlySortedBy (λ a b. cmp (f a) (f b)) xs → IsStrictlySortedBy cmp (map f xs)
unfolding IsStrictlySortedBy
rises_map cmp f [] up = tt
rises_map cmp f (x ∷ xs) up = (all_map (λ y. cmp (f x) y ≡ Less) f xs up.0, rises_map cmp f xs up.1)

module _ {X : Type 0} (cmp : X → X → Ordering) (total : IsTotalOrder cmp) where
  not_both : (x y : X) → cmp x y ≡ Less → cmp y x ≡ Less → ⊥
  not_both x y one two = let turned : ◌≡◌ {A = Ordering} Less Greater = sym one ∙ total.antisymm x y ∙ ap ordering_reverse two in cc

  -- two lists that rise and have the same things are one
  pub rises_once : (xs ys : List X) → IsStrictlySortedBy cmp xs → IsStrictlySortedBy cmp ys → ((z : X) → Contains xs z → Contains ys z) → ((z : X) → Contains ys z → Contains xs z) → xs ≡ ys
  unfolding IsStrictlySortedBy
  rises_once [] [] up over to fro = refl
  rises_once [] (y ∷ ys) up over to fro = absurd (let h = fro y (first y ys) in omega (arith, h.1))
  rises_once (x ∷ xs) [] up over to fro = absurd (let h = to x (first x xs) in omega (arith, h.1))
  rises_once (x ∷ xs) (y ∷ ys) up over to fro =
      let one : x ≡ y = heads (first_or_later y x ys (to x (first x xs))) (first_or_later x y xs (fro y (first y ys))) in
      let rest = rises_once xs ys up.1 over.1
      (λ z h. there one z h (first_or_later y z ys (to z (later x z xs h))))
      (λ z h. back one z h (first_or_later x z xs (fro z (later y z ys h)))) in
      ap (λ z. z ∷ xs) one ∙ ap (λ zs. y ∷ zs) rest
    where
      heads : (x ≡ y) ⊎ Contains ys x → (y ≡ x) ⊎ Contains xs y → x ≡ y
      heads (inl same) other = same
      heads (inr h) (inl same) = sym same
      heads (inr h) (inr k) = absurd (not_both y x (has_it (λ z. cmp y z ≡ Less) ys x over.0 h) (has_it (λ z. cmp x z ≡ Less) xs y up.0 k))

      there : x ≡ y → (z : X) → Contains xs z → (z ≡ y) ⊎ Contains ys z → Contains ys z
      there one z h (inl same) =
          let below : cmp x x ≡ Less = subst (λ w. cmp x w ≡ Less) (same ∙ sym one) (has_it (λ w. cmp x w ≡ Less) xs z up.0 h) in
          absurd (not_both x x below below)
      there one z h (inr k) = k

      back : x ≡ y → (z : X) → Contains ys z → (z ≡ x) ⊎ Contains xs z → Contains xs z
      back one z h (inl same) =
          let below : cmp y y ≡ Less = subst (λ w. cmp y w ≡ Less) (same ∙ one) (has_it (λ w. cmp y w ≡ Less) ys z over.0 h) in
          absurd (not_both y y below below)
      back one z h (inr k) = k

  -- ---- those that pass, in order

  put_first : (new : X) (xs : List X) → AllByRecursion (λ y. is_gt (cmp new y) ≡ false) xs → put_among cmp new xs ≡ new ∷ xs
  put_first new [] all = refl
  put_first new (x ∷ xs) all = rw all.0

  put_out : (p : X → Bool) (new : X) (xs : List X) → p new ≡ false → filter p (put_among cmp new xs) ≡ filter p xs
  put_out p new [] fails = rw fails
  put_out p new (x ∷ xs) fails = go (is_gt (cmp new x)) (put_out p new xs fails)
    where
      go : (b : Bool) → filter p (put_among cmp new xs) ≡ filter p xs → filter p (cond b (x ∷ put_among cmp new xs) (new ∷ x ∷ xs)) ≡ filter p (x ∷ xs)
      go true rest = elim (p x) as (λ b. cond b (x ∷ filter p (put_among cmp new xs)) (filter p (put_among cmp new xs)) ≡ cond b (x ∷ filter p xs) (filter p xs)) [ true ↦ ap (λ zs. x ∷ zs) rest | false ↦ rest ]
      go false rest = rw fails

  put_in : (p : X → Bool) (new : X) (xs : List X) → p new ≡ true → IsStrictlySortedBy cmp xs → filter p (put_among cmp new xs) ≡ put_among cmp new (filter p xs)
  unfolding IsStrictlySortedBy
  put_in p new [] passes up = rw passes
  put_in p new (x ∷ xs) passes up = go (is_gt (cmp new x)) refl (p x) refl (put_in p new xs passes up.1)
    where
      below : (o : Ordering) → cmp new x ≡ o → is_gt o ≡ false → (z : X) → cmp x z ≡ Less → is_gt (cmp new z) ≡ false
      below Less e under z h = ap is_gt (total.trans new x z e h)
      below Equal e under z h = ap is_gt (total.congr new x z e ∙ h)
      below Greater e under z h = absurd (true≢false under)

      go : (b : Bool) → is_gt (cmp new x) ≡ b → (d : Bool) → p x ≡ d → filter p (put_among cmp new xs) ≡ put_among cmp new (filter p xs) → filter p (cond b (x ∷ put_among cmp new xs) (new ∷ x ∷ xs)) ≡ put_among cmp new (filter p (x ∷ xs))
      go true over true this rest = rw (this, over) (ap (λ zs. x ∷ zs) rest)
      go true over false this rest = rw this rest
      go false under true this rest = rw (passes, this, under)
      go false under false this rest =
          let all = all_kept (λ y. is_gt (cmp new y) ≡ false) p xs (all_weaker _ (λ y. is_gt (cmp new y) ≡ false) (below (cmp new x) refl under) xs up.0) in
          rw (passes, this) (sym (put_first new (filter p xs) all))

  -- those that pass of things in order are those that pass, in order
  pub filter_in_order : (p : X → Bool) (xs : List X) → AreApart cmp xs → filter p (in_order cmp xs) ≡ in_order cmp (filter p xs)
  filter_in_order p [] apart = refl
  filter_in_order p (x ∷ xs) apart = go (p x) refl (filter_in_order p xs apart.1)
    where
      go : (b : Bool) → p x ≡ b → filter p (in_order cmp xs) ≡ in_order cmp (filter p xs) → filter p (put_among cmp x (in_order cmp xs)) ≡ in_order cmp (cond b (x ∷ filter p xs) (filter p xs))
      go true this rest = put_in p x (in_order cmp xs) this (in_order_rises cmp total xs apart.1) ∙ ap (put_among cmp x) rest
      go false this rest = put_out p x (in_order cmp xs) this ∙ rest
