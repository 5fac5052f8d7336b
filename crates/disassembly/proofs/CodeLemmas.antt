-- for `comparing`: an image put into a storage, and two storages beside each other
use Rattle.std.proofs.Common.{◌≡◌, ℕ, zero, suc, ◌+◌, ◌<◌, ◌≤◌, Bool, true, false, List, [], ◌∷◌, length, drop, set, get_or, nat_lt, refl, sym, ◌∙◌, ap, subst, arith, add-one, drop-cons, length-set}
use Rattle.std.proofs.lemmas.Bool.{ltb-true}
use Rattle.std.proofs.lemmas.Bool.Decides.{nat_tests}
use Rattle.std.proofs.lemmas.List.{get_or-set_same}
use Rattle.core_store.specs.Storage.{Storage, cell_at, put, with_mark}
use Rattle.autocoder_layout.specs.declared.cells.Cell.{Cell}
use Rattle.loader.specs.Loading.{filled_with}

-- ---- an image in a storage

set_twice : {X : Type 0} (xs : List X) (p : ℕ) (x y : X) → set (set xs p x) p y ≡ set xs p y
set_twice [] p x y = refl
set_twice (first ∷ xs) zero x y = refl
set_twice (first ∷ xs) (suc p) x y = ap (λ rest. first ∷ rest) (set_twice xs p x y)

-- a character and then its mark are a cell
pub cell_set : (s : Storage) (p code : ℕ) (marked : Bool) → p < length s → with_mark (put s p code) p marked ≡ set s p (code, marked)
cell_set s p code marked within =
    let cell : ℕ × Bool = (code, (get_or s p (0, false)).1) in
    ap (λ (c : ℕ × Bool). set (set s p cell) p (c.0, marked)) (get_or-set_same s p cell (0, false) within)
    ∙ set_twice s p cell (code, marked)

-- a storage of this size, and what it becomes with the rest of an image
pub record IsFilling (size : ℕ) (image : List Cell) (whole s : Storage) (i : ℕ) : Type 0 where
  pub long : length s ≡ size
  pub rest : filled_with s (drop i image) ≡ whole

pub filled_more : (size : ℕ) (image : List Cell) (whole s new : Storage) (i : ℕ) (c : Cell) → i < length image → c ≡ get_or image i c → new ≡ set s c.position (c.code, c.marked)
    → IsFilling size image whole s i → IsFilling size image whole new (i + 1)
unfolding filled_with
filled_more size image whole s new i c inside e made before = record {
  long = ap length made ∙ length-set s c.position (c.code, c.marked) ∙ before.long;
  rest = ap (λ t. filled_with t (drop (i + 1) image)) made
      ∙ ap (λ n. filled_with (set s c.position (c.code, c.marked)) (drop n image)) (add-one i)
      ∙ ap (λ (x : Cell). filled_with (set s x.position (x.code, x.marked)) (drop (suc i) image)) e
      ∙ sym (ap (filled_with s) (drop-cons image i c inside))
      ∙ before.rest;
}

pub filled_all : (size : ℕ) (image : List Cell) (whole s : Storage) (i : ℕ) → length image ≤ i → IsFilling size image whole s i → s ≡ whole
unfolding filled_with
filled_all size image whole s i past before = sym (ap (filled_with s) (drop_past image i past)) ∙ before.rest
  where
    drop_past : (xs : List Cell) (n : ℕ) → length xs ≤ n → drop n xs ≡ []
    drop_past [] zero h = refl
    drop_past [] (suc n) h = refl
    drop_past (x ∷ xs) zero h = absurd (omega arith)
    drop_past (x ∷ xs) (suc n) h = drop_past xs n (omega arith)

-- ---- two storages

abbrev pub AreSameBelow : Storage → Storage → ℕ → Type 0
AreSameBelow s other n = (p : ℕ) → 81 ≤ p → p < n → cell_at other p ≡ cell_at s p

pub same_more : (s other : Storage) (n : ℕ) → AreSameBelow s other n → cell_at other n ≡ cell_at s n → AreSameBelow s other (n + 1)
same_more s other n before here p from below = by_test (nat_lt p n) refl
  where
    by_test : (test : Bool) → nat_lt p n ≡ test → cell_at other p ≡ cell_at s p
    by_test true t = before p from (ltb-true p n t)
    by_test false t = let e : n ≡ p = grind (arith, nat_tests) in subst (λ k. cell_at other k ≡ cell_at s k) e here
