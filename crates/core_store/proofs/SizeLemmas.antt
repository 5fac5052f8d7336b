-- the sizes of storage
use Rattle.std.proofs.Common.{◌≡◌, ◌∙◌, ℕ, ◌≤◌, Bool, true, false, ◌==◌, if◌then◌else◌, Option, Some, refl, sym, ap, arith}
use Rattle.std.proofs.lemmas.Bool.{eqb-true}
use Rattle.core_store.specs.Storage.{positions_of, size_numbered}
use Rattle.core_store.specs.declared.sizes.Size.{Size}
use Rattle.core_store.specs.declared.sizes.Size.TheVariants.{Positions1400, Positions2000, Positions4000, Positions8000, Positions12000, Positions16000}

-- a storage has at least 1400 positions and at most 16000
pub within : (size : Size) → (1400 ≤ positions_of size) × (positions_of size ≤ 16000)
within Positions1400 = (omega arith, omega arith)
within Positions2000 = (omega arith, omega arith)
within Positions4000 = (omega arith, omega arith)
within Positions8000 = (omega arith, omega arith)
within Positions12000 = (omega arith, omega arith)
within Positions16000 = (omega arith, omega arith)

-- a number of positions names the size that has so many, or what the rest of the sizes make of it
row : (n : ℕ) (size : Size) (rest : Option Size) (found : Size) → (rest ≡ Some found → positions_of found ≡ n) →
    (if n == positions_of size then Some size else rest) ≡ Some found → positions_of found ≡ n
row n size rest found others is = go (n == positions_of size) refl is
  where
    go : (b : Bool) → (n == positions_of size) ≡ b → (if b then Some size else rest) ≡ Some found → positions_of found ≡ n
    go true e is = let same : size ≡ found = cc in ap positions_of (sym same) ∙ sym (eqb-true n (positions_of size) e)
    go false e is = others is

-- the size with a number of positions has that number
pub numbered : (n : ℕ) (size : Size) → size_numbered n ≡ Some size → positions_of size ≡ n
numbered n size =
    row n Positions1400 _ size
    (row n Positions2000 _ size
    (row n Positions4000 _ size
    (row n Positions8000 _ size
    (row n Positions12000 _ size
    (row n Positions16000 _ size
    (λ none. absurd (let e = none in cc)))))))

-- each size is found by its number of positions
pub numbered_by_its_own : (size : Size) → size_numbered (positions_of size) ≡ Some size
numbered_by_its_own Positions1400 = refl
numbered_by_its_own Positions2000 = refl
numbered_by_its_own Positions4000 = refl
numbered_by_its_own Positions8000 = refl
numbered_by_its_own Positions12000 = refl
numbered_by_its_own Positions16000 = refl

-- sizes with one number of positions are one
pub same_size : (one other : Size) → positions_of one ≡ positions_of other → one ≡ other
same_size one other is =
    let same : Some one ≡ Some other = sym (numbered_by_its_own one) ∙ ap size_numbered is ∙ numbered_by_its_own other in cc
