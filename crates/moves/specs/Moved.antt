-- the operation Move Characters to A or B Word Mark
use Rattle.std.specs.Prelude.{ℕ, zero, suc, ◌≡◌, ◌<◌, ◌≤◌, ◌+◌, ◌-◌, ◌%◌, ◌&&◌, nat_le, List, [], ◌∷◌, if◌then◌else◌, Option, Result, Ok}
use Rattle.core_store.specs.Storage.{Storage, code_at, is_marked, put_codes, field_length}
use Rattle.core_store.specs.Operands.{are_inside, least_of, lowered_by}
use Rattle.core_store.specs.Checked.{require, find_or}
use Rattle.core_store.specs.declared.registers.Registers.{Registers}
use Rattle.core_store.specs.declared.checks.Check.{Check}
use Rattle.core_store.specs.declared.checks.Check.TheVariants.{Address}

-- how many characters are moved: up to the first word mark in either field
unfoldable pub move_length : Storage → ℕ → ℕ → Option ℕ
move_length s a b = least_of (field_length s a) (field_length s b)

-- the position that the i-th character from the right comes from, also where the move reads a
-- character that it has written
abbrev pub source : ℕ → ℕ → ℕ → ℕ
source a b i = if nat_le a b then a - i else a - i % (a - b)

-- the last count characters that are moved, the leftmost first
unfoldable pub moved_codes : Storage → ℕ → ℕ → ℕ → List ℕ
moved_codes s a b zero = []
moved_codes s a b (suc i) = code_at s (source a b i) ∷ moved_codes s a b i

-- storage and registers after the characters at A are moved to B, which must not pass position 0;
-- word marks stay
unfoldable pub moved : Storage → Registers → Result (Storage × Registers) Check
moved s r =
    require (are_inside s r.a r.b) Address
    (find_or (move_length s r.a r.b) Address (λ count.
    require (nat_le count (r.a + 1) && nat_le count (r.b + 1)) Address
    (Ok (put_codes s (r.b + 1 - count) (moved_codes s r.a r.b count), lowered_by r count count))))

-- a storage in which so many characters were moved from a to b, position by position
pub record IsMoved (s : Storage) (a b count : ℕ) (new : Storage) : Type 0 where
  pub codes : (i : ℕ) → i < count → code_at new (b - i) ≡ code_at s (source a b i)
  pub below : (p : ℕ) → p + count ≤ b → code_at new p ≡ code_at s p
  pub above : (p : ℕ) → b < p → code_at new p ≡ code_at s p
  pub marks : (p : ℕ) → is_marked new p ≡ is_marked s p
