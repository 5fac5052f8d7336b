-- for `parts`: addresses
use Rattle.std.proofs.Common.{◌≡◌, ◌≤◌, ℕ, true, List, [], ◌∷◌, length, get_or, Some, refl, sym, arith}
use Rattle.std.specs.Str.{bytes_eq}
use Rattle.bcd.specs.Table.{zone_of}
use Rattle.addresses.specs.Addresses.{Tagged, tagged, written}
use Rattle.disassembly.specs.Statements.{address}

-- for `address`: three characters that are written so
pub address_found : (text : List ℕ) (x y z : ℕ) (found : Tagged) → 3 ≤ length text → x ≡ get_or text 0 x → y ≡ get_or text 1 y → z ≡ get_or text 2 z
    → tagged x y z ≡ Some found → bytes_eq (written (zone_of y) found.base) (x ∷ y ∷ z ∷ []) ≡ true → Some found ≡ address text
unfolding address
address_found [] x y z found long e f g read same = absurd (omega arith)
address_found (u ∷ []) x y z found long e f g read same = absurd (omega arith)
address_found (u ∷ v ∷ []) x y z found long e f g read same = absurd (omega arith)
address_found (u ∷ v ∷ w ∷ text) x y z found long e f g read same = rw (sym e, sym f, sym g, read, same) refl
