-- characters read by zone and numeric part
use Rattle.std.proofs.Common.{◌≡◌, ℕ, ◌+◌, ◌*◌, ◌/◌, ◌<◌, refl, arith}
use Rattle.bcd.specs.Table.{zone_of}
use Rattle.bcd.specs.declared.Zone.{Zone}
use Rattle.bcd.specs.declared.Zone.TheVariants.{Bare, A, B, AB}
use Rattle.moves.specs.Characters.{of_parts, IsOfParts}

pub is_read : (zone : Zone) (part : ℕ) → part < 16 → IsOfParts zone part (of_parts zone part)
unfolding zone_of
is_read Bare part h =
    let z : (16 * 0 + part) / 16 ≡ 0 = omega arith in
    record { character = omega arith; zone_is = rw z refl; part_is = omega arith }
is_read A part h =
    let z : (16 * 1 + part) / 16 ≡ 1 = omega arith in
    record { character = omega arith; zone_is = rw z refl; part_is = omega arith }
is_read B part h =
    let z : (16 * 2 + part) / 16 ≡ 2 = omega arith in
    record { character = omega arith; zone_is = rw z refl; part_is = omega arith }
is_read AB part h =
    let z : (16 * 3 + part) / 16 ≡ 3 = omega arith in
    record { character = omega arith; zone_is = rw z refl; part_is = omega arith }
