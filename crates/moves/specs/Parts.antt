-- the operations Move Numeric and Move Zone
use Rattle.std.specs.Prelude.{Result, Ok}
use Rattle.bcd.specs.Table.{zone_of}
use Rattle.core_store.specs.Storage.{Storage, code_at, put}
use Rattle.core_store.specs.Operands.{are_inside, lowered_by}
use Rattle.core_store.specs.Checked.{require}
use Rattle.core_store.specs.declared.registers.Registers.{Registers}
use Rattle.core_store.specs.declared.checks.Check.{Check}
use Rattle.core_store.specs.declared.checks.Check.TheVariants.{Address}
use Rattle.moves.specs.Characters.{part_of, of_parts}

-- storage and registers after the numeric part at A is moved to B, whose zone stays
unfoldable pub digit_moved : Storage → Registers → Result (Storage × Registers) Check
digit_moved s r =
    require (are_inside s r.a r.b) Address
    (Ok (
      put s r.b (of_parts (zone_of (code_at s r.b)) (part_of (code_at s r.a))),
      lowered_by r 1 1,
    ))

-- storage and registers after the zone at A is moved to B, whose numeric part stays
unfoldable pub zone_moved : Storage → Registers → Result (Storage × Registers) Check
zone_moved s r =
    require (are_inside s r.a r.b) Address
    (Ok (
      put s r.b (of_parts (zone_of (code_at s r.a)) (part_of (code_at s r.b))),
      lowered_by r 1 1,
    ))
