-- the operation Modify Address
use Rattle.std.specs.Prelude.{◌+◌, ◌-◌, ◌%◌, ◌&&◌, Result, Ok}
use Rattle.bcd.specs.Table.{zone_of}
use Rattle.core_store.specs.Storage.{Storage, code_at, put_codes}
use Rattle.core_store.specs.Checked.{require, find_or}
use Rattle.core_store.specs.declared.registers.Registers.{Registers}
use Rattle.core_store.specs.declared.checks.Check.{Check}
use Rattle.core_store.specs.declared.checks.Check.TheVariants.{Address, Data}
use Rattle.addresses.specs.Addresses.{written}
use Rattle.addresses.specs.Effective.{base_ending}
use Rattle.addresses.specs.Stored.{has_three}
use Rattle.core_store.specs.Operands.{lowered}

-- storage and registers after Modify Address: the address at A is added to that at B modulo 16000,
-- and B's tag is kept
unfoldable pub modified : Storage → Registers → Result (Storage × Registers) Check
modified s r =
    require (has_three s r.a && has_three s r.b) Address
    (find_or (base_ending s r.a) Data (λ a.
    find_or (base_ending s r.b) Data (λ b.
    Ok (
      put_codes s (r.b - 2) (written (zone_of (code_at s (r.b - 1))) ((a + b) % 16000)),
      record r { a = lowered r.a 3; b = lowered r.b 3 },
    ))))
