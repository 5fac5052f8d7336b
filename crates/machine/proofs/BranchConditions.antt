-- the conditions of the comparison, by their table
use Rattle.std.proofs.Common.{◌≡◌, ℕ, ◌<◌, ◌≢◌, ◌||◌, Bool, true, false, refl, get_or, eqb, None}
use Rattle.std.proofs.lemmas.Bool.{ne_eqb}
use Rattle.bcd.specs.Table.{glyph_of}
use Rattle.bcd.proofs.Tables.{at_each}
use Rattle.core_store.specs.declared.registers.Compared.{Compared}
use Rattle.core_store.specs.declared.registers.Compared.TheVariants.{Equal, Low, High}
use Rattle.core_store.specs.declared.registers.Registers.{Registers}
use Rattle.units.specs.declared.units.Units.{Units}
use Rattle.machine.specs.declared.branches.TheConstants.{MET}
use Rattle.machine.specs.declared.branches.Condition.{Condition}
use Rattle.machine.specs.declared.branches.Condition.TheVariants.{Always, IsUnequal, IsEqual, IsLow, IsHigh, Overflow, LastCard, SwitchOn, Channel12}
use Rattle.machine.specs.Branches.{condition_of, is_met, once_tested}
use Rattle.machine.specs.Instructions.{condition_by, place_of}
use Rattle.machine.proofs.FormTables.{bit, same, same_is, each_below, at_one}

second : (a b : Bool) → (a || b) ≡ true → a ≡ false → b ≡ true
second true b h none = absurd (cc)
second false b h none = h

-- whether a condition is met by what the table has at its character
is_met_there : Compared → ℕ → ℕ → ℕ → Bool → Units → ℕ → Bool
is_met_there compared i a b overflow units n =
    eqb (get_or MET n 0) 0
    || same (bit (get_or MET n 0) (place_of compared)) (is_met (condition_by n) (record { i = i; a = a; b = b; compare = compared; overflow = overflow }) units)

met_by : (compared : Compared) (i a b : ℕ) (overflow : Bool) (units : Units) → each_below (is_met_there compared i a b overflow units) 64 ≡ true
unfolding condition_by condition_of is_met glyph_of is_met_there
met_by Equal i a b overflow units = refl
met_by Low i a b overflow units = refl
met_by High i a b overflow units = refl

pub met_at : (n place : ℕ) (r : Registers) (units : Units) → n < 64 → place ≡ place_of r.compare → get_or MET n 0 ≢ 0 → bit (get_or MET n 0) place ≡ is_met (condition_by n) r units
unfolding is_met_there
met_at n place r units low at some =
    rw at
    (same_is _ _
    (second _ _ (at_one (is_met_there r.compare r.i r.a r.b r.overflow units) 64 (met_by r.compare r.i r.a r.b r.overflow units) n low) (ne_eqb _ 0 some)))

-- whether the test of a condition changes no register
abbrev keeps : Condition → Bool
keeps Overflow = false
keeps _ = true

kept : (condition : Condition) (r : Registers) → keeps condition ≡ true → r ≡ once_tested condition r
kept Always r h = refl
kept IsUnequal r h = refl
kept IsEqual r h = refl
kept IsLow r h = refl
kept IsHigh r h = refl
kept Overflow r h = absurd (cc)
kept LastCard r h = refl
kept (SwitchOn one) r h = refl
kept Channel12 r h = refl

pub kept_at : (n : ℕ) (r : Registers) → n < 64 → get_or MET n 0 ≢ 0 → r ≡ once_tested (condition_by n) r
unfolding condition_by condition_of glyph_of
kept_at n r low some =
    kept (condition_by n) r (second _ _ (at_each (λ k. eqb (get_or MET k 0) 0 || keeps (condition_by k)) 64 refl n low) (ne_eqb _ 0 some))

pub none_is_met : (n : ℕ) (r : Registers) (units : Units) → condition_of n ≡ None → true ≡ is_met (condition_by n) r units
unfolding condition_by is_met
none_is_met n r units none = rw none refl
