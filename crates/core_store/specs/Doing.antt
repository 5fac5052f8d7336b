-- what an operation did
use Rattle.std.specs.Prelude.{ℕ, ◌≡◌, Bool, true, false, Result, Ok, Err}
use Rattle.core_store.specs.Storage.{Storage}
use Rattle.core_store.specs.declared.checks.Check.{Check}
use Rattle.core_store.specs.declared.registers.Registers.{Registers}

-- the call had this effect on storage and registers, or on storage and a unit; or it returned the
-- check that stops it, and changed nothing
abbrev pub Does : {T R : Type 0} → Result T Check → Storage → R → Storage → R →
    (Storage → R → Result (Storage × R) Check) → Type 0
Does (Ok done) s r s_after r_after effect = effect s r ≡ Ok (s_after, r_after)
Does (Err check) s r s_after r_after effect =
    (effect s r ≡ Err check) × (s_after ≡ s) × (r_after ≡ r)

-- the call was done at once, with this effect on storage and registers; or it was left to another,
-- and changed nothing
abbrev pub DoesOrLeaves : {R : Type 0} → Bool → Storage → R → Storage → R →
    (Storage → R → Result (Storage × R) Check) → Type 0
DoesOrLeaves done s r s_after r_after effect =
    (done ≡ true → effect s r ≡ Ok (s_after, r_after))
    × (done ≡ false → (s_after ≡ s) × (r_after ≡ r))

-- the call, which was given the positions A and B, had this effect where the registers hold these;
-- or it returned the check that stops it, and changed nothing
abbrev pub DoesAt : {T : Type 0} → Result T Check → Storage → Registers → ℕ → ℕ → Storage →
    Registers → (Storage → Registers → Result (Storage × Registers) Check) → Type 0
DoesAt (Ok done) s r a b s_after r_after effect =
    effect s (record r { a = a; b = b }) ≡ Ok (s_after, r_after)
DoesAt (Err check) s r a b s_after r_after effect =
    (effect s (record r { a = a; b = b }) ≡ Err check) × (s_after ≡ s) × (r_after ≡ r)

-- such a call was done at once, with this effect; or it was left to another, and changed nothing
abbrev pub DoesAtOrLeaves : Bool → Storage → Registers → ℕ → ℕ → Storage → Registers →
    (Storage → Registers → Result (Storage × Registers) Check) → Type 0
DoesAtOrLeaves done s r a b s_after r_after effect =
    (done ≡ true → effect s (record r { a = a; b = b }) ≡ Ok (s_after, r_after))
    × (done ≡ false → (s_after ≡ s) × (r_after ≡ r))
