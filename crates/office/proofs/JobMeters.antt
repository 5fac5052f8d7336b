-- By how much the meter rises.
use Rattle.std.proofs.Common.{◌≡◌, ◌≤◌, ℕ, Result, Ok, Err, OnErr, arith}
use Rattle.machine.specs.Run.{State, IsGivenUp, attempts, risen}
use Rattle.machine.proofs.Attempts.{attempts_fit, attempts_rise}
use Rattle.std.specs.Prelude.{OnOk}
use Rattle.office.specs.Kept.{Kept, attempts_of, limit_of}
use Rattle.office.specs.Meters.{RisenAtMost}
use Rattle.office.specs.declared.commands.JobCommand.{JobCommand}
use Rattle.office.specs.declared.commands.JobCommand.TheVariants.{Slice}

pub on_err : {X E : Type 0} (r : Result X E) (P : Type 0) → P → OnErr r P
on_err (Ok x) P h = tt
on_err (Err e) P h = h

-- a meter that has not ticked
pub unticked : (limit old new : ℕ) → new ≡ old → RisenAtMost limit old new
unticked limit old new same = record { ticks = 0; most = omega arith; is = omega (arith, same) }

pub risen_by : (ticks limit old new : ℕ) → ticks ≤ limit → new ≡ risen old ticks → RisenAtMost limit old new
risen_by ticks limit old new most is = record { ticks = ticks; most = most; is = is }

pub no_more : (fewer limit old new : ℕ) → fewer ≤ limit → RisenAtMost fewer old new → RisenAtMost limit old new
no_more fewer limit old new less it = record { ticks = it.ticks; most = omega (arith, less, it.most); is = it.is }

-- a run that was given up has ticked for no more than it would have attempted
pub given_up_within : (m : State) (limit old new : ℕ) → IsGivenUp m limit old new → RisenAtMost (attempts m limit) old new
given_up_within m limit old new it = record {
  ticks = it.done;
  most =
      let rise = attempts_rise m it.done limit (omega (arith, it.below)) in
      omega (arith, it.attempted, rise);
  is = it.meter;
}

attempts_within : (c : JobCommand) (k : Kept) → attempts_of c k ≤ limit_of c
attempts_within (Slice limit) k = attempts_fit k.machine limit
attempts_within other k = omega arith

-- whatever the outcome, the meter has risen by the command's limit at most
pub at_most : {X E : Type 0} (c : JobCommand) (k : Kept) (r : Result X E) (old new : ℕ) → OnOk r (new ≡ risen old (attempts_of c k)) → OnErr r (RisenAtMost (attempts_of c k) old new) → RisenAtMost (limit_of c) old new
at_most c k (Ok x) old new is given_up = risen_by (attempts_of c k) (limit_of c) old new (attempts_within c k) is
at_most c k (Err e) old new is given_up = no_more (attempts_of c k) (limit_of c) old new (attempts_within c k) given_up
