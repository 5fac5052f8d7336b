-- tests in order, of which the first that fails tells the cause
use Rattle.std.specs.Prelude.{Bool, true, false, Option, Some, None, Result, Ok, Err}
use Rattle.check_causes.specs.declared.causes.Cause.{Cause}

-- what tests without a result leave: nothing, or the cause that the first one which failed tells
abbrev pub Tested : Type 0
Tested = Result (Unit {0}) Cause

-- the tests were passed
abbrev pub passed : Tested
passed = Ok tt

-- the rest if the test holds, else the cause
abbrev pub needs : {T : Type 0} → Bool → Cause → Result T Cause → Result T Cause
needs true cause rest = rest
needs false cause rest = Err cause

-- the rest with what was found, or the cause if nothing was
abbrev pub finds : {S T : Type 0} → Option S → Cause → (S → Result T Cause) → Result T Cause
finds (Some x) cause rest = rest x
finds None cause rest = Err cause

-- the rest with the value so far, or the cause so far
abbrev pub given : {S T : Type 0} → Result S Cause → (S → Result T Cause) → Result T Cause
given (Ok x) rest = rest x
given (Err cause) rest = Err cause

-- the rest if the tests so far were passed, or their cause
abbrev pub after : {T : Type 0} → Tested → Result T Cause → Result T Cause
after (Ok done) rest = rest
after (Err cause) rest = Err cause

-- the cause that tests tell, if one failed
abbrev pub told : Tested → Option Cause
told (Ok done) = None
told (Err cause) = Some cause
