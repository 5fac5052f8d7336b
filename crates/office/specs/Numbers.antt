-- the numbers of the kinds of decks, and of the refusals
use Rattle.std.specs.Prelude.{ℕ}
use Rattle.office.specs.declared.commands.Kind.{Kind}
use Rattle.office.specs.declared.commands.Kind.TheVariants.{Object, Autocoder}
use Rattle.office.specs.declared.refusals.Refusal.{Refusal}
use Rattle.office.specs.declared.refusals.Refusal.TheVariants.{Customer, Number, Size, Deck, OtherContents, TooManyJobs, Assembly, NoJob, Limit, Held, NotRunning, NotAtHalt, AlreadyHeld, NotHeld, Collected, TooMuch, NoSuchPocket}

-- the number of a job's kind in its row: 0 for an object deck, 1 for Autocoder
abbrev pub kind_number : Kind → ℕ
kind_number Object = 0
kind_number Autocoder = 1

-- the number that a refusal is printed with, 10 to 29; no two refusals have the same
abbrev pub refusal_number : Refusal → ℕ
refusal_number Customer = 10
refusal_number Number = 11
refusal_number Size = 12
refusal_number Deck = 13
refusal_number OtherContents = 14
refusal_number TooManyJobs = 15
refusal_number (Assembly faults) = 16
refusal_number NoJob = 20
refusal_number Limit = 21
refusal_number Held = 22
refusal_number NotRunning = 23
refusal_number NotAtHalt = 24
refusal_number AlreadyHeld = 25
refusal_number NotHeld = 26
refusal_number Collected = 27
refusal_number TooMuch = 28
refusal_number NoSuchPocket = 29
