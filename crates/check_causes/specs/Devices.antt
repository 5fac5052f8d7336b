-- why an operation of the reader, the punch or the printer is stopped
use Rattle.std.specs.Prelude.{ℕ, ◌+◌, nat_lt, length, if◌then◌else◌, is_some}
use Rattle.units.specs.declared.carriage.CarriageOrder.{CarriageOrder}
use Rattle.units.specs.declared.devices.Devices.{Devices}
use Rattle.units.specs.declared.reader.Hopper.{Hopper}
use Rattle.units.specs.declared.units.Units.{Units}
use Rattle.units.specs.Carriages.{after_line, ordered}
use Rattle.units.specs.Printed.{Printed}
use Rattle.units.specs.Stacked.{Stacked, is_selecting}
use Rattle.units.specs.Units.{most_lines, most_cards, reads, prints, punches}
use Rattle.machine.specs.declared.named.Modifier.{Modifier}
use Rattle.machine.specs.declared.named.Modifier.TheVariants.{Plain, OnCondition, OnCharacter, OnTest, ByOrder, ToPocket}
use Rattle.check_causes.specs.declared.causes.Cause.TheVariants.{NoSelection, NoCard, PunchFull, PrinterFull}
use Rattle.check_causes.specs.Tested.{Tested, passed, needs, after}

-- a card is left to read
unfoldable pub card_told : Hopper → Tested
card_told h = needs (nat_lt h.taken (length h.deck)) (NoCard h.taken) passed

-- one more card can be punched, with so many made before
unfoldable pub punch_told : ℕ → Stacked → Tested
punch_told before p = needs (nat_lt (before + length p.cards) most_cards) PunchFull passed

-- one more line can be printed, with so many made before, and the carriage can move on after it
unfoldable pub line_told : ℕ → Printed → Tested
line_told before p =
    after (needs (nat_lt (before + length p.lines) most_lines) PrinterFull passed)
    (needs (is_some (after_line p.carriage)) PrinterFull passed)

-- why the reader, the punch and the printer are stopped, in this order
unfoldable pub devices_told : Devices → Units → Tested
devices_told devices u =
    after (if reads devices then card_told u.hopper else passed)
    (after (if punches devices then punch_told u.before.cards u.punch else passed)
    (if prints devices then line_told u.before.lines u.printer else passed))

-- a form is left for an order to the carriage
unfoldable pub order_told : CarriageOrder → Printed → Tested
order_told order p = needs (is_some (ordered order p.carriage)) PrinterFull passed

-- why the carriage order of an instruction is stopped
unfoldable pub carriage_told : Modifier → Printed → Tested
carriage_told Plain p = passed
carriage_told (OnCondition condition) p = passed
carriage_told (OnCharacter code) p = passed
carriage_told (OnTest test) p = passed
carriage_told (ByOrder order) p = order_told order p
carriage_told (ToPocket pocket) p = passed

-- a pocket can be chosen
unfoldable pub pocket_told : Stacked → Tested
pocket_told p = needs (is_selecting p.profile) NoSelection passed
