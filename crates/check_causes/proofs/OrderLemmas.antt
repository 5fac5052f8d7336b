-- the carriage order that the last character of an instruction names
use Rattle.std.proofs.Common.{◌≡◌, ℕ, true, Some, None, sym, ap}
use Rattle.std.specs.Prelude.{codes}
use Rattle.units.specs.Carriages.{order_of}
use Rattle.units.specs.Printed.{Printed}
use Rattle.units.specs.declared.carriage.CarriageOrder.{CarriageOrder}
use Rattle.machine.specs.Glyphs.{is_glyph}
use Rattle.machine.specs.Instructions.{modifier_by}
use Rattle.machine.proofs.OperationNames.{meant_by_order, meant_by_no_order}
use Rattle.check_causes.specs.Tested.{passed}
use Rattle.check_causes.specs.Devices.{carriage_told, order_told}

pub by_order : (first count last : ℕ) (order : CarriageOrder) (p : Printed) → is_glyph first (codes "F") ≡ true → order_of last ≡ Some order →
    order_told order p ≡ carriage_told (modifier_by first count last) p
unfolding carriage_told
by_order first count last order p named found = sym (ap (λ m. carriage_told m p) (meant_by_order first count last order named found))

pub by_no_order : (first count last : ℕ) (p : Printed) → is_glyph first (codes "F") ≡ true → order_of last ≡ None →
    passed ≡ carriage_told (modifier_by first count last) p
unfolding carriage_told
by_no_order first count last p named none = sym (ap (λ m. carriage_told m p) (meant_by_no_order first count last named none))
