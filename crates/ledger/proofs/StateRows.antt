-- Rows of states, which count all cards and lines that were made.
use Rattle.std.proofs.Common.{◌≡◌, ℕ, List, length, length-append, refl, ap, arith}
use Rattle.machine.specs.Earlier.{units_with, units_alone, with_earlier, without_outputs, IsBehind}
use Rattle.machine.specs.Run.{State}
use Rattle.ledger_rows.specs.Columns.{state_row}
use Rattle.ledger_tables.specs.declared.rows.StateRow.{StateRow}
use Rattle.units.specs.Units.{made_in_all}
use Rattle.units.specs.declared.printer.Line.{Line}
use Rattle.units.specs.declared.punch.Punched.{Punched}
use Rattle.units.specs.declared.units.Counts.{Counts}

-- a row that counts what was made in all is the picture's
counted_so : (m : State) (cards lines : ℕ) → cards ≡ (made_in_all m.works.units).cards → lines ≡ (made_in_all m.works.units).lines → ◌≡◌ {A = StateRow} (record (state_row m) { cards = cards; lines = lines }) (state_row m)
counted_so m cards lines one two = rw (one, two) refl

-- the row is the same without the cards and lines
pub row_alone : (m : State) → state_row (without_outputs m) ≡ state_row m
row_alone m =
    let u = units_alone m.works.units in
    let cards : (made_in_all u).cards ≡ (made_in_all m.works.units).cards = omega arith in
    let lines : (made_in_all u).lines ≡ (made_in_all m.works.units).lines = omega arith in
    counted_so m (made_in_all u).cards (made_in_all u).lines cards lines

-- the row is the same with the earlier cards and lines in front
pub row_behind : (cards : List Punched) (lines : List Line) (m : State) → IsBehind cards lines m → state_row (with_earlier cards lines m) ≡ state_row m
row_behind cards lines m behind =
    let u = m.works.units in
    let before_cards : u.before.cards ≡ length cards = ap (λ (n : Counts). n.cards) behind in
    let before_lines : u.before.lines ≡ length lines = ap (λ (n : Counts). n.lines) behind in
    let all = made_in_all (units_with cards lines u) in
    let one : all.cards ≡ (made_in_all u).cards = omega (arith, before_cards, length-append cards u.punch.cards) in
    let two : all.lines ≡ (made_in_all u).lines = omega (arith, before_lines, length-append lines u.printer.lines) in
    counted_so m all.cards all.lines one two
