use Rattle.std.proofs.Common.{◌≤◌, ◌∙◌, sym, arith}
use Rattle.core_store.specs.Storage.{largest_size}
use Rattle.console.proofs.TextLemmas.{no_position, not_position, zero_position}
use Rattle.console.proofs.readings.position_of.Goals as goal

pub returns-then-eq : goal.returns-then-eq
returns-then-eq c = zero_position c.args.text.now (sym c.eq.ensures ∙ c.if-eq.true)

pub returns-in_default : goal.returns-in_default
returns-in_default c = not_position c.args.text.now (sym c.eq.ensures ∙ c.if-eq.false) c.in_default.ensures.none

pub returns-then-number-from : goal.returns-then-number-from
returns-then-number-from c =
    let past : largest_size ≤ c.in-Some.number = omega (arith, c.from.ensures, c.if-number-from.true) in
    no_position c.args.text.now c.in-Some.number past c.in-Some.ensures.some.1 c.in-Some.ensures.some.2
