use Rattle.std.proofs.Common.{◌≡◌, ◌+◌, ◌-◌, ◌≤◌, ◌∙◌, ap, sym, arith, is_some, not}
use Rattle.bcd.specs.Table.{digit_of}
use Rattle.core_store.specs.Storage.{codes_ending}
use Rattle.arith.specs.Decimal.{is_number}
use Rattle.arith.proofs.DecimalNumbers.{number_none, number_more, not_number, both_hold}
use Rattle.arith.proofs.decimal.is_number.Goals as goal

pub loop-i-init : goal.loop-i-init
loop-i-init g c = number_none (g.C.Core.cells c.args.core.now) c.args.position

pub loop-i-preserved : goal.loop-i-preserved
loop-i-preserved g c = let i_from : c.loop-i.i ≤ c.args.position = omega arith in number_more (g.C.Core.cells c.args.core.now) c.args.position c.loop-i.i c.requires.within i_from ∙ both_hold _ _ (ap (λ n. is_some (digit_of n)) (sym c.get.ensures) ∙ ap is_some (sym c.digit.ensures.value) ∙ c.is_none.ensures ∙ ap not c.if-is_none.false) c.loop-i.invariant

pub returns-then-is_none : goal.returns-then-is_none
returns-then-is_none g c =
    let whole : c.loop-i.i + 1 + (c.args.count - (c.loop-i.i + 1)) ≡ c.args.count = omega arith in
    let s = g.C.Core.cells c.args.core.now in
    sym (ap (λ n. is_number (codes_ending s c.args.position n)) (sym whole) ∙ not_number s c.args.position c.loop-i.i (c.args.count - (c.loop-i.i + 1)) c.requires.within (omega arith) (ap (λ n. is_some (digit_of n)) (sym c.get.ensures) ∙ ap is_some (sym c.digit.ensures.value) ∙ c.is_none.ensures ∙ ap not c.if-is_none.true))
