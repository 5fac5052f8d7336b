use Rattle.std.proofs.Common.{◌≡◌, ◌+◌, ◌-◌, refl, ◌≤◌, ◌∙◌, ap, arith, length}
use Rattle.addresses.specs.Digits.{digit_under}
use Rattle.core_store.proofs.Fields.{length-put}
use Rattle.arith.proofs.JoiningLemmas.{carry_next, codes_next, total_none, put_codes_none, carry_at_end}
use Rattle.arith.proofs.joining.join.Goals as goal

pub loop-i-init : goal.loop-i-init
loop-i-init g c =
    record {
      codes = put_codes_none (g.C.Core.cells c.args.core.now) (c.args.b + 1 - 0) _ c.args.zone;
      carry = c.carry-carry.ensures.carry ∙ total_none c.args.joined (g.C.Core.cells c.args.core.now) c.args.a c.args.counts.a c.args.b;
      small = c.carry-carry.ensures.below;
      size = refl;
    }

pub loop-i-preserved : goal.loop-i-preserved
loop-i-preserved g c =
    let s = g.C.Core.cells c.args.core.now in
    let now = g.C.Core.cells c.loop-i.core in
    let i = c.loop-i.i in
    let i_from : i ≤ c.args.b = omega arith in
    record {
      codes =
          codes_next c.args.joined s c.args.a c.args.counts.a c.args.b i c.requires.a_in c.requires.b_in c.requires.a_from i_from now c.loop-i.carry c.args.zone c.requires.apart c.loop-i.invariant.codes c.loop-i.invariant.carry
          c.digit_from-digit_a.result c.digit_at-digit_b.result c.amount.result c.digit_under.result c.zone_from.result (g.C.Core.cells c.put.new.self)
          c.digit_from-digit_a.ensures.digit c.digit_at-digit_b.ensures.digit c.amount.ensures.amount c.zone_from.ensures (c.digit_under.ensures.character ∙ ap (digit_under c.zone_from.result) c.units_of.ensures) c.put.ensures;
      carry =
          c.carry_of-carry.ensures
          ∙ carry_next c.args.joined s c.args.a c.args.counts.a c.args.b i c.requires.a_in c.requires.b_in c.requires.a_from i_from now c.loop-i.carry c.args.zone c.requires.apart c.loop-i.invariant.codes c.loop-i.invariant.carry
          c.digit_from-digit_a.result c.digit_at-digit_b.result c.amount.result c.digit_under.result c.zone_from.result (g.C.Core.cells c.put.new.self)
          c.digit_from-digit_a.ensures.digit c.digit_at-digit_b.ensures.digit c.amount.ensures.amount;
      small = omega arith;
      size = ap length c.put.ensures ∙ length-put now (c.args.b - i) c.digit_under.result ∙ c.loop-i.invariant.size;
    }

pub returns-clause-carry : goal.returns-clause-carry
returns-clause-carry g c =
    let end : c.loop-i.i ≡ c.args.counts.b = omega arith in
    carry_at_end c.args.joined (g.C.Core.cells c.args.core.now) c.args.a c.args.counts.a c.args.b c.args.counts.b c.loop-i.i c.loop-i.carry end c.requires.cut c.loop-i.invariant.carry
