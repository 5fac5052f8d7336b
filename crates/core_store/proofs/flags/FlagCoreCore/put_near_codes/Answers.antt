use Rattle.std.proofs.Common.{◌≡◌, ◌+◌, ◌-◌, ◌∙◌, ap, arith, refl, rules, length, get_or}
use Rattle.core_store.proofs.Fields.{length-put}
use Rattle.core_store.proofs.NearCodes.{none_put, one_put}
use Rattle.core_store.proofs.flags.FlagCoreCore.put_near_codes.Goals as goal

pub loop-place-init : goal.loop-place-init
loop-place-init c = record {
  written = none_put c.args.self.now (c.args.position - 15 + 16) 16 c.args.codes c.requires.sixteen;
  size = refl;
  most = omega arith;
}

pub loop-place-preserved : goal.loop-place-preserved
loop-place-preserved c =
    let place = c.loop-place.place in
    let now = c.loop-place.self in
    let code = c.unwrap-code.result in
    let read : code ≡ get_or c.args.codes (place - 1) 0 = search rules in
    record {
      written = one_put c.args.self.now now c.put.new.self (c.args.position - 15) place c.args.codes code (omega arith) (omega (arith, c.requires.sixteen, c.loop-place.invariant.most)) c.loop-place.invariant.written read c.put.ensures;
      size = ap length c.put.ensures ∙ length-put now (c.args.position - 15 + (place - 1)) code ∙ c.loop-place.invariant.size;
      most = omega arith;
    }
