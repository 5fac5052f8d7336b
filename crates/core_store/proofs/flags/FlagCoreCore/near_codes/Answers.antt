use Rattle.std.proofs.Common.{◌-◌, arith}
use Rattle.core_store.proofs.NearCodes.{codes_ending_is}
use Rattle.core_store.proofs.flags.FlagCoreCore.near_codes.Goals as goal

pub returns-clause-codes : goal.returns-clause-codes
returns-clause-codes c =
    codes_ending_is c.args.self.now c.args.position 16 (c.args.position - 15) c.loop-place.codes (omega arith) c.requires.within c.loop-place.invariant.size
    (λ j lt. c.loop-place.invariant.read j (omega arith))
