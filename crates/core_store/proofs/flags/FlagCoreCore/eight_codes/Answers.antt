use Rattle.std.proofs.Common.{◌∙◌, ◌<◌, All, ap, arith, subst}
use Rattle.std.specs.Int.{w64, from_le_bytes}
use Rattle.core_store.proofs.MarkRows.{stretch_read}
use Rattle.core_store.proofs.flags.FlagCoreCore.eight_codes.Goals as goal

pub returns-clause-codes : goal.returns-clause-codes
returns-clause-codes c =
    let read = stretch_read c.args.self.now c.args.position 8 c.loop-place.codes c.requires c.loop-place.invariant.size (λ j lt. c.loop-place.invariant.read j (omega arith)) in
    c.from_le_bytes.ensures ∙ ap (from_le_bytes w64) read

pub returns-clause-below : goal.returns-clause-below
returns-clause-below c =
    let read = stretch_read c.args.self.now c.args.position 8 c.loop-place.codes c.requires c.loop-place.invariant.size (λ j lt. c.loop-place.invariant.read j (omega arith)) in
    subst (All (λ code. code < 64)) read c.loop-place.invariant.below
