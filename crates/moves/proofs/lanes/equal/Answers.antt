use Rattle.std.proofs.Common.{eqb, arith}
use Rattle.std.proofs.lemmas.Simd.{bitmask_splat}
use mir.Syntax.{w8}
use Rattle.moves.proofs.lanes.equal.Goals as goal

pub returns : goal.returns
returns c = bitmask_splat w8 eqb c.args.lanes 16 c.args.value c.requires (omega arith)
