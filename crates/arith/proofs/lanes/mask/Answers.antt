use Rattle.std.proofs.Common.{bit_and}
use Rattle.std.proofs.lemmas.Simd.{zip2_splat}
use Rattle.arith.proofs.lanes.mask.Goals as goal

pub returns : goal.returns
returns c = zip2_splat bit_and c.args.lanes 16 c.args.bits c.requires
