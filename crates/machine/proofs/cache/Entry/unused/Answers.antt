use Rattle.std.proofs.Common.{refl}
use Rattle.machine.proofs.KeptShapes.{stands_nowhere}
use Rattle.machine.proofs.cache.Entry.unused.Goals as goal

pub returns : goal.returns
returns c = λ size. record { shape = stands_nowhere 0 _; kind = refl; placed = λ no. absurd (cc); clear = λ no. absurd (cc) }
