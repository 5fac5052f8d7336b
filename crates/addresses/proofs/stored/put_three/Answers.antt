use Rattle.std.proofs.Common.{arith}
use Rattle.addresses.proofs.StoredLemmas.{put_three}
use Rattle.addresses.proofs.stored.put_three.Goals as goal

pub returns : goal.returns
returns g c =
    put_three (g.C.Core.cells c.args.core.now) c.args.position c.args.codes c.index-codes-0.result c.index-codes-1.result c.index-codes-2.result c.requires.from (omega arith)
    (g.C.Core.cells c.put.new.self) (g.C.Core.cells c.put-2.new.self) (g.C.Core.cells c.put-3.new.self) c.put.ensures c.put-2.ensures c.put-3.ensures
