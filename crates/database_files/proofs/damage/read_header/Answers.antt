use Rattle.std.proofs.Common.{rules, arith, ◌≡◌, length, sym, ◌∙◌}
use Rattle.sqlite_disk.specs.Disk.{Holds}
use Rattle.sqlite_wal.specs.Recovery.{header}
use Rattle.sqlite_wal.proofs.PartLemmas.{held_is_part}
use Rattle.database_files.proofs.damage.read_header.Goals as goal

pub returns-clause-ok : goal.returns-clause-ok
returns-clause-ok g c clean =
    let log = g.D.Disk.seen c.args.log.now in
    let len : length c.read_at.new.buf ≡ 32 = search rules in
    let holds : Holds log 0 c.read_at.new.buf = rw (← c.len.ensures.seen) (c.in_ok-read_at.ensures.read (search rules) (omega arith)) in
    let head : header log ≡ c.read_at.new.buf = held_is_part log _ 0 32 holds len in
    ((search rules, holds.each 0 (omega arith) ∙ c.if-head-ne-FIRST.false), sym head)
