use Rattle.std.proofs.Common.{rules, arith, ◌≡◌, ◌+◌, ◌≤◌, ◌∙◌, length, min, sym, subst, ap}
use Rattle.std.proofs.lemmas.Result.{err_from_is_err_and}
use Rattle.sqlite_disk.specs.Disk.{Holds}
use Rattle.sqlite_wal.specs.Format.{be32}
use Rattle.sqlite_wal.specs.PageSize.{bytes_of}
use Rattle.sqlite_wal.specs.Reads.{IsClean}
use Rattle.sqlite_wal.specs.Recovery.{frame_at}
use Rattle.sqlite_wal.proofs.PartLemmas.{held_is_part}
use Rattle.database_files.proofs.FollowedLemmas.{begins_at, is_inside}
use Rattle.database_files.proofs.damage.read_frame.Goals as goal

pub returns-in_err-read_at-clause-faults : goal.returns-in_err-read_at-clause-faults
returns-in_err-read_at-clause-faults g c =
    let log = g.D.Disk.seen c.args.log.now in
    let p = err_from_is_err_and c.from_residual.result c.from_residual.ensures.1 in
    let counted = c.in_err-read_at.ensures.faults in
    rw p.1 (
      counted.0 (λ before.
          let size : bytes_of c.args.size ≡ be32 log 8 = c.requires.size before in
          let large : 8 ≤ be32 log 8 = subst (λ n. 8 ≤ n) size (omega (arith, c.args.size.smallest)) in
          let inside = is_inside (be32 log 8) c.args.frames (length log) (c.requires.within before) large in
          let at : c.saturating_sub.result ≡ frame_at (be32 log 8) c.args.frames =
          begins_at (be32 log 8) c.args.frames (length log) _ _ (c.gate_of.ensures ∙ ap (λ n. min (frame_at n c.args.frames + 8) 0xffff_ffff_ffff_ffff) size) c.saturating_sub.ensures inside (c.requires.fits before) in
          omega (arith, at, inside)),
      counted.1,
    )

pub returns-clause-ok : goal.returns-clause-ok
returns-clause-ok g c clean =
    let log = g.D.Disk.seen c.args.log.now in
    let before : IsClean g.D.Disk c.args.log.now = c.read_at.ensures.clean clean in
    let size : bytes_of c.args.size ≡ be32 log 8 = c.requires.size before in
    let large : 8 ≤ be32 log 8 = subst (λ n. 8 ≤ n) size (omega (arith, c.args.size.smallest)) in
    let inside = is_inside (be32 log 8) c.args.frames (length log) (c.requires.within before) large in
    let at : c.saturating_sub.result ≡ frame_at (be32 log 8) c.args.frames =
    begins_at (be32 log 8) c.args.frames (length log) _ _ (c.gate_of.ensures ∙ ap (λ n. min (frame_at n c.args.frames + 8) 0xffff_ffff_ffff_ffff) size) c.saturating_sub.ensures inside (c.requires.fits before) in
    let len : length c.read_at.new.buf ≡ 32 = search rules in
    let holds : Holds log c.saturating_sub.result c.read_at.new.buf = c.in_ok-read_at.ensures.read clean (omega arith) in
    sym (held_is_part log _ _ 32 (subst (λ n. Holds log n c.read_at.new.buf) at holds) len)
