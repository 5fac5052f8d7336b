use Rattle.std.proofs.Common.{arith, ◌≡◌, ◌-◌, ◌/◌, ◌+◌, ◌∙◌, Some, length, subst, ap}
use Rattle.sqlite_wal.specs.Format.{be32, part}
use Rattle.sqlite_wal.specs.PageSize.{bytes_of}
use Rattle.sqlite_wal.specs.Reads.{IsClean}
use Rattle.sqlite_wal.specs.Recovery.{frame_at, header}
use Rattle.database_files.specs.Damage.{HasSalt, IsFirstEnd, frames_in}
use Rattle.database_files.proofs.FollowedLemmas.{ends_once, salt_read, salt_there}
use Rattle.database_files.proofs.damage.is_followed.Goals as goal

pub returns-clause-ok : goal.returns-clause-ok
returns-clause-ok g c clean =
    let log = g.D.Disk.seen c.args.log.now in
    let last = c.in-Some.last in
    let ended : IsClean g.D.Disk c.first_end.new.log = c.read_frame.ensures.same.clean clean in
    let measured : IsClean g.D.Disk c.len.new.self = c.first_end.ensures.same.clean ended in
    let found : IsFirstEnd (g.D.Disk.seen c.len.new.self) c.args.frames c.saturating_sub-bound.result (Some last) =
    subst (IsFirstEnd (g.D.Disk.seen c.len.new.self) c.args.frames c.saturating_sub-bound.result) c.in-Some.is (c.in_ok-last.ensures.ok ended) in
    let first : IsFirstEnd log c.args.frames c.saturating_sub-bound.result (Some last) =
    subst (λ l. IsFirstEnd l c.args.frames c.saturating_sub-bound.result (Some last)) c.len.ensures.seen found in
    let read = subst (λ l. c.in_ok-next.next ≡ part l (frame_at (be32 l 8) (last + 1)) 32) (c.first_end.ensures.same.seen ∙ c.len.ensures.seen) (c.in_ok-next.ensures.ok clean) in
    let head : c.args.head.now ≡ header log = c.requires.head (c.len.ensures.clean measured) in
    let size : bytes_of c.args.size ≡ be32 log 8 = c.requires.size (c.len.ensures.clean measured) in
    let room : c.frames_in.result ≡ frames_in log =
    c.frames_in.ensures ∙ ap (λ n. (n - 32) / (24 + bytes_of c.args.size)) (c.in_ok-len.ensures.len measured) ∙ ap (λ n. (length log - 32) / (24 + n)) size in (
      λ is. record {
        last = last;
        behind = first.0;
        within = omega (arith, room, first.1, c.saturating_sub-bound.ensures);
        first = first.2;
        ends = first.3;
        follows = salt_read log _ _ (last + 1) read head (c.has_salt.ensures.0 is);
      },
      λ followed.
          let same : followed.last ≡ last = ends_once log c.args.frames _ _ followed.behind followed.first followed.ends first.0 first.2 first.3 in
          c.has_salt.ensures.1 (salt_there log _ _ (last + 1) read head (subst (λ n. HasSalt log (n + 1)) same followed.follows)),
    )
