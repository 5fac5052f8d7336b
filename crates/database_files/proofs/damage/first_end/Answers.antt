use Rattle.std.proofs.Common.{rules, arith, ◌≡◌, ◌∙◌, inl, inr, sym, subst}
use Rattle.std.proofs.Math.Nat.{eq-or-lt_of_le}
use Rattle.std.proofs.lemmas.Bool.{false≢true}
use Rattle.sqlite_wal.specs.Format.{be32, part}
use Rattle.sqlite_wal.specs.Reads.{IsClean}
use Rattle.sqlite_wal.specs.Recovery.{frame_at}
use Rattle.database_files.specs.Damage.{EndsCommit}
use Rattle.database_files.proofs.FollowedLemmas.{end_read, end_there, reads_on}
use Rattle.database_files.proofs.damage.first_end.Goals as goal

pub returns-then-ends_commit-clause-ok : goal.returns-then-ends_commit-clause-ok
returns-then-ends_commit-clause-ok g c clean =
    let log = g.D.Disk.seen c.args.log.now in
    let here : IsClean g.D.Disk c.loop-at.log = c.read_frame.ensures.same.clean clean in
    let same = c.loop-at.invariant.0.seen in
    let read = subst (λ l. c.in_ok-frame.frame ≡ part l (frame_at (be32 l 8) c.loop-at.at) 32) same (c.in_ok-frame.ensures.ok clean) in
    let head = c.requires.head (c.loop-at.invariant.0.clean here) in
    (search rules, search rules, c.loop-at.invariant.2 here, end_read log _ _ c.loop-at.at read head (c.ends_commit.ensures.0 c.if-ends_commit.true))

pub loop-at-preserved : goal.loop-at-preserved
loop-at-preserved g c =
    let log = g.D.Disk.seen c.args.log.now in
    let same = c.loop-at.invariant.0.seen in (
      reads_on _ _ _ c.loop-at.invariant.0 c.read_frame.ensures.same,
      c.in_ok-frame.ensures.faults ∙ c.loop-at.invariant.1,
      λ clean other behind before ends.
          let here : IsClean g.D.Disk c.loop-at.log = c.read_frame.ensures.same.clean clean in
          let read = subst (λ l. c.in_ok-frame.frame ≡ part l (frame_at (be32 l 8) c.loop-at.at) 32) same (c.in_ok-frame.ensures.ok clean) in
          let head = c.requires.head (c.loop-at.invariant.0.clean here) in
          elim (eq-or-lt_of_le {n = other} {m = c.loop-at.at} (omega (arith, before))) [
            | inl is ↦ false≢true (sym c.if-ends_commit.false ∙ c.ends_commit.ensures.1 (end_there log _ _ c.loop-at.at read head (subst (EndsCommit log) is ends)))
            | inr less ↦ c.loop-at.invariant.2 here other behind less ends
          ],
    )
