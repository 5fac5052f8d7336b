use Rattle.std.proofs.Common.{◌≡◌, refl, ℕ, List, slice_index, length, sym, ap, subst, ◌∙◌}
use Rattle.std.proofs.lemmas.Bool.{false≢true}
use Rattle.sqlite_wal.specs.Format.{be32}
use Rattle.sqlite_wal.specs.PageSize.{bytes_of, IsPageSize}
use Rattle.sqlite_wal.specs.Reads.{IsClean}
use Rattle.sqlite_wal.specs.Recovery.{Replays}
use Rattle.database_files.proofs.DamageLemmas.{size_is, key_is, torn_told}
use Rattle.database_files.proofs.damage.has_open_end.Goals as goal

pub is_gate_open-requires-clause-size : goal.is_gate_open-requires-clause-size
is_gate_open-requires-clause-size g c clean =
    let early = c.probe_frames.ensures.same.clean clean in
    c.in-Some.ensures.value ∙ c.number_at.ensures ∙ size_is _ (c.requires.begun early) _ (c.requires.head early) ∙ ap (λ (b : List ℕ). be32 b 8) (sym c.probe_frames.ensures.same.seen)

pub is_gate_open-requires-clause-key : goal.is_gate_open-requires-clause-key
is_gate_open-requires-clause-key g c clean =
    let early = c.probe_frames.ensures.same.clean clean in
    key_is _ (c.requires.begun early) _ (c.requires.head early) ∙ ap (λ (b : List ℕ). slice_index b 16) (sym c.probe_frames.ensures.same.seen)

pub returns-in_default-clause-ok : goal.returns-in_default-clause-ok
returns-in_default-clause-ok g c clean = (
  λ is. absurd (false≢true is),
  λ is. absurd (false≢true (c.in_default.ensures.valid.1
      (subst IsPageSize (sym (c.number_at.ensures ∙ size_is _ is.begun _ (c.requires.head clean))) is.size))),
)

pub returns-clause-ok : goal.returns-clause-ok
returns-clause-ok g c clean =
    let log = g.D.Disk.seen c.args.log.now in
    let before : IsClean g.D.Disk c.probe_frames.new.log = c.is_gate_open.ensures.same.clean clean in
    let early = c.probe_frames.ensures.same.clean before in
    let begun = c.requires.begun early in
    let head = c.requires.head early in
    let size : bytes_of c.in-Some.size ≡ be32 log 8 = c.in-Some.ensures.value ∙ c.number_at.ensures ∙ size_is _ begun _ head in
    let taken = subst (λ n. Replays n log (length c.in_ok-numbers.numbers.items)) size (c.in_ok-numbers.ensures.ok before).0 in
    torn_told log begun _ _ _ _ c.probe_frames.ensures.same.seen (ap (λ (b : List ℕ). length b) c.as_slice.ensures.value)
    (subst IsPageSize (c.number_at.ensures ∙ size_is _ begun _ head) (c.in-Some.ensures.valid.0 refl)) taken (c.in_ok-is_gate_open.ensures.ok clean)
