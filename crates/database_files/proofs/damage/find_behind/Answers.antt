use Rattle.std.proofs.Common.{◌≡◌, refl, List, ℕ, slice_index, length, sym, ap, ◌∙◌, subst}
use Rattle.std.proofs.lemmas.Bool.{false≢true}
use Rattle.sqlite_wal.specs.Format.{IsSigned, be32}
use Rattle.sqlite_wal.specs.PageSize.{bytes_of, IsPageSize}
use Rattle.sqlite_wal.specs.Reads.{IsClean}
use Rattle.sqlite_wal.specs.Recovery.{Replays}
use Rattle.database_files.proofs.DamageLemmas.{size_is, key_is, all_told, cause_of}
use Rattle.database_files.proofs.damage.find_behind.Goals as goal

pub find_kept-requires-clause-size : goal.find_kept-requires-clause-size
find_kept-requires-clause-size g c clean =
    let early = c.probe_frames.ensures.same.clean clean in
    c.in-Some.ensures.value ∙ c.number_at.ensures ∙ size_is _ (c.requires.begun early) _ (c.requires.head early) ∙ ap (λ (b : List ℕ). be32 b 8) (sym c.probe_frames.ensures.same.seen)

pub find_kept-requires-clause-key : goal.find_kept-requires-clause-key
find_kept-requires-clause-key g c clean =
    let early = c.probe_frames.ensures.same.clean clean in
    key_is _ (c.requires.begun early) _ (c.requires.head early) ∙ ap (λ (b : List ℕ). slice_index b 16) (sym c.probe_frames.ensures.same.seen)

pub returns-in_ok-find_kept-in-Ok-clause-ok : goal.returns-in_ok-find_kept-in-Ok-clause-ok
returns-in_ok-find_kept-in-Ok-clause-ok g c clean =
    let log = g.D.Disk.seen c.args.log.now in
    let before : IsClean g.D.Disk c.probe_frames.new.log = c.find_kept.ensures.same.clean clean in
    let early = c.probe_frames.ensures.same.clean before in
    let begun = c.requires.begun early in
    let head = c.requires.head early in
    let size : bytes_of c.in-Some.size ≡ be32 log 8 = c.in-Some.ensures.value ∙ c.number_at.ensures ∙ size_is _ begun _ head in
    let taken = subst (λ n. Replays n log (length c.in-Ok.numbers.items)) size (c.in-Ok.ensures.ok before).0 in
    all_told log begun (subst IsSigned head c.requires.signed) _ _ _ _ c.probe_frames.ensures.same.seen (ap (λ (b : List ℕ). length b) c.as_slice.ensures.value)
    (subst IsPageSize (c.number_at.ensures ∙ size_is _ begun _ head) (c.in-Some.ensures.valid.0 refl)) taken (c.in_ok-find_kept-in-Ok.ensures.ok clean)

pub returns-in-Err-2-clause-cause : goal.returns-in-Err-2-clause-cause
returns-in-Err-2-clause-cause g c clean =
    let log = g.D.Disk.seen c.args.log.now in
    let early = c.probe_frames.ensures.same.clean clean in
    let begun = c.requires.begun early in
    let head = c.requires.head early in
    let size : bytes_of c.in-Some.size ≡ be32 log 8 = c.in-Some.ensures.value ∙ c.number_at.ensures ∙ size_is _ begun _ head in
    cause_of log begun (subst IsSigned head c.requires.signed) _ _ _ _ size (λ is. false≢true (c.if-is_refusal.ensures.1 is)) (c.in-Err.ensures.cause.0 clean)
