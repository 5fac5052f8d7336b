-- Where whole frames are in a log, and what is read there.
use Rattle.std.proofs.Common.{◌≡◌, ◌≢◌, ◌<◌, ◌≤◌, ◌+◌, ◌-◌, ◌/◌, ◌∙◌, ◌^◌, ℕ, List, min, inl, inr, arith, sym, ap}
use Rattle.std.proofs.Math.Nat.{div-mul-le_self}
use Rattle.std.proofs.lemmas.Bool.{cases_lt}
use Rattle.sqlite_disk.specs.declared.Disk.{Ghosts}
use Rattle.sqlite_wal.specs.Format.{be32, part}
use Rattle.sqlite_wal.specs.Reads.{OnlyReads}
use Rattle.sqlite_wal.specs.Recovery.{frame_at, frames_len, header}
use Rattle.sqlite_wal.proofs.FormatLemmas.{be32-part}
use Rattle.sqlite_wal.proofs.PartLemmas.{frames_len-lt}
use Rattle.database_files.specs.Damage.{EndsCommit, EndsNone, HasSalt}

all_fit : (size long : ℕ) → frames_len size ((long - 32) / (24 + size)) ≤ long - 32
unfolding frames_len
all_fit size long = div-mul-le_self _ _

-- a frame of those that the log has room for is whole in it
pub is_inside : (size k long : ℕ) → k < (long - 32) / (24 + size) → 8 ≤ size → frame_at size k + 32 ≤ long
is_inside size k long few large = omega (arith, frames_len-lt size k _ few, all_fit size long, large)

-- the frame begins where its gate says
pub begins_at : (size k long gate at : ℕ) → gate ≡ min (frame_at size k + 8) 0xffff_ffff_ffff_ffff → at ≡ gate - 8
    → frame_at size k + 32 ≤ long → long < 2 ^ 64 → at ≡ frame_at size k
begins_at size k long gate at gate_is at_is inside fits = omega (arith, gate_is, at_is, inside, fits)

-- the beginning of a frame, and the header, as they were read
module _ (log frame head : List ℕ) (k : ℕ) (frame_is : frame ≡ part log (frame_at (be32 log 8) k) 32) (head_is : head ≡ header log) where
  in_frame : (a : ℕ) → a + 4 ≤ 32 → be32 frame a ≡ be32 log (frame_at (be32 log 8) k + a)
  in_frame a few = ap (λ (b : List ℕ). be32 b a) frame_is ∙ be32-part log _ 32 a few

  salt_first : be32 head 16 ≡ be32 log 16
  salt_first = ap (λ (b : List ℕ). be32 b 16) head_is ∙ be32-part log 0 32 16 (omega arith)

  salt_second : be32 head 20 ≡ be32 log 20
  salt_second = ap (λ (b : List ℕ). be32 b 20) head_is ∙ be32-part log 0 32 20 (omega arith)

  pub salt_read : (be32 frame 8 ≡ be32 head 16) × (be32 frame 12 ≡ be32 head 20) → HasSalt log k
  salt_read same =
      (sym (in_frame 8 (omega arith)) ∙ same.0 ∙ salt_first, sym (in_frame 12 (omega arith)) ∙ same.1 ∙ salt_second)

  pub salt_there : HasSalt log k → (be32 frame 8 ≡ be32 head 16) × (be32 frame 12 ≡ be32 head 20)
  salt_there same =
      (in_frame 8 (omega arith) ∙ same.0 ∙ sym (salt_first), in_frame 12 (omega arith) ∙ same.1 ∙ sym (salt_second))

  pub end_read : ((be32 frame 8 ≡ be32 head 16) × (be32 frame 12 ≡ be32 head 20)) × (be32 frame 4 ≢ 0) → EndsCommit log k
  end_read ends = (salt_read ends.0, λ none. ends.1 (in_frame 4 (omega arith) ∙ none))

  pub end_there : EndsCommit log k → ((be32 frame 8 ≡ be32 head 16) × (be32 frame 12 ≡ be32 head 20)) × (be32 frame 4 ≢ 0)
  end_there ends = (salt_there ends.0, λ none. ends.1 (sym (in_frame 4 (omega arith)) ∙ none))

-- one reading after another
pub reads_on : {D : Type 0} {g : Ghosts D} (a b c : D) → OnlyReads g a b → OnlyReads g b c → OnlyReads g a c
reads_on a b c one other = record {
  seen = other.seen ∙ one.seen;
  clean = λ clean. one.clean (other.clean clean);
  usable = other.usable;
  key = other.key ∙ one.key;
  rot = other.rot ∙ one.rot;
  crash = λ left may. one.crash left (other.crash left may);
}

-- the first commit that ends is one
pub ends_once : (log : List ℕ) (frames a b : ℕ) → frames ≤ a → EndsNone log frames a → EndsCommit log a
    → frames ≤ b → EndsNone log frames b → EndsCommit log b → a ≡ b
ends_once log frames a b behind_a none_a ends_a behind_b none_b ends_b = elim (cases_lt a b) [
  | inl less ↦ absurd (none_b a behind_a less ends_a)
  | inr most ↦ elim (cases_lt b a) [
    | inl less ↦ absurd (none_a b behind_b less ends_b)
    | inr least ↦ omega (arith, most, least)
  ]
]
