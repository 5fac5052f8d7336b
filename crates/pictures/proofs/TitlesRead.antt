-- a title stands on one line of a page, and holds no tag
use Rattle.std.proofs.Common.{◌≡◌, ℕ, ◌==◌, true, false, List, [], ◌∷◌, refl}
use Rattle.pictures.specs.Escapes.{escape_of}
use Rattle.pictures.specs.Heads.{title_byte, titled}
use Rattle.pictures.proofs.PiecesRead.{has_none, none_in_both}
use Rattle.pictures.proofs.TextsRead.{none_in_escape}

-- an escape of another byte than a line feed holds no line feed
plain_escape : (byte : ℕ) → (byte == 10) ≡ false → has_none 10 (escape_of byte) ≡ true
unfolding escape_of
plain_escape byte other =
    (elim (byte == 38) as (λ t. (byte == 38) ≡ t → has_none 10 (escape_of byte) ≡ true) [
      | true ↦ λ yes. rw yes refl
      | false ↦ λ no. (elim (byte == 60) as (λ t. (byte == 60) ≡ t → has_none 10 (escape_of byte) ≡ true) [
        | true ↦ λ less. rw (no, less) refl
        | false ↦ λ more. (elim (byte == 62) as (λ t. (byte == 62) ≡ t → has_none 10 (escape_of byte) ≡ true) [
          | true ↦ λ great. rw (no, more, great) refl
          | false ↦ λ plain. rw (no, more, plain) (rw other refl)
        ]) refl
      ]) refl
    ]) refl

plain_byte : (byte : ℕ) → has_none 10 (title_byte byte) ≡ true
unfolding title_byte
plain_byte byte =
    (elim (byte == 10) as (λ t. (byte == 10) ≡ t → has_none 10 (title_byte byte) ≡ true) [
      | true ↦ λ feed. rw feed refl
      | false ↦ λ other. rw other (plain_escape byte other)
    ]) refl

untagged_byte : (byte : ℕ) → has_none 60 (title_byte byte) ≡ true
unfolding title_byte
untagged_byte byte =
    (elim (byte == 10) as (λ t. (byte == 10) ≡ t → has_none 60 (title_byte byte) ≡ true) [
      | true ↦ λ feed. rw feed refl
      | false ↦ λ other. rw other (none_in_escape byte)
    ]) refl

pub plain_title : (title : List ℕ) → has_none 10 (titled title) ≡ true
plain_title [] = refl
plain_title (byte ∷ title) = none_in_both 10 (title_byte byte) (titled title) (plain_byte byte) (plain_title title)

pub untagged_title : (title : List ℕ) → has_none 60 (titled title) ≡ true
untagged_title [] = refl
untagged_title (byte ∷ title) = none_in_both 60 (title_byte byte) (titled title) (untagged_byte byte) (untagged_title title)
