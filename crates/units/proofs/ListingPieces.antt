-- a listing written piece by piece: the writer's bytes and then those of the piece
use Rattle.std.proofs.Common.{List, [], ◌++◌, ◌≡◌, ℕ, None, Some, refl, sym, subst, append-nil}
use Rattle.std.specs.Prelude.{Option}
use Rattle.std.specs.Io.KnownBytes.{Appends, Keeps, append_known}
use Rattle.std.proofs.KnownBytes.{Appends-kept, Appends-trans, Keeps-refl, append_known-grown}

empty_piece : (known : Option (List ℕ)) → Keeps (append_known known []) known
empty_piece None = tt
empty_piece (Some bytes) = sym (append-nil bytes)

no_piece : (known : Option (List ℕ)) → Appends known (append_known known []) []
no_piece None = tt
no_piece (Some bytes) = refl

-- nothing is written, and the piece is empty
pub nothing_shown : (known : Option (List ℕ)) (piece : List ℕ) → piece ≡ [] → Appends known (append_known known piece) []
nothing_shown known piece none = subst (λ (xs : List ℕ). Appends known (append_known known xs) []) (sym none) (no_piece known)

module _ (first old new : Option (List ℕ)) (piece kept shown : List ℕ) (so_far : Appends first (append_known old piece) shown)
    (same : Keeps (append_known old piece) (append_known new kept)) where
  all_same : Appends first (append_known new kept) shown
  all_same = Appends-kept first (append_known old piece) (append_known new kept) shown so_far same

  -- the piece, perhaps written and emptied before, got more bytes
  pub piece_grown : (grown more : List ℕ) → grown ≡ kept ++ more → Appends first (append_known new grown) (shown ++ more)
  piece_grown grown more is =
      Appends-trans first (append_known new kept) (append_known new grown) shown more all_same
      (append_known-grown (append_known new kept) new kept grown more (Keeps-refl (append_known new kept)) is)

  -- the last piece was written
  pub piece_put : (last : Option (List ℕ)) → kept ≡ [] → Keeps new last → Appends first last shown
  piece_put last none flushed =
      let written = subst (λ (xs : List ℕ). Appends first (append_known new xs) shown) none all_same in
      Appends-kept first new last shown (Appends-kept first (append_known new []) new shown written (empty_piece new)) flushed
