-- bytes without those at their end that leave their columns blank
use Rattle.std.proofs.Common.{rules, arith, refl, ap, ◌≡◌, ℕ, true, false, ◌&&◌, List, [], ◌∷◌, ◌++◌}
use Rattle.card_texts.specs.declared.rules.Rules.{Rules}
use Rattle.card_texts.specs.Faults.{are_bare, is_bare, without_bare}

-- a byte more behind others
bare_behind : (rules : Rules) (xs : List ℕ) (b : ℕ) → is_bare rules b ≡ true
    → are_bare rules (xs ++ b ∷ []) ≡ are_bare rules xs
bare_behind rules [] b bare = rw bare refl
bare_behind rules (x ∷ xs) b bare = ap (λ t. is_bare rules x && t) (bare_behind rules xs b bare)

-- a last byte that leaves its columns blank is cut
pub bare_cut : (rules : Rules) (xs : List ℕ) (b : ℕ) → is_bare rules b ≡ true
    → without_bare rules (xs ++ b ∷ []) ≡ without_bare rules xs
unfolding without_bare
bare_cut rules [] b bare = rw bare refl
bare_cut rules (x ∷ xs) b bare =
    rw (bare_behind rules (x ∷ xs) b bare) (rw (bare_cut rules xs b bare) refl)

-- bytes of which the last one does not are not all such
not_all_bare : (rules : Rules) (xs : List ℕ) (b : ℕ) → is_bare rules b ≡ false
    → are_bare rules (xs ++ b ∷ []) ≡ false
not_all_bare rules [] b other = rw other refl
not_all_bare rules (x ∷ xs) b other = rw (not_all_bare rules xs b other) (grind arith)

-- bytes whose last one does not leave its columns blank stay
pub none_bare : (rules : Rules) (xs : List ℕ) (b : ℕ) → is_bare rules b ≡ false
    → without_bare rules (xs ++ b ∷ []) ≡ xs ++ b ∷ []
unfolding without_bare
none_bare rules [] b other = rw (not_all_bare rules [] b other) refl
none_bare rules (x ∷ xs) b other =
    rw (not_all_bare rules (x ∷ xs) b other) (rw (none_bare rules xs b other) refl)
