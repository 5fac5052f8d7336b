-- a list in order
use Rattle.std.specs.Prelude.{List, [], ◌∷◌, if◌then◌else◌}
use Rattle.std.specs.declared.cmp.Ordering.{Ordering}
use Rattle.std.specs.Ordering.{is_gt}

-- a list in order with one thing more, put before the first that it does not come after
abbrev pub put_among : {X : Type 0} → (X → X → Ordering) → X → List X → List X
put_among cmp new [] = new ∷ []
put_among cmp new (x ∷ xs) = if is_gt (cmp new x) then x ∷ put_among cmp new xs else new ∷ x ∷ xs

-- a list's things in the order of this comparison; equal ones keep their order
abbrev pub in_order : {X : Type 0} → (X → X → Ordering) → List X → List X
in_order cmp [] = []
in_order cmp (x ∷ xs) = put_among cmp x (in_order cmp xs)
