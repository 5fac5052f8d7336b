-- what was appended to a writer is the line of a mistake
use Rattle.std.proofs.Common.{◌≡◌, ℕ, List, OnOk, subst}
use Rattle.std.specs.Prelude.{Option, Result}
use Rattle.std.specs.Io.KnownBytes.{Appends}

-- one text is appended where the other is
pub same_text : {X Y : Type 0} (r : Result X Y) (old new : Option (List ℕ)) {a b : List ℕ} → a ≡ b → OnOk r (Appends old new a) → OnOk r (Appends old new b)
same_text r old new e is = subst (λ (text : List ℕ). OnOk r (Appends old new text)) e is
