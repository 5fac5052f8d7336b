-- forms that are none
use Rattle.std.proofs.Common.{◌≡◌, ℕ, false, Option, Some, None, refl, is_some}
use Rattle.std.specs.Option.{option_and_then}
use Rattle.machine.specs.Instructions.{is_form, is_last}
use Rattle.machine.specs.Operations.{Form, form_of, meant}

-- without a form no last character is allowed
pub not_formed : (first count last : ℕ) → is_form first count ≡ false → false ≡ is_last first count last
unfolding is_form is_last
not_formed first count last h = go (form_of first count) h
  where
    go : (found : Option Form) → is_some found ≡ false → false ≡ is_some (option_and_then (λ form. meant form.last last) found)
    go (Some form) h = absurd (cc)
    go None h = refl
