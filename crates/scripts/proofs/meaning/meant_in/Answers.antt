use Rattle.std.proofs.Common.{◌∙◌, List, ℕ, ap, map, subst}
use Rattle.std.specs.Borrow.{Bor}
use Rattle.std.proofs.lemmas.Result.{IfOk-weaker}
use Rattle.scripts.specs.Commands.{IsMeantBy}
use Rattle.scripts.proofs.MeaningLemmas.{meant_of}
use Rattle.scripts.proofs.meaning.meant_in.Goals as goal

pub returns-in-Some : goal.returns-in-Some
returns-in-Some c = IfOk-weaker c.meant_by.result _ _
    (λ it is. meant_of c.args.line.now it c.in-Some.ensures.some.0.0
    (subst (λ (ws : List (List ℕ)). IsMeantBy ws it) (ap (map (λ (w : Bor (List ℕ)). w.now)) c.as_slice.ensures ∙ c.in-Some.ensures.some.1) is))
    c.meant_by.ensures
