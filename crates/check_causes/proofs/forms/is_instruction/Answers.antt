use Rattle.std.proofs.Common.{◌∙◌, sym}
use Rattle.check_causes.proofs.FormLemmas.{not_formed}
use Rattle.check_causes.proofs.forms.is_instruction.Goals as goal

pub returns-then-not-has_form-clause-allowed : goal.returns-then-not-has_form-clause-allowed
returns-then-not-has_form-clause-allowed c = not_formed c.args.first c.args.count c.args.last (sym c.has_form.ensures ∙ c.if-not-has_form.true)
