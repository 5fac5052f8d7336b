use Rattle.std.proofs.Common.{subst}
use Rattle.card_forms.specs.declared.Form.TheVariants as form
use Rattle.card_texts.specs.Taking.{IsTextIf}
use Rattle.card_texts.proofs.TakingLemmas.{none_binary, one_binary}
use Rattle.card_texts.proofs.taking.binary_reading.Goals as goal

pub returns-in-Some-clause-found : goal.returns-in-Some-clause-found
returns-in-Some-clause-found c = λ rules. one_binary rules c.args.bytes.now c.in-Some.text
    (subst (IsTextIf form.Binary c.args.bytes.now) c.in-Some.is c.in_ok-text.ensures.found)

pub returns-in-None-clause-found : goal.returns-in-None-clause-found
returns-in-None-clause-found c = λ rules. none_binary rules c.args.bytes.now
    (subst (IsTextIf form.Binary c.args.bytes.now) c.in-None.is c.in_ok-text.ensures.found)
