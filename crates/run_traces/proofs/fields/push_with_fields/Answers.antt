use Rattle.std.proofs.Common.{◌∙◌, ap}
use Rattle.machine.specs.Run.{State, step}
use Rattle.std.specs.Prelude.{option_copied}
use Rattle.run_traces.specs.Attempts.{attempt_line}
use Rattle.run_traces.specs.Fields.{field_shown}
use Rattle.run_traces.proofs.FieldLemmas.{shown}
use Rattle.run_traces.proofs.fields.push_with_fields.Goals as goal

pub returns-clause-lines : goal.returns-clause-lines
returns-clause-lines g c =
    let m = c.args.machine.now in
    shown c.args.text.now.items (attempt_line (option_copied c.args.names) c.args.number m) c.push_attempt.new.text.items c.push_fields.new.text.items
    c.deref.result.now c.deref-2.result.now
    m.works.storage (step m).works.storage c.parts-3.result.now.works.storage c.args.fields.0 c.args.fields.1
    c.in_ok-push_attempt.ensures.line
    (c.deref.ensures.value ∙ c.in_ok-a_before.ensures ∙ ap (λ (x : State). field_shown x.works.storage c.args.fields.0) c.parts.ensures.picture)
    (c.deref-2.ensures.value ∙ c.in_ok-b_before.ensures ∙ ap (λ (x : State). field_shown x.works.storage c.args.fields.1) c.parts-2.ensures.picture)
    (ap (λ (x : State). x.works.storage) (c.parts-3.ensures.picture ∙ c.in_ok-push_attempt.ensures.machine))
    c.in_ok-push_fields.ensures
