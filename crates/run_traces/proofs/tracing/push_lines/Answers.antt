use Rattle.std.proofs.Common.{◌≡◌, ◌+◌, ◌-◌, ◌++◌, ◌∙◌, ap, suc, sym, arith, append-nil}
use Rattle.machine.specs.Run.{after, step}
use Rattle.machine.proofs.Steps.{after-after, after_one}
use Rattle.std.specs.Prelude.{option_copied}
use Rattle.run_traces.specs.Fields.{attempt_shown}
use Rattle.run_traces.specs.Traces.{is_shown}
use Rattle.run_traces.proofs.LineLemmas.{hidden_before, one_more}
use Rattle.run_traces.proofs.tracing.push_lines.Goals as goal

pub loop-number-init : goal.loop-number-init
loop-number-init g c =
    let sheet = c.args.sheet in
    let none = hidden_before (is_shown sheet.options sheet.ending) (attempt_shown (option_copied c.args.names) sheet.options.fields) c.args.machine.now (c.args.first - 1)
    (λ number some within. c.requires.before number some (omega (arith, within))) in
    record {
      machine = c.in_ok-advance.ensures.machine;
      text = sym (ap (λ lines. c.args.text.now.items ++ lines) none ∙ append-nil c.args.text.now.items);
    }

pub loop-number-preserved : goal.loop-number-preserved
loop-number-preserved g c =
    let sheet = c.args.sheet in
    let number = c.loop-number.number in
    let next : number ≡ suc (number - 1) = omega arith in
    let back : number - 1 + 1 ≡ number + 1 - 1 = omega arith in
    let same : number + 1 - 1 ≡ number = omega arith in
    let before = c.loop-number.invariant in
    record {
      machine = c.in_ok-push_if_shown.ensures.machine
          ∙ ap step before.machine
          ∙ sym (after_one (after c.args.machine.now (number - 1)))
          ∙ after-after c.args.machine.now (number - 1) 1
          ∙ ap (after c.args.machine.now) back;
      text = c.in_ok-push_if_shown.ensures.line
          ∙ one_more (is_shown sheet.options sheet.ending) (attempt_shown (option_copied c.args.names) sheet.options.fields) c.args.machine.now (number - 1) number (number + 1 - 1) c.loop-number.machine c.args.text.now.items c.loop-number.text.items next same before.machine before.text;
    }
