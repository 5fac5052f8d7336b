use Rattle.std.proofs.Common.{arith, sym, ap, ◌∙◌, append-nil, ◌++◌, length}
use Rattle.card_texts.specs.Changes.{changes_of_lines}
use Rattle.card_texts.proofs.ChangeLemmas.{change_step}
use Rattle.card_texts.proofs.PunchingLemmas.{is_zero, no_lines}
use Rattle.card_texts.proofs.changing.changes.Goals as goal

pub loop-rest-preserved : goal.loop-rest-preserved
loop-rest-preserved c = record {
  changes = change_step c.args.rules.now c.loop-rest.number c.split_line.result.0.now _ _ c.loop-rest.changes.items c.push_change.new.changes.items _ c.in_ok-push_change.ensures c.split_line.ensures.line c.loop-rest.invariant.changes;
  bound = omega (arith, c.loop-rest.invariant.bound, c.split_line.ensures.shorter);
}

pub returns : goal.returns
unfolding changes_of_lines
returns c =
    let none = no_lines c.loop-rest.rest.now (is_zero (length c.loop-rest.rest.now) c.loop-rest-test.ensures) in
    sym (append-nil c.loop-rest.changes.items)
    ∙ ap (λ lines. c.loop-rest.changes.items ++ changes_of_lines c.args.rules.now c.loop-rest.number lines) (sym none)
    ∙ c.loop-rest.invariant.changes
