use Rattle.std.proofs.Common.{◌∙◌, ◌+◌, ap, drop, map, sym}
use Rattle.serde_json.specs.View.{items_of, view}
use Rattle.queue_rounds.specs.Answers.{job_number_in}
use Rattle.queue_rounds.proofs.AnswerLemmas.{all_read, none_more, one_more, read_with}
use Rattle.queue_rounds.proofs.answers.job_numbers_in.Goals as goal

pub returns-in-None : goal.returns-in-None
returns-in-None c =
    let is = sym c.in-None.is ∙ c.job_number_in.ensures ∙ ap (λ x. job_number_in (view x)) c.item-item.is in
    sym (none_more job_number_in view c.args.items.now c.loop-item.item-index _ c.loop-item.numbers.items c.loop-item-test.true is)
    ∙ c.loop-item.invariant

pub loop-item-preserved : goal.loop-item-preserved
loop-item-preserved c =
    let is = sym c.in-Some.is ∙ c.job_number_in.ensures ∙ ap (λ x. job_number_in (view x)) c.item-item.is in
    ap (λ numbers. read_with job_number_in numbers (items_of (map view (drop (c.loop-item.item-index + 1) c.args.items.now)))) c.in_ok-push-in-Some.ensures.items
    ∙ one_more job_number_in view c.args.items.now c.loop-item.item-index _ c.loop-item.numbers.items c.in-Some.number c.loop-item-test.true is
    ∙ c.loop-item.invariant

pub returns : goal.returns
returns c =
    sym (all_read job_number_in view c.args.items.now c.loop-item.item-index c.loop-item.numbers.items c.loop-item-test.false)
    ∙ c.loop-item.invariant
