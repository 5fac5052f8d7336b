use Rattle.std.proofs.Common.{◌∙◌, ◌+◌, All, IfSome, ap, drop, map, sym, subst, [], ◌∷◌}
use Rattle.std.specs.Prelude.{option_map}
use Rattle.std.proofs.lemmas.List.{map-append}
use Rattle.std.proofs.lemmas.List.Elements.{All-push}
use Rattle.serde_json.specs.View.{items_of, view}
use Rattle.queue_rounds.specs.Answers.{name_in}
use Rattle.queue_rounds.specs.Names.{IsName, name_of}
use Rattle.queue_rounds.proofs.AnswerLemmas.{all_read, none_more, one_more, read_with}
use Rattle.queue_rounds.proofs.answers.jobs_in.Goals as goal

pub returns-in-None-clause-told : goal.returns-in-None-clause-told
returns-in-None-clause-told c =
    let is = ap (option_map name_of) (sym c.in-None.is) ∙ c.in_ok-job.ensures.told ∙ ap (λ x. name_in (view x)) c.item-item.is in
    sym (none_more name_in view c.args.items.now c.loop-item.item-index _ (map name_of c.loop-item.jobs.items) c.loop-item-test.true is)
    ∙ c.loop-item.invariant.told

pub loop-item-preserved : goal.loop-item-preserved
loop-item-preserved c = record {
  told =
      let is = ap (option_map name_of) (sym c.in-Some.is) ∙ c.in_ok-job.ensures.told ∙ ap (λ x. name_in (view x)) c.item-item.is in
      ap (λ names. read_with name_in names (items_of (map view (drop (c.loop-item.item-index + 1) c.args.items.now))))
      (ap (map name_of) c.in_ok-push-in-Some.ensures.items ∙ map-append name_of c.loop-item.jobs.items (c.in-Some.job ∷ []))
      ∙ one_more name_in view c.args.items.now c.loop-item.item-index _ (map name_of c.loop-item.jobs.items) (name_of c.in-Some.job) c.loop-item-test.true is
      ∙ c.loop-item.invariant.told;
  are_names = subst (All IsName) (sym c.in_ok-push-in-Some.ensures.items) (All-push IsName c.loop-item.jobs.items c.in-Some.job
      c.loop-item.invariant.are_names (subst (λ found. IfSome found IsName) c.in-Some.is c.in_ok-job.ensures.is_name));
}

pub returns-clause-told : goal.returns-clause-told
returns-clause-told c =
    sym (all_read name_in view c.args.items.now c.loop-item.item-index (map name_of c.loop-item.jobs.items) c.loop-item-test.false)
    ∙ c.loop-item.invariant.told
