use Rattle.std.proofs.Common.{◌≡◌, All, drop, map}
use Rattle.serde_json.specs.View.{items_of, items_view, view}
use Rattle.queue_rounds.specs.Answers.{each_in, name_in}
use Rattle.queue_rounds.specs.Names.{IsName, name_of}
use Rattle.queue_rounds.proofs.AnswerLemmas.{read_with}
use Rattle.queue_rounds.proofs.answers.jobs_in.Given as goal

abbrev pub invariant-loop-item : goal.invariant-loop-item
invariant-loop-item l = record {
  told : read_with name_in (map name_of l.jobs.items) (items_of (map view (drop l.item-index l.items))) ≡ each_in name_in (items_view l.items);
  are_names : All IsName l.jobs.items;
}
