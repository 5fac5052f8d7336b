use Rattle.std.proofs.Common.{◌≡◌, drop, map}
use Rattle.serde_json.specs.View.{items_of, items_view, view}
use Rattle.queue_rounds.specs.Answers.{each_in, job_number_in}
use Rattle.queue_rounds.proofs.AnswerLemmas.{read_with}
use Rattle.queue_rounds.proofs.answers.job_numbers_in.Given as goal

abbrev pub invariant-loop-item : goal.invariant-loop-item
invariant-loop-item l =
    read_with job_number_in l.numbers.items (items_of (map view (drop l.item-index l.items))) ≡ each_in job_number_in (items_view l.items)
