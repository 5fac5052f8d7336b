use Rattle.std.proofs.Common.{◌≡◌, ◌∙◌, rules}
use Rattle.std.proofs.lemmas.Result.{IfOk-weaker}
use Rattle.office.specs.Jobs.{cards_by, lines_by}
use Rattle.job_archives.proofs.PageLemmas.{same_page}
use Rattle.job_archives.proofs.pages.page_of.Goals as goal

pub returns : goal.returns
returns c =
    let e = c.args.run.now in
    let lines : c.deref-4.result.now ≡ lines_by e.job = search rules in
    let cards : c.deref-5.result.now ≡ cards_by e.job = search rules in
    IfOk-weaker c.page_showing.result _ _ (λ page is. is ∙ same_page c.args.agent.now e _ _ _ _ _ _ _ _ _ (c.deref.ensures.value ∙ c.in_ok-name.ensures) c.source_in.ensures.source c.loaded_deck.ensures c.size.ensures (c.deref-2.ensures.value ∙ c.in_ok-switches.ensures) (c.deref-3.ensures.value ∙ c.in_ok-words.ensures) lines cards c.as_bytes.ensures.value) c.page_showing.ensures
