use Rattle.std.proofs.Common.{◌≡◌, ◌∙◌, rules}
use Rattle.std.proofs.lemmas.Result.{IfOk-weaker}
use Rattle.machine.specs.Run.{lines_of}
use Rattle.job_pages.proofs.ShownPages.{same_page}
use Rattle.job_pages.proofs.pages.page_for.Goals as goal

pub returns : goal.returns
returns c =
    let it = c.args.subject.now in
    let m = c.args.job.now.machine in
    let lines : c.deref.result.now ≡ lines_of m = search rules in
    let cards : c.deref-2.result.now ≡ m.works.units.punch.cards = search rules in
    IfOk-weaker c.page_with.result _ _ (λ page is. is ∙ same_page it.name.now it.source.now m it.size it.switches it.version.now c.args.job.now.deck c.as_bytes.result.now c.deref-3.result.now c.deref.result.now c.deref-2.result.now c.requires.deck (c.as_bytes.ensures.value ∙ c.in_ok-words.ensures) (c.deref-3.ensures.value ∙ c.requires.code) lines cards) c.page_with.ensures
