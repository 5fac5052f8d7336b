use Rattle.sqlite.specs.WalFiles.{image_at}
use Rattle.ledger_files.proofs.LeavingLemmas.{ended_unclosed, ended_whole}
use Rattle.ledger_files.proofs.working.with_bureau.Goals as goal

pub returns-in-Ok-open_and_work-clause-round : goal.returns-in-Ok-open_and_work-clause-round
returns-in-Ok-open_and_work-clause-round g c =
    ended_whole (image_at g.S.Start) c.in-Ok-open_and_work.bureau.conn c.in-Ok-open_and_work.bureau.broken _ c.in-Ok-open_and_work.ensures.worked c.end.result c.end.ensures.link

pub returns-in-Ok-open_and_work-clause-unfinished : goal.returns-in-Ok-open_and_work-clause-unfinished
returns-in-Ok-open_and_work-clause-unfinished g c =
    ended_unclosed (image_at g.S.Start) c.in-Ok-open_and_work.bureau.conn c.in-Ok-open_and_work.bureau.broken _ c.in-Ok-open_and_work.ensures.worked _ c.end.result c.end.ensures.unclosed

pub returns-clause-unfinished : goal.returns-clause-unfinished
returns-clause-unfinished g c =
    let refused = c.in-Err-open_and_work.ensures.refused in (
      c.in-Err-open_and_work.ensures.idle,
      record {
        refusal = c.let_go.ensures.refusal (image_at g.S.Start) c.in-Err-open_and_work.fault refused;
        answer = λ clean. (refused (c.let_go.ensures.clean clean)).answer;
        known = λ clean. (refused (c.let_go.ensures.clean clean)).known;
      },
    )
