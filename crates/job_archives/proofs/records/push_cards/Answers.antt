use Rattle.std.proofs.Common.{◌∙◌, ◌++◌, ap, append_assoc, codes}
use Rattle.std.proofs.lemmas.Result.{on_ok_weaker}
use Rattle.job_archives.specs.Records.{card_digests, digest_line}
use Rattle.job_archives.proofs.records.push_cards.Goals as goal

pub returns : goal.returns
unfolding card_digests
returns c =
    on_ok_weaker c.push_file-2.result (λ second. second ∙ ap (λ all. all ++ digest_line (codes "cards.text") c.args.cards.now) c.in_ok-push_file.ensures
    ∙ append_assoc c.args.out.now.items (digest_line (codes "cards.punch") c.args.punched.now) (digest_line (codes "cards.text") c.args.cards.now)) c.push_file-2.ensures
