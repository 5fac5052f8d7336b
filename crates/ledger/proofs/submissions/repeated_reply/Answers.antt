use Rattle.std.proofs.Common.{◌≡◌, ◌/◌, length, true, refl, sym, ap, ◌∙◌, arith, rules}
use Rattle.cards.specs.Decks.{deck_bytes}
use Rattle.office.specs.Jobs.{loaded_deck}
use Rattle.office.specs.Office.{is_of}
use Rattle.office.specs.declared.replies.Reply.TheVariants.{Taken}
use Rattle.ledger_tables.specs.Cells.{JobCells}
use Rattle.ledger.proofs.Replies.{cards_counted}
use Rattle.ledger.proofs.submissions.repeated_reply.Goals as goal

pub returns-in-Ok-clause-reply : goal.returns-in-Ok-clause-reply
returns-in-Ok-clause-reply c job row first can =
    let yes : is_of c.args.contents.now job ≡ true = sym (c.in_ok-is_same.ensures.same job row first) ∙ c.if-not-branch.false in
    let counted : c.len.result ≡ length c.args.handed.now.row.loaded = search rules in
    let bytes : c.len.result ≡ length (deck_bytes (loaded_deck job)) = counted ∙ ap (λ (r : JobCells). length r.loaded) row in
    rw yes (ap Taken (cards_counted job c.len.result c.in-Ok.cards can.job.loaded bytes c.in-Ok.ensures.1))

pub returns-in-Err-clause-store : goal.returns-in-Err-clause-store
returns-in-Err-clause-store c store job row can =
    let counted : c.len.result ≡ length c.args.handed.now.row.loaded = search rules in
    let bytes : c.len.result ≡ length (deck_bytes (loaded_deck job)) = counted ∙ ap (λ (r : JobCells). length r.loaded) row in
    let cards : c.len.result / 80 ≡ length (loaded_deck job) = cards_counted job c.len.result (c.len.result / 80) can.job.loaded bytes refl in
    c.in-Err.ensures (omega (arith, cards, can.job.loaded.0))
