use Rattle.std.proofs.Common.{take, sym}
use Rattle.std.proofs.lemmas.List.{take_all}
use Rattle.std.proofs.lemmas.List.Elements.{All-more, All-same}
use Rattle.ledger_rows.specs.Pockets.{IsPunched}
use Rattle.job_checks.proofs.told.cards_hold_characters.Goals as goal

pub loop-at-preserved : goal.loop-at-preserved
loop-at-preserved c =
    All-more IsPunched c.args.cards.now c.loop-at.at _ c.loop-at-test.true c.loop-at.invariant c.card_bytes-bytes.ensures.card

pub returns : goal.returns
returns c =
    All-same IsPunched c.args.cards.now (take c.loop-at.at c.args.cards.now) (sym (take_all c.loop-at.at c.args.cards.now c.loop-at-test.false)) c.loop-at.invariant
