use Rattle.std.proofs.Common.{sym, ◌∙◌, refl, inl}
use Rattle.ledger_files.proofs.ClosingLemmas.{ends_hindered}
use Rattle.ledger_files.proofs.RoundLemmas.{closed_link, unclosed_of, unclosed_whole}
use Rattle.ledger_files.proofs.rounds.finish.Goals as goal

pub returns-clause-cause : goal.returns-clause-cause
returns-clause-cause g c = ends_hindered c.args.bureau.broken c.args.bureau.conn c.close.result c.close.ensures.cause

pub returns-clause-link : goal.returns-clause-link
returns-clause-link g c = closed_link c.args.bureau.conn c.args.bureau.broken (sym c.broken.ensures ∙ c.if-broken.false) c.close.result c.close.ensures.clean c.close.ensures.alone

pub returns-clause-unclosed : goal.returns-clause-unclosed
returns-clause-unclosed g c = unclosed_whole c.args.bureau.conn c.args.bureau.broken (sym c.broken.ensures ∙ c.if-broken.false) c.close.result c.close.ensures.kept c.close.ensures.clean_still

pub returns-then-broken-clause-unclosed : goal.returns-then-broken-clause-unclosed
returns-then-broken-clause-unclosed g c files commands replies it =
    unclosed_of files c.args.bureau.conn c.args.bureau.broken commands replies it _ c.stop.result c.stop.ensures.clean c.stop.ensures.kept
    (inl (refl, c.stop.ensures.link files commands replies it))
