use Rattle.films.proofs.StepLemmas.{first_line_pushed}
use Rattle.films.proofs.filming.push_first_line.Goals as goal

pub returns-clause-text : goal.returns-clause-text
returns-clause-text g c =
    first_line_pushed c.args.lines c.args.cards c.args.parts.now (g.C.Core.cells c.args.blank.now) c.args.out.now.items _ _ _ c.requires.blank c.in_ok-push.ensures.items c.in_ok-push_items.ensures.text c.in_ok-push-2.ensures.items
