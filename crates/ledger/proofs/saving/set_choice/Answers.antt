use Rattle.std.proofs.Common.{◌∙◌, ap, sym, Some}
use Rattle.ledger_tables.specs.Steps.{seen}
use Rattle.ledger.proofs.SavingPockets.{choice_stays}
use Rattle.ledger.proofs.saving.set_choice.Goals as goal

pub returns-then-chosen-earlier-clause-set : goal.returns-then-chosen-earlier-clause-set
returns-then-chosen-earlier-clause-set g c clean inside t holds has =
    choice_stays (seen g.S.Store c.args.tables.now).now t c.args.name.customer.now c.args.name.number c.args.chosen (has ∙ ap (λ n. Some n) (sym c.if-chosen-earlier.true)) holds
