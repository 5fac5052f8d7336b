use Rattle.std.proofs.Common.{◌⊎◌, sym, subst, ◌∙◌}
use Rattle.office.specs.Office.{taken}
use Rattle.office_tables.specs.Standing.{LeftAs}
use Rattle.ledger.proofs.Replies.{none_is}
use Rattle.ledger.proofs.bureau.Bureau.apply.Goals as goal

pub returns-in-Err-Store-clause-crash : goal.returns-in-Err-Store-clause-crash
returns-in-Err-Store-clause-crash g c clean office s db may =
    let none = sym c.early_refusal.ensures ∙ none_is c.early_refusal.result (λ x e. c.in_default.not-Some x e) in
    subst (λ o. LeftAs db office ⊎ LeftAs db (taken c.args.command.now office o).0) (sym none) (c.transact-result.ensures.crash clean office s db may)
