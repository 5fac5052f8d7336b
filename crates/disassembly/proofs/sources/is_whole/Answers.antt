use Rattle.std.proofs.Common.{◌-◌, ◌∙◌, ap, length}
use Rattle.disassembly.proofs.WholeLemmas.{not_whole, whole_if}
use Rattle.disassembly.proofs.sources.is_whole.Goals as goal
use Rattle.disassembly.proofs.sources.is_whole.Goals.{then-is_code, else-is_code}

pub returns-in-Ok : goal.returns-in-Ok
returns-in-Ok g c =
    let s = g.C.Core.cells c.args.core.now in
    let count = c.saturating_sub-cards.ensures ∙ ap (λ cards. length cards - length c.args.data_cards.now) c.cards.ensures.cards in
    elim c.if-is_code.branch [
      | then-is_code w ↦ whole_if s c.args.start c.args.data_cards.now c.args.deck.now c.requires c.in-Ok.program c.in-Ok.ensures.program c.in_ok-is_code-in-Ok.is_code c.in_ok-is_code-in-Ok.ensures
          c.in-Ok.ensures.faultless w.if-is_code.true c.saturating_sub-cards.result count w.is_begun.result w.is_begun.ensures c.if-is_code.result w.result-is
      | else-is_code w ↦ not_whole s c.args.start c.args.data_cards.now c.args.deck.now c.requires c.in-Ok.program c.in-Ok.ensures.program c.in_ok-is_code-in-Ok.is_code c.in_ok-is_code-in-Ok.ensures
          w.if-is_code.false c.if-is_code.result (w.result-is ∙ w.if-is_code.false)
    ]
