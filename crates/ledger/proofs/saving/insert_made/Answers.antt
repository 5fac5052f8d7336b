use Rattle.std.proofs.Common.{◌≡◌, ◌++◌, ap, ◌∙◌, arith, rules}
use Rattle.sqlite.specs.State.{HasCleanDisk}
use Rattle.ledger_tables.specs.Steps.{seen}
use Rattle.ledger_tables.proofs.Frames.{on_ok_then}
use Rattle.ledger_tables.proofs.Stepping.{on_any}
use Rattle.units.specs.declared.units.Units.{Units}
use Rattle.ledger.specs.Saving.{with_all_cards, with_all_pockets}
use Rattle.ledger.proofs.saving.insert_made.Goals as goal

pub returns-clause-added : goal.returns-clause-added
returns-clause-added g c cards lines clean inside =
    let early : HasCleanDisk (seen g.S.Store c.insert_punched.new.tables) = omega (arith, c.insert_lines.ensures.step.survives.clean) in
    let on = c.in_ok-insert_punched.ensures.step.frame early inside in
    let punch : c.as_slice-cards.result.now ≡ c.args.units.now.punch.cards = search rules in
    let printed : c.as_slice-lines.result.now ≡ c.args.units.now.printer.lines = search rules in
    let did = rw punch at (c.in_ok-insert_punched.ensures.added cards early inside) in
    let cards_before = ap (λ (u : Units). u.before.cards) c.units.view_is in
    let lines_before = ap (λ (u : Units). u.before.lines) c.units.view_is in
    on_ok_then c.insert_lines.result _ _
    (λ more t holds has. more (with_all_pockets c.args.name (cards ++ c.args.units.now.punch.cards) (with_all_cards c.args.name (cards ++ c.args.units.now.punch.cards) t))
    (did t holds (record { are = has.cards.are; count = cards_before ∙ has.cards.count }, record { are = has.pockets.are; count = cards_before ∙ has.pockets.count }))
    (record { are = has.lines.are; count = lines_before ∙ has.lines.count }))
    (rw printed at (c.insert_lines.ensures.added lines clean on.inside))

pub returns-clause-cards : goal.returns-clause-cards
returns-clause-cards g c =
    let punch : c.as_slice-cards.result.now ≡ c.args.units.now.punch.cards = search rules in
    on_any c.insert_lines.result _ (rw punch at c.in_ok-insert_punched.ensures.characters)

pub returns-clause-lines : goal.returns-clause-lines
returns-clause-lines g c =
    let printed : c.as_slice-lines.result.now ≡ c.args.units.now.printer.lines = search rules in
    rw printed at c.insert_lines.ensures.characters
