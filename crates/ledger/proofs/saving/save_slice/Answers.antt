use Rattle.std.proofs.Common.{◌≡◌, ◌∙◌, Option, Some, ap, sym, arith, rules, is_some}
use Rattle.std.specs.Option.{option_map}
use Rattle.sqlite.specs.State.{HasCleanDisk}
use Rattle.ledger_tables.specs.Steps.{seen}
use Rattle.ledger_tables.specs.declared.rows.ProfileRow.{ProfileRow}
use Rattle.ledger_tables.proofs.Frames.{on_ok_then}
use Rattle.core_store.specs.Storage.{Storage}
use Rattle.ledger_rows.specs.Pages.{rows_of}
use Rattle.machine.specs.Earlier.{without_outputs}
use Rattle.machine.specs.Run.{lines_of}
use Rattle.office.specs.Jobs.{Job, picture}
use Rattle.office.specs.Kept.{Kept}
use Rattle.units.specs.Pockets.{pocket_number}
use Rattle.units.specs.declared.pockets.Pocket.{Pocket}
use Rattle.units.specs.declared.units.Counts.{Counts}
use Rattle.ledger.specs.Saving.{with_made}
use Rattle.office_tables.specs.Standing.{tables_of, stretches_of, state_of, pages_of, cards_of, pockets_of, profile_of}
use Rattle.office_tables.specs.Standing as standing
use Rattle.ledger.proofs.SavingLemmas.{on_ok_both}
use Rattle.ledger.proofs.SavingChanges.{slice_saved}
use Rattle.ledger.proofs.saving.save_slice.Goals as goal

pub returns-clause-saved : goal.returns-clause-saved
returns-clause-saved g c limit old clean inside =
    let early : HasCleanDisk (seen g.S.Store c.insert_made.new.tables) = omega (arith, c.set_progress.ensures.step.survives.clean) in
    let on = c.in_ok-insert_made.ensures.step.frame early inside in
    let cards = (picture old).works.units.punch.cards in
    let lines = lines_of (picture old) in
    let units : c.machine.inside.units ≡ c.args.job.now.machine.works.units = search rules in
    let did = rw units at (c.in_ok-insert_made.ensures.added cards lines early inside) in
    let all_cards = rw units at c.in_ok-insert_made.ensures.cards in
    let all_lines = rw units at c.in_ok-insert_made.ensures.lines in
    on_ok_then c.set_progress.result _ _
    (λ all office stands is.
    let mid = with_made c.args.name cards lines c.args.job.now.machine.works.units (tables_of office) in
    let made = did (tables_of office) stands.tables (record {
      cards = record { are = ap cards_of is.after.found; count = ap (λ (n : Counts). n.cards) is.after.counted };
      pockets = record { are = ap pockets_of is.after.found; count = ap (λ (n : Counts). n.cards) is.after.counted };
      lines = record { are = ap standing.lines_of is.after.found; count = ap (λ (n : Counts). n.lines) is.after.counted };
    }) in
    slice_saved (seen g.S.Store c.args.tables.now).now (seen g.S.Store c.set_progress.new.tables).now office c.args.name.customer.now c.args.name.number limit old c.args.job.now stands is.after.found is.after.counted is.after.is is.after.job
    (ap (λ (k : Kept). k.machine.works.units.punch.profile) is.after.made ∙ c.runs_only_add.ensures.profile (without_outputs (picture old)) limit) all.0 all_cards all_lines
    (all.1 mid made (
      record {
        rows = record { pages = ap pages_of is.after.found ∙ ap (λ (s : Storage). rows_of s) (sym is.earlier_is.storage); state = ap is_some (ap state_of is.after.found) };
        chosen = ap (λ (o : Option Job). option_map (λ (p : ProfileRow). p.chosen) (profile_of o)) is.after.found ∙ ap (λ (p : Pocket). Some (pocket_number p)) (sym is.earlier_is.chosen);
      },
      (old.stretches, limit, ap (λ (k : Kept). k.stretches) is.after.made, ap stretches_of is.after.found),
    )))
    (on_ok_both c.set_progress.result _ _ c.set_progress.ensures.characters (c.set_progress.ensures.set clean on.inside))
