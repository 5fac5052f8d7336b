use Rattle.std.proofs.Common.{arith, ap, sym, subst, ◌+◌, ◌∙◌, ◌++◌, map, take}
use Rattle.std.proofs.lemmas.List.{append-nil, take_all}
use Rattle.std.specs.List.{All}
use Rattle.ledger_rows.specs.Columns.{line_cells, IsLine}
use Rattle.sqlite.specs.State.{HasCleanDisk}
use Rattle.ledger_tables.specs.Steps.{seen}
use Rattle.ledger_tables.specs.Tables.{Holds, with_lines}
use Rattle.ledger_tables.proofs.Stepping.{step_still, step_then, step_ends}
use Rattle.ledger.proofs.SavingLemmas.{one_more_behind, all_more, rows_behind, lines_still, lines_place, line_pushed}
use Rattle.ledger.proofs.saving.insert_lines.Goals as goal

pub loop-place-init : goal.loop-place-init
loop-place-init g c = record {
  step = step_still g.S.Store c.args.tables.now 0;
  characters = λ k d less. absurd (omega (arith, less));
  added = λ earlier clean inside t holds there.
      lines_still (seen g.S.Store c.args.tables.now).now t c.args.name.customer.now c.args.name.number _ holds (there.are ∙ ap (map line_cells) (sym (append-nil earlier)));
}

pub loop-place-preserved : goal.loop-place-preserved
loop-place-preserved g c =
    let mid = seen g.S.Store c.loop-place.tables in
    let last = seen g.S.Store c.insert_line.new.self in
    let did = c.in_ok-insert_line.ensures in
    let was = c.loop-place.invariant in
    let early = λ (clean : HasCleanDisk last). let h : HasCleanDisk mid = omega (arith, c.insert_line.ensures.step.survives.clean) in h in
    record {
      step = step_ends g.S.Store _ _ _ _ (step_then g.S.Store _ _ _ _ _ was.step did.step);
      characters = all_more IsLine c.args.lines.now c.loop-place.place c.index-lines-place.result c.loop-place-test.true c.index-lines-place.is was.characters c.in_ok-row.ensures.line;
      added = λ earlier clean inside t holds there.
          let on = was.step.frame (early clean) inside in
          let before = was.added earlier (early clean) inside t holds there in
          let place = c.loop-place.place in
          let lines = map line_cells (earlier ++ take place c.args.lines.now) in
          let many = rows_behind line_cells earlier c.args.lines.now c.args.before place there.count (omega (arith, c.loop-place-test.true)) in
          let after = did.added clean on.inside (with_lines c.args.name.customer.now c.args.name.number lines t) before (lines_place t c.args.name.customer.now c.args.name.number lines (c.args.before + place) many) in
          line_pushed last.now t c.args.name.customer.now c.args.name.number lines (map line_cells (earlier ++ take (place + 1) c.args.lines.now)) _ (one_more_behind line_cells earlier c.args.lines.now place c.index-lines-place.result _ c.loop-place-test.true c.index-lines-place.is c.in_ok-row.ensures.row) after;
    }

pub returns-clause-added : goal.returns-clause-added
returns-clause-added g c earlier clean inside t holds has =
    subst (λ lines. Holds (seen g.S.Store c.loop-place.tables).now (with_lines c.args.name.customer.now c.args.name.number (map line_cells (earlier ++ lines)) t))
    (take_all c.loop-place.place c.args.lines.now (omega (arith, c.loop-place-test.false))) (c.loop-place.invariant.added earlier clean inside t holds has)

pub returns-clause-characters : goal.returns-clause-characters
returns-clause-characters g c =
    subst (All IsLine) (take_all c.loop-place.place c.args.lines.now (omega (arith, c.loop-place-test.false))) c.loop-place.invariant.characters
