use Rattle.std.proofs.Common.{◌≡◌, ◌∙◌, [], ◌∷◌, ◌++◌, take, map, refl, sym, ap, subst, arith}
use Rattle.std.specs.List.{All}
use Rattle.std.proofs.lemmas.List.{take_all}
use Rattle.ledger_rows.proofs.FromCellsRows.{made_from, one_more, some_is, fits}
use Rattle.ledger_rows.proofs.from_cells.read_rows.Goals as goal

pub loop-row-init : goal.loop-row-init
loop-row-init g c = record {
  len = c.in_ok-things.ensures.len;
  room = omega (arith, c.in_ok-things.ensures.capacity);
  rows = ap (map g.T.FromCells.cells) c.in_ok-things.ensures.items;
  held = subst (All g.T.FromCells.IsHeld) (sym c.in_ok-things.ensures.items) (λ k d less. absurd (omega (arith, less)));
  same = λ all each h. c.in_ok-things.ensures.items;
}

pub push_reserved-requires : goal.push_reserved-requires
push_reserved-requires g c = omega (arith, c.loop-row-test.true, c.loop-row.invariant.len, c.loop-row.invariant.room)

pub returns-in_default-clause-all : goal.returns-in_default-clause-all
returns-in_default-clause-all g c = λ things each same.
    let made = made_from g.T.FromCells.cells g.T.FromCells.IsHeld c.args.rows.now c.loop-row.row-index c.row-item.result c.loop-row-test.true c.row-item.is things each same in
    absurd (c.in_default.not-Some _ (c.from_cells.ensures.all made.thing made.is made.row_is))

pub loop-row-preserved : goal.loop-row-preserved
loop-row-preserved g c =
    let before = c.loop-row in
    let found = before.invariant in
    let more = one_more g.T.FromCells.cells g.T.FromCells.IsHeld c.args.rows.now before.row-index c.row-item.result c.in-Some.thing before.things.items c.push_reserved.new.self.items c.loop-row-test.true c.row-item.is found.rows found.held c.in-Some.ensures.only c.push_reserved.ensures.items in
    record {
      len = omega (arith, c.push_reserved.ensures.len, found.len);
      room = omega (arith, c.push_reserved.ensures.capacity, found.room);
      rows = more.0;
      held = more.1;
      same = λ all each h.
          let made = made_from g.T.FromCells.cells g.T.FromCells.IsHeld c.args.rows.now before.row-index c.row-item.result c.loop-row-test.true c.row-item.is all each h in
          let it : c.in-Some.thing ≡ made.thing = some_is (c.in-Some.ensures.all made.thing made.is made.row_is) in
          c.push_reserved.ensures.items ∙ ap (λ xs. xs ++ c.in-Some.thing ∷ []) (found.same all each h) ∙ ap (λ x. take before.row-index all ++ x ∷ []) it ∙ sym made.next;
    }

pub returns-clause-all : goal.returns-clause-all
returns-clause-all g c = λ things each same. (
  c.loop-row.invariant.same things each same ∙ take_all c.loop-row.row-index things (fits g.T.FromCells.cells g.T.FromCells.IsHeld c.args.rows.now c.loop-row.row-index things same (omega (arith, c.loop-row-test.false))),
  refl,
)
