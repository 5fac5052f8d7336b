use Rattle.std.proofs.Common.{◌∙◌, ◌+◌, ℕ, Bool, ap, arith, get_or, length, set, sym, refl}
use Rattle.std.proofs.lemmas.List.{length-set}
use Rattle.core_store.specs.Storage.{Storage}
use Rattle.ledger_rows.proofs.StorageCells.{cells_more, none_written, one_written}
use Rattle.ledger_rows.proofs.storage.put_cells.Goals as goal

pub loop-place-init : goal.loop-place-init
loop-place-init g c = record {
  put = sym (none_written (g.C.Core.cells c.args.core.now) c.args.first (omega (arith, c.requires.room)));
  cells = λ k d less. absurd (omega (arith, less));
  size = refl;
}

pub loop-place-preserved : goal.loop-place-preserved
loop-place-preserved g c =
    let s = g.C.Core.cells c.args.core.now in
    let loop = c.loop-place.invariant in
    let place = c.loop-place.place in
    let bytes = c.args.bytes.now in
    let cell : ℕ × Bool = (c.in-Some.cell.code, c.in-Some.cell.marked) in
    record {
      put = c.put_cell.ensures ∙ ap (λ (u : Storage). set u (c.args.first + place) cell) loop.put ∙ one_written s c.args.first place (get_or bytes place 0) bytes cell c.requires.room c.loop-place-test.true refl c.in-Some.ensures.is;
      cells = cells_more bytes place (get_or bytes place 0) c.loop-place-test.true refl (c.in-Some.ensures.below refl) loop.cells;
      size = ap length c.put_cell.ensures ∙ length-set _ _ _ ∙ loop.size;
    }
