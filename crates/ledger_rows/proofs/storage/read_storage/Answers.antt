use Rattle.std.proofs.Common.{◌≡◌, ◌∙◌, ap, map, length, refl, subst, sym, true≢false}
use Rattle.std.proofs.lemmas.List.{length-map}
use Rattle.core_store.specs.Storage.{Storage, positions_of}
use Rattle.ledger_rows.specs.Columns.{storage_bytes, HoldsCharacters}
use Rattle.ledger_rows.specs.Pages.{AreCells, cell_of}
use Rattle.ledger_rows.proofs.StorageCells.{are_cells, are_characters, bytes_of_cells, cells_of_bytes, filled_with}
use Rattle.ledger_rows.proofs.storage.read_storage.Goals as goal

pub returns-then-not-put_cells-clause-all : goal.returns-then-not-put_cells-clause-all
returns-then-not-put_cells-clause-all g c = λ s size characters same.
    absurd (true≢false (sym (c.put_cells.ensures.cells.1 (subst AreCells (sym same) (are_cells s characters))) ∙ c.if-not-put_cells.true))

pub returns-clause-all : goal.returns-clause-all
returns-clause-all g c = λ s size characters same. (
  c.put_cells.ensures.put c.if-not-put_cells.false
      ∙ filled_with (g.C.Core.cells c.in_ok-core.core) (positions_of c.in-Some.size) c.args.bytes.now c.in_ok-core.ensures c.in-Some.ensures.found
      ∙ ap (map cell_of) same ∙ cells_of_bytes s characters,
  refl,
)

pub returns-clause-only : goal.returns-clause-only
returns-clause-only g c =
    let new = g.C.Core.cells c.put_cells.new.core in
    let bytes = c.args.bytes.now in
    let whole : new ≡ map cell_of bytes =
    c.put_cells.ensures.put c.if-not-put_cells.false
    ∙ filled_with (g.C.Core.cells c.in_ok-core.core) (positions_of c.in-Some.size) bytes c.in_ok-core.ensures c.in-Some.ensures.found in (
      ap storage_bytes whole ∙ bytes_of_cells bytes,
      (c.in-Some.size, ap (λ (u : Storage). length u) whole ∙ length-map bytes cell_of ∙ sym c.in-Some.ensures.found),
      subst HoldsCharacters (sym whole) (are_characters bytes (c.put_cells.ensures.cells.0 c.if-not-put_cells.false)),
    )
