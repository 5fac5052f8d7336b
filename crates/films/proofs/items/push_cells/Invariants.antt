use Rattle.std.proofs.Common.{◌≡◌, ◌<◌, ◌++◌, ℕ, get_or, map}
use Rattle.core_store.specs.Storage.{blank_cell}
use Rattle.films.specs.Changes.{cell_is, differences, is_same_cell}
use Rattle.films.specs.Texts.{items_text}
use Rattle.films.proofs.items.push_cells.Given as goal

abbrev pub invariant-loop-position : goal.invariant-loop-position
invariant-loop-position g l = record {
  text : l.out.items ≡ l.fn.out.items ++ items_text (map (λ d. cell_is d.0 d.1) (differences is_same_cell blank_cell (g.C.Core.cells l.old) (g.C.Core.cells l.new) l.position));
  characters : (k : ℕ) → k < l.position → (get_or (g.C.Core.cells l.new) k blank_cell).0 < 64;
}
