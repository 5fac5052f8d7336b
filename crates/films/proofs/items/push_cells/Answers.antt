use Rattle.std.proofs.Common.{◌≡◌, ℕ, Bool, ◌<◌, ◌++◌, ◌∙◌, ap, ap₂, arith, length, map}
use Rattle.std.proofs.lemmas.List.Elements.{All-from_get_or}
use Rattle.core_store.specs.Storage.{blank_cell}
use Rattle.films.specs.Changes.{cell_is, differences, is_same_cell}
use Rattle.films.specs.Texts.{cell_words, items_text}
use Rattle.films.proofs.ItemLemmas.{cell_on, held_more, none_differ}
use Rattle.films.proofs.items.push_cells.Goals as goal

pub loop-position-init : goal.loop-position-init
loop-position-init g c = record {
  text = none_differ cell_is is_same_cell blank_cell (g.C.Core.cells c.args.old.now) (g.C.Core.cells c.args.new.now) c.args.out.now.items;
  characters = λ k below. absurd (omega arith);
}

pub loop-position-preserved : goal.loop-position-preserved
loop-position-preserved g c = record {
  text = c.in_ok-push_cell.ensures
      ∙ ap₂ (λ (x y : ℕ × Bool). c.loop-position.out.items ++ cell_words c.loop-position.position x y) c.cell_at-before.ensures.cell c.cell_at-now.ensures.cell
      ∙ cell_on (g.C.Core.cells c.args.old.now) (g.C.Core.cells c.args.new.now) c.loop-position.position c.args.out.now.items c.loop-position.out.items c.loop-position.invariant.text;
  characters = held_more (g.C.Core.cells c.args.new.now) c.loop-position.position c.cell_at-now.result c.loop-position.invariant.characters c.cell_at-now.ensures.cell c.cell_at-now.ensures.character;
}

pub returns-clause-text : goal.returns-clause-text
returns-clause-text g c =
    let whole : c.loop-position.position ≡ length (g.C.Core.cells c.args.new.now) = omega (arith, c.loop-position-test.false) in
    c.loop-position.invariant.text
    ∙ ap (λ n. c.args.out.now.items ++ items_text (map (λ d. cell_is d.0 d.1) (differences is_same_cell blank_cell (g.C.Core.cells c.args.old.now) (g.C.Core.cells c.args.new.now) n))) whole

pub returns-clause-characters : goal.returns-clause-characters
returns-clause-characters g c =
    All-from_get_or (λ cell. cell.0 < 64) (g.C.Core.cells c.args.new.now) blank_cell (λ k within. c.loop-position.invariant.characters k (omega (arith, within, c.loop-position-test.false)))
