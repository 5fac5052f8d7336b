use Rattle.std.proofs.Common.{◌∙◌, ◌<◌, sym, ap, arith, false, length, get_or, List}
use Rattle.std.proofs.lemmas.List.{get_or_default}
use Rattle.autocoder_layout.specs.Source.{Line, silent, size_in}
use Rattle.autocoder_layout.proofs.SourceLemmas.{length-lines_of, size_at, size_none}
use Rattle.autocoder_layout.proofs.source.size_of.Goals as goal

pub bounds-lines-index : goal.bounds-lines-index
bounds-lines-index c =
    let found = size_at c.args.cards.now c.in-Some.index (sym c.in-Some.is ∙ c.first_control.ensures) in
    omega (arith, found.0, length-lines_of false c.args.cards.now, ap length c.requires.lines)

pub offset_bounds-lines-index : goal.offset_bounds-lines-index
offset_bounds-lines-index c =
    let found = size_at c.args.cards.now c.in-Some.index (sym c.in-Some.is ∙ c.first_control.ensures) in
    omega (arith, found.0, length-lines_of false c.args.cards.now, ap length c.requires.lines, c.requires.limit)

pub returns-in-Some : goal.returns-in-Some
returns-in-Some c =
    let i = c.in-Some.index in
    let found = size_at c.args.cards.now i (sym c.in-Some.is ∙ c.first_control.ensures) in
    let below : i < length c.args.lines.now = omega (arith, found.0, length-lines_of false c.args.cards.now, ap length c.requires.lines) in
    let line_is = c.index-lines-index.is ∙ get_or_default c.args.lines.now i _ silent below ∙ ap (λ (l : List Line). get_or l i silent) c.requires.lines in
    c.size_in.ensures ∙ ap size_in line_is ∙ sym found.1

pub returns-in-None : goal.returns-in-None
returns-in-None c = sym (size_none c.args.cards.now (sym c.in-None.is ∙ c.first_control.ensures))
