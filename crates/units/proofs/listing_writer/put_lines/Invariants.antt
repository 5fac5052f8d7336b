use Rattle.std.proofs.Common.{◌≤◌, ◌++◌, List, ℕ, Option, take}
use Rattle.std.specs.Vec.{vec_capacity}
use Rattle.units.specs.declared.printer.Line.{Line}
use Rattle.units.specs.Listing.{HasListed, IsRising, most_added}
use Rattle.units.proofs.listing_writer.put_lines.Given as goal

abbrev pub invariant-loop-line : goal.invariant-loop-line
invariant-loop-line g l = record {
  listed : (first : Option (List ℕ)) (before : List Line) → IsRising (before ++ l.lines)
      → HasListed first (g.W.Write.contents l.fn.output) (record { piece = l.fn.piece.items; place = l.fn.place }) before
      → HasListed first (g.W.Write.contents l.output) (record { piece = l.piece.items; place = l.come }) (before ++ take l.line-index l.lines);
  room : most_added ≤ vec_capacity l.piece;
}
