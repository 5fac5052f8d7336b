use Rattle.std.proofs.Common.{◌≡◌, ◌++◌, take}
use Rattle.std.specs.List.{flat_map}
use Rattle.autocoder_listings.specs.Rows.{glyphs_shown}
use Rattle.autocoder_listings.proofs.rows.push_characters.Given as goal

abbrev pub invariant-loop-cell : goal.invariant-loop-cell
invariant-loop-cell l = l.line.items ≡ l.initial.line.items ++ flat_map glyphs_shown (take l.cell-index l.row)
