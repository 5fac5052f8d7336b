use Rattle.std.proofs.Common.{◌≡◌, ◌++◌}
use Rattle.std.specs.List.{flat_map, range_with_len}
use Rattle.source_reports.specs.ExpectedOperands.{glyph_if_taken}
use Rattle.source_reports.proofs.expected_operands.push_taken_glyphs.Given as goal

abbrev pub invariant-loop-number : goal.invariant-loop-number
invariant-loop-number l = l.text.items
    ≡ l.initial.text.items ++ flat_map (glyph_if_taken l.modifiers) (range_with_len 0 l.number)
