use Rattle.std.proofs.Common.{◌≡◌, ◌++◌, map, take}
use Rattle.bcd.specs.Table.{glyph_of}
use Rattle.autocoder.proofs.lines.push_glyphs.Given as goal

abbrev pub invariant-loop-code : goal.invariant-loop-code
invariant-loop-code l = l.line.items ≡ l.initial.line.items ++ map glyph_of (take l.code-index l.codes)
