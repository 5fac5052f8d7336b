use Rattle.std.proofs.Common.{◌≡◌, ◌++◌, take}
use Rattle.card_tools.specs.Lines.{glyphs_of}
use Rattle.card_tools.proofs.lines.push_glyphs.Given as goal

abbrev pub invariant-loop-code : goal.invariant-loop-code
invariant-loop-code l = l.out.items ≡ l.fn.out.items ++ glyphs_of (take l.code-index l.codes)
