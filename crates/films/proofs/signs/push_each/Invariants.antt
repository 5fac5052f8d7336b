use Rattle.std.proofs.Common.{◌≡◌, ◌++◌, map, take}
use Rattle.films.specs.Signs.{glyph_on, sign_of}
use Rattle.films.proofs.signs.push_each.Given as goal

abbrev pub invariant-loop-code : goal.invariant-loop-code
invariant-loop-code l =
    l.out.items ≡ l.fn.out.items ++ map (λ code. sign_of (glyph_on l.surface code)) (take l.code-index l.codes)
