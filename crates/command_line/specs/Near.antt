-- texts that are nearly the same
use Rattle.std.specs.Prelude.{◌==◌, ◌&&◌, ◌||◌, Bool, false, if◌then◌else◌, [], ◌∷◌, length, nat_le}
use Rattle.std.specs.Str.{bytes_eq}
use Rattle.clap.specs.Words.{Text}

-- whether two texts begin with the same two bytes in another order, and are the same behind them
abbrev pub are_swapped : Text → Text → Bool
are_swapped (a ∷ b ∷ more) (c ∷ d ∷ rest) = (a == d) && ((b == c) && bytes_eq more rest)
are_swapped one other = false

-- whether two texts are the same but for one byte at their beginning, each given with what is
-- behind its first byte: it is another one, one of them has it more, or it has changed places with
-- the next
abbrev pub is_mended : Text → Text → Text → Text → Bool
is_mended one more other rest =
    bytes_eq more rest || (bytes_eq one rest || (bytes_eq more other || are_swapped one other))

-- whether two texts are the same, but for one byte
unfoldable pub is_near : Text → Text → Bool
is_near [] other = nat_le (length other) 1
is_near (x ∷ more) [] = length more == 0
is_near (x ∷ more) (y ∷ rest) =
    if x == y then is_near more rest else is_mended (x ∷ more) more (y ∷ rest) rest
