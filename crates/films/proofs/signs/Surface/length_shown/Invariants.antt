use Rattle.std.proofs.Common.{◌≡◌, ◌≤◌, ◌<◌, ℕ, length, get_or}
use Rattle.units.specs.Listing.{blank}
use Rattle.films.specs.Signs.{glyph_on}
use Rattle.films.proofs.signs.Surface.length_shown.Given as goal

abbrev pub invariant-loop-length : goal.invariant-loop-length
invariant-loop-length l = (k : ℕ) → l.length ≤ k → k < length l.codes → glyph_on l.self (get_or l.codes k 0) ≡ blank
