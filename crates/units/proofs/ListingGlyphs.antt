-- the table of what the printer shows
use Rattle.std.proofs.Common.{◌≡◌, ℕ, ◌<◌, refl, eqb, get_or}
use Rattle.std.proofs.lemmas.Bool.{eqb-true}
use Rattle.bcd.proofs.Tables.{at_each}
use Rattle.bcd.specs.Table.{glyph_of}
use Rattle.units.specs.Listing.{shown}
use Rattle.units.specs.declared.listing.TheConstants.{SHOWN}

pub shown_at : (n : ℕ) → n < 64 → get_or SHOWN n 0 ≡ shown n
unfolding shown glyph_of
shown_at n h = eqb-true _ _ (at_each (λ k. eqb (get_or SHOWN k 0) (shown k)) 64 refl n h)
