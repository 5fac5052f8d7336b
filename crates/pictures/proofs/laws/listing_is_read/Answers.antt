use Rattle.pictures.proofs.ListingLaw.{pages_read}
use Rattle.pictures.proofs.laws.listing_is_read.Goals as goal

pub returns : goal.returns
returns c = pages_read
