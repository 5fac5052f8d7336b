-- for the law `reports_follow_the_assembler`
use Rattle.std.proofs.Common.{◌≡◌, ◌≢◌, List, [], ◌∷◌, refl, sym, ◌∙◌, ap}
use Rattle.cards.specs.declared.decks.Card.{Card}
use Rattle.autocoder_layout.specs.declared.card_faults.CardFault.{CardFault}
use Rattle.autocoder.specs.Programs.{IsFaultless, AreFaults}
use Rattle.autocoder.specs.declared.faults.Faults.{Faults}
use Rattle.autocoder.specs.declared.faults.Faults.TheVariants.{Source, NoMemory}
use Rattle.autocoder_listings.specs.Listing.{listing_in}
use Rattle.autocoder_listings.specs.declared.widths.Width.{Width}
use Rattle.source_reports.specs.Reports.{text_of_faults, text_by, text_for, Tells}

pub faultless_listed : (width : Width) (source : List Card) → IsFaultless source
    → text_for width source ≡ listing_in width source
unfolding text_for
faultless_listed width source none = ap (text_by width source) none

some_told : (width : Width) (source : List Card) (faults : List CardFault) → faults ≢ []
    → text_by width source faults ≡ text_of_faults source faults
some_told width source [] some = absurd (some refl)
some_told width source (fault ∷ faults) some = refl

pub faults_told : (source : List Card) (faults : Faults) → AreFaults source faults
    → Tells source faults
unfolding text_for
faults_told source (Source faulty) are =
    λ width. ap (text_by width source) (sym are.faults)
    ∙ some_told width source faulty.faults.items are.some
faults_told source NoMemory are = tt
