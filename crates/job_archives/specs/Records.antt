-- the record of a job: a word and its values a line
use Rattle.std.specs.Prelude.{ℕ, ◌+◌, Bool, true, false, List, [], ◌∷◌, ◌++◌, codes, decimal, flat_map}
use Rattle.core_store.specs.Storage.{positions_of}
use Rattle.machine.specs.Standings.{standing_words}
use Rattle.office.specs.Jobs.{cards_by}
use Rattle.office.specs.Kept.{kept_of, summary_of}
use Rattle.office.specs.Office.{Entry}
use Rattle.office.specs.declared.commands.Kind.{Kind}
use Rattle.office.specs.declared.commands.Kind.TheVariants.{Object, Autocoder}
use Rattle.office.specs.declared.stretches.Stretch.{Stretch}
use Rattle.office.specs.declared.summaries.Summary.{Summary}
use Rattle.texts.specs.Digests.{digest_of}
use Rattle.texts.specs.Switches as switches
use Rattle.units.specs.declared.pockets.Pocket.{Pocket}
use Rattle.units.specs.declared.pockets.Pocket.TheVariants.{Normal, Four, Eight}
use Rattle.units.specs.declared.profiles.Profile.{Profile}
use Rattle.units.specs.declared.profiles.Profile.TheVariants.{Plain, Selecting}
use Rattle.units.specs.declared.punch.Punched.{Punched}

-- a line with a word and its value
abbrev pub line : List ℕ → List ℕ → List ℕ
line word value = word ++ codes " " ++ value ++ codes "\n"

-- the word for a kind
abbrev pub kind_word : Kind → List ℕ
kind_word Object = codes "object"
kind_word Autocoder = codes "autocoder"

-- the word for a profile: 1 without stacker selection, 2 with it
abbrev pub profile_word : Profile → List ℕ
profile_word Plain = codes "1"
profile_word Selecting = codes "2"

-- the word for a flag
abbrev pub yes_or_no : Bool → List ℕ
yes_or_no true = codes "yes"
yes_or_no false = codes "no"

-- the line of a stretch: the letters of its switches, and how many instructions were granted in it
abbrev pub stretch_line : Stretch → List ℕ
stretch_line s = codes "stretch " ++ switches.text_of s.switches ++ codes " " ++ decimal s.granted
    ++ codes "\n"

-- the line of a file: its name, and the digest of its bytes, as `sha256sum --tag` writes it
unfoldable pub digest_line : List ℕ → List ℕ → List ℕ
digest_line name bytes = codes "SHA256 (" ++ name ++ codes ") = " ++ digest_of bytes ++ codes "\n"

-- the lines of a job's name
unfoldable pub name_lines : Entry → List ℕ
name_lines e = line (codes "customer") e.customer ++ line (codes "number") (decimal e.number)

-- the lines of what was handed in with a job's deck, and of the profile of its machine
unfoldable pub machine_lines : Entry → List ℕ
machine_lines e = line (codes "kind") (kind_word e.job.kind)
    ++ line (codes "size") (decimal (positions_of e.job.size))
    ++ line (codes "profile") (profile_word e.job.profile)

-- the lines of how a job stands
unfoldable pub standing_lines : Summary → List ℕ
standing_lines summary = line (codes "standing") (standing_words summary.standing)
    ++ line (codes "held") (yes_or_no summary.held)
    ++ line (codes "collected") (yes_or_no summary.collected)

-- the lines of how many cards and lines a job has made
unfoldable pub made_lines : Summary → List ℕ
made_lines summary = line (codes "cards") (decimal summary.cards)
    ++ line (codes "lines") (decimal summary.lines)

-- the line of a card's pocket, with the card's place among all that were punched
abbrev pub apart_line : ℕ → ℕ → List ℕ
apart_line place pocket = codes "pocket " ++ decimal place ++ codes " " ++ decimal pocket
    ++ codes "\n"

-- the line of a card in this pocket; a card in the normal one has none
abbrev pub pocket_line : ℕ → Pocket → List ℕ
pocket_line place Normal = []
pocket_line place Four = apart_line place 4
pocket_line place Eight = apart_line place 8

-- the lines of the pockets of cards whose places rise by one from the first
abbrev pub pocket_lines : ℕ → List Punched → List ℕ
pocket_lines first [] = []
pocket_lines first (c ∷ cards) = pocket_line first c.pocket ++ pocket_lines (first + 1) cards

-- the lines of the files of what was handed in and loaded
unfoldable pub deck_digests : List ℕ → List ℕ → List ℕ
deck_digests deck loaded =
    digest_line (codes "deck.text") deck ++ digest_line (codes "loaded.text") loaded

-- the lines of the two files of the punched cards
unfoldable pub card_digests : List ℕ → List ℕ → List ℕ
card_digests punched cards =
    digest_line (codes "cards.punch") punched ++ digest_line (codes "cards.text") cards

-- the lines of a job's files with these bytes
unfoldable pub digest_lines : List ℕ → List ℕ → List ℕ → List ℕ → List ℕ → List ℕ
digest_lines deck loaded lines punched cards = deck_digests deck loaded
    ++ digest_line (codes "lines.text") lines ++ card_digests punched cards

-- the record of a job with these files: its name, its kind, size and profile, a line for each
-- stretch, how it stands, how much it has made, the pockets of its cards, and its files
unfoldable pub record_of : Entry → List ℕ → List ℕ → List ℕ → List ℕ → List ℕ → List ℕ
record_of e deck loaded lines punched cards =
    let summary : Summary = summary_of (kept_of e.job) in
    name_lines e ++ machine_lines e ++ flat_map stretch_line e.job.stretches
    ++ standing_lines summary ++ made_lines summary ++ pocket_lines 1 (cards_by e.job)
    ++ digest_lines deck loaded lines punched cards
