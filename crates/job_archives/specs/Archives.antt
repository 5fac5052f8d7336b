-- the files of a job's archive
use Rattle.std.specs.Prelude.{ℕ, ◌≡◌, All, List, [], ◌∷◌, codes, map}
use Rattle.cards.specs.declared.decks.Card.{Card}
use Rattle.cards.specs.Decks.{IsCard}
use Rattle.cards.specs.Files.{punch_file_of, text_of}
use Rattle.units.specs.Listing.{rendered}
use Rattle.office.specs.Jobs.{cards_by, lines_by, loaded_deck}
use Rattle.office.specs.Office.{Entry}
use Rattle.job_archives.specs.Records.{record_of}
use Rattle.job_archives.specs.declared.archives.BagFile.{BagFile}

-- the bytes of the files of an archive
pub record Files : Type 0 where
  -- `deck.text`
  pub deck : List ℕ
  -- `loaded.text`
  pub loaded : List ℕ
  -- `lines.text`
  pub lines : List ℕ
  -- `cards.punch`
  pub punched : List ℕ
  -- `cards.text`
  pub cards : List ℕ
  -- `record`
  pub facts : List ℕ

-- the cards that a job has punched, without their pockets
abbrev pub cards_of : Entry → List Card
cards_of e = map (λ c. c.card) (cards_by e.job)

-- the text of the deck as it was handed in
abbrev pub deck_file : Entry → List ℕ
deck_file e = text_of e.job.deck

-- the text of the deck that the job's machine loads
abbrev pub loaded_file : Entry → List ℕ
loaded_file e = text_of (loaded_deck e.job)

-- the listing of what the job has printed
abbrev pub lines_file : Entry → List ℕ
lines_file e = rendered (lines_by e.job)

-- the punch file of the cards that the job has punched
abbrev pub punch_file : Entry → List ℕ
punch_file e = punch_file_of (cards_of e)

-- the deck text of these cards
abbrev pub cards_file : Entry → List ℕ
cards_file e = text_of (cards_of e)

-- the files of a job's archive
abbrev pub archive_of : Entry → Files
archive_of e = record {
  deck = deck_file e;
  loaded = loaded_file e;
  lines = lines_file e;
  punched = punch_file e;
  cards = cards_file e;
  facts = record_of e (deck_file e) (loaded_file e) (lines_file e) (punch_file e) (cards_file e);
}

-- a file of a bag: its path in the bag, and its bytes
abbrev pub File : Type 0
File = List ℕ × List ℕ

-- these files, each by its path and its bytes
abbrev pub files_as : List BagFile → List File
files_as = map (λ file. (file.path.now, file.bytes.now))

-- the payload of a bag: the files of an archive, in the order of their names
abbrev pub payload_of : Files → List File
payload_of it = (codes "data/cards.punch", it.punched) ∷ (codes "data/cards.text", it.cards)
    ∷ (codes "data/deck.text", it.deck) ∷ (codes "data/lines.text", it.lines)
    ∷ (codes "data/loaded.text", it.loaded) ∷ (codes "data/record", it.facts) ∷ []

-- these cards alone have this file
abbrev pub AreOnly : (List Card → List ℕ) → List ℕ → List Card → Type 0
AreOnly file_of file cards =
    (read : List Card) → All IsCard read → file_of read ≡ file → read ≡ cards

-- what the files of a job's archive hold, read as cards, is what they were written of
pub record IsReadBack (e : Entry) : Type 0 where
  pub deck : AreOnly text_of (archive_of e).deck e.job.deck
  pub loaded : AreOnly text_of (archive_of e).loaded (loaded_deck e.job)
  pub punched : AreOnly punch_file_of (archive_of e).punched (cards_of e)
  pub cards : AreOnly text_of (archive_of e).cards (cards_of e)
