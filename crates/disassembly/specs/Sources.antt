-- a source that is the code in a storage
use Rattle.std.specs.Prelude.{ℕ, ◌≡◌, ◌<◌, ◌≤◌, ◌++◌, List, drop, length}
use Rattle.cards.specs.declared.decks.Card.{Card}
use Rattle.core_store.specs.Storage.{Storage, blank_storage, cell_at}
use Rattle.autocoder_layout.specs.Judging.{first_free}
use Rattle.autocoder_layout.specs.Source.{source_of}
use Rattle.autocoder_layout.specs.declared.cells.Cell.{Cell}
use Rattle.autocoder.specs.Programs.{IsFaultless, image_for, size_for, start_for}
use Rattle.loader.specs.Loading.{filled_with}

-- two storages have the same character and the same word mark at each position that a source may
-- fill
abbrev pub HaveSameCode : Storage → Storage → Type 0
HaveSameCode s other =
    (p : ℕ) → first_free ≤ p → p < length s → cell_at other p ≡ cell_at s p

-- a machine of so many positions with this image, blank else, has the characters and the word marks
-- of a storage at each position that a source may fill
pub record IsImageOf (s : Storage) (positions : ℕ) (image : List Cell) : Type 0 where
  pub size : positions ≡ length s
  pub same : HaveSameCode s (filled_with (blank_storage positions) image)

-- a source has no faults, and its image is that of a storage
pub record IsCodeOf (s : Storage) (source : List Card) : Type 0 where
  pub faultless : IsFaultless source
  pub image : IsImageOf s (size_for source) (image_for source)

-- a deck ends with these data cards
abbrev pub EndsWith : List Card → List Card → Type 0
EndsWith cards deck = (made : List Card) × (deck ≡ made ++ cards)

-- a deck is whole: a source that is the code in a storage and starts at this position, and behind
-- its END these data cards and no other card
pub record IsWhole (s : Storage) (start : ℕ) (data_cards deck : List Card) : Type 0 where
  pub code : IsCodeOf s (source_of deck)
  pub start_is : start_for (source_of deck) ≡ start
  pub data_is : drop (length (source_of deck)) deck ≡ data_cards
