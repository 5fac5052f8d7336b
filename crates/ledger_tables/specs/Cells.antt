-- the columns of a row, without the job that it names and its place
use Rattle.std.specs.Prelude.{ℕ, bytes_eq, if◌then◌else◌, List, replicate, Option, Some, None}

-- the columns of a job's row: kind, size, deck, the deck that its machine loads, and flags
pub record JobCells : Type 0 where
  pub kind : ℕ
  pub size : ℕ
  pub deck : List ℕ
  pub loaded : List ℕ
  pub held : ℕ
  pub collected : ℕ

-- the columns of a job's row that its machine needs: size, the deck that it loads, and flags
pub record LoadedCells : Type 0 where
  pub size : ℕ
  pub loaded : List ℕ
  pub held : ℕ
  pub collected : ℕ

-- the columns of a page's row: its number, from 0, and its bytes
pub record PageCells : Type 0 where
  pub page : ℕ
  pub storage : List ℕ

-- the bytes of the pages of a job's storage that have a row, by number
abbrev pub Pages : Type 0
Pages = ℕ → Option (List ℕ)

-- no page has a row
abbrev pub no_pages : Pages
no_pages page = None

-- the bytes of a page in which each position is blank and has no mark
abbrev pub blank_bytes : List ℕ
blank_bytes = replicate 100 0

-- a page's bytes, or none if they are blank
abbrev pub unless_blank : Option (List ℕ) → Option (List ℕ)
unless_blank None = None
unless_blank (Some storage) = if bytes_eq storage blank_bytes then None else Some storage

-- the pockets of a job's punched cards that are not in the normal one, by place
abbrev pub Pockets : Type 0
Pockets = ℕ → Option ℕ

-- each card is in the normal pocket
abbrev pub no_pockets : Pockets
no_pockets place = None

-- the columns of a job's row that are its name
pub record QueuedName : Type 0 where
  pub customer : List ℕ
  pub number : ℕ

-- the columns of a printed line's row: form, line and the characters
pub record LineCells : Type 0 where
  pub form : ℕ
  pub line : ℕ
  pub image : List ℕ
