-- what a statement on a job requires of the tables, and the tables after it
use Rattle.std.specs.Prelude.{◌≡◌, ◌+◌, ◌++◌, ◌<◌, ◌^◌, ℕ, All, Contains, List, [], ◌∷◌, length, Option, Some, None, IsSome}
use Rattle.std.specs.Option.{option_map}
use Rattle.ledger_tables.specs.Cells.{JobCells, LineCells, PageCells, Pages, Pockets}
use Rattle.ledger_tables.specs.Tables.{ByJob, Tables, job_named, with_job, with_flags, with_stretches, with_state, with_page, with_cards, with_lines, with_profile, with_chosen, with_pocket}
use Rattle.texts.specs.declared.names.JobName.{JobName}
use Rattle.ledger_tables.specs.declared.rows.PocketRow.{PocketRow}
use Rattle.ledger_tables.specs.declared.rows.ProfileRow.{ProfileRow}
use Rattle.ledger_tables.specs.declared.rows.StateRow.{StateRow}
use Rattle.ledger_tables.specs.declared.rows.StretchRow.{StretchRow}

-- what the tables hold for the job of this name
abbrev pub of_job : {X : Type 0} → JobName → ByJob X → X
of_job name kept = kept name.customer.now name.number

-- the columns of the job of this name, if there is one
abbrev pub cells_of : JobName → Tables → Option JobCells
cells_of name t = option_map (λ job. job.cells) (job_named name.customer.now name.number t.jobs)

-- the tables have no job of this name
abbrev pub HasNoJob : JobName → Tables → Type 0
HasNoJob name t = job_named name.customer.now name.number t.jobs ≡ None

-- the tables with one job more, after the others
abbrev pub with_new_job : JobName → JobCells → Tables → Tables
with_new_job name = with_job name.customer.now name.number

-- the tables with these flags of the job, if there is one
abbrev pub with_flags_of : JobName → ℕ → ℕ → Tables → Tables
with_flags_of name = with_flags name.customer.now name.number

-- the place of the job's next stretch, which is the number of stretches that it has
abbrev pub IsNextStretch : JobName → ℕ → Tables → Type 0
IsNextStretch name place t = place ≡ length (of_job name t.stretches)

-- the tables with this stretch of the job after those it had
abbrev pub with_next_stretch : JobName → StretchRow → Tables → Tables
with_next_stretch name stretch t =
    with_stretches name.customer.now name.number (of_job name t.stretches ++ stretch ∷ []) t

-- the place of the job's last stretch, counted from 0
abbrev pub IsLastStretch : JobName → ℕ → Tables → Type 0
IsLastStretch name place t = length (of_job name t.stretches) ≡ place + 1

-- the stretch rows with this as the number of instructions granted in the last
abbrev pub granted_last : ℕ → List StretchRow → List StretchRow
granted_last granted [] = []
granted_last granted (s ∷ []) = (record s { granted = granted }) ∷ []
granted_last granted (s ∷ next ∷ stretches) = s ∷ granted_last granted (next ∷ stretches)

-- the tables with this as the number of instructions granted in the job's last stretch
abbrev pub with_last_granted : JobName → ℕ → Tables → Tables
with_last_granted name granted t =
    with_stretches name.customer.now name.number (granted_last granted (of_job name t.stretches)) t

-- the job has no state
abbrev pub HasNoState : JobName → Tables → Type 0
HasNoState name t = of_job name t.states ≡ None

-- the job has a state
abbrev pub HasState : JobName → Tables → Type 0
HasState name t = IsSome (of_job name t.states)

-- the tables with this state of the job's machine
abbrev pub with_state_of : JobName → StateRow → Tables → Tables
with_state_of name = with_state name.customer.now name.number

-- the page has no row
abbrev pub HasNoPage : JobName → ℕ → Tables → Type 0
HasNoPage name page t = of_job name t.pages page ≡ None

-- the page has a row
abbrev pub HasPage : JobName → ℕ → Tables → Type 0
HasPage name page t = IsSome (of_job name t.pages page)

-- the tables with this row, or none, for a page of the job's storage
abbrev pub with_page_of : JobName → ℕ → Option (List ℕ) → Tables → Tables
with_page_of name = with_page name.customer.now name.number

-- these are the rows of pages, in some order
pub record ArePages (found : List PageCells) (pages : Pages) : Type 0 where
  pub only : All (λ it. pages it.page ≡ Some it.storage) found
  pub all : (page : ℕ) (storage : List ℕ) → pages page ≡ Some storage
      → Contains found (record { page = page; storage = storage })

-- the numbers of the pages are ones that a row can hold
abbrev pub HaveNumbers : Pages → Type 0
HaveNumbers pages = (page : ℕ) (storage : List ℕ) → pages page ≡ Some storage → page < 2 ^ 32

-- the place of the job's next card, counted from 1
abbrev pub IsNextCard : JobName → ℕ → Tables → Type 0
IsNextCard name place t = place ≡ length (of_job name t.cards) + 1

-- the tables with this card of the job after those it had
abbrev pub with_next_card : JobName → List ℕ → Tables → Tables
with_next_card name card t =
    with_cards name.customer.now name.number (of_job name t.cards ++ card ∷ []) t

-- the place of the job's next line, counted from 1
abbrev pub IsNextLine : JobName → ℕ → Tables → Type 0
IsNextLine name place t = place ≡ length (of_job name t.lines) + 1

-- the tables with this line of the job after those it had
abbrev pub with_next_line : JobName → LineCells → Tables → Tables
with_next_line name line t =
    with_lines name.customer.now name.number (of_job name t.lines ++ line ∷ []) t

-- the job has no profile
abbrev pub HasNoProfile : JobName → Tables → Type 0
HasNoProfile name t = of_job name t.profiles ≡ None

-- the tables with this profile of the job
abbrev pub with_profile_of : JobName → ProfileRow → Tables → Tables
with_profile_of name = with_profile name.customer.now name.number

-- the tables with this pocket chosen for the job's next card, if the job has a profile
abbrev pub with_chosen_of : JobName → ℕ → Tables → Tables
with_chosen_of name = with_chosen name.customer.now name.number

-- the pocket of the card at this place has no row
abbrev pub HasNoPocket : JobName → ℕ → Tables → Type 0
HasNoPocket name place t = of_job name t.pockets place ≡ None

-- the tables with this pocket of the job's card at this place
abbrev pub with_pocket_of : JobName → ℕ → ℕ → Tables → Tables
with_pocket_of name place pocket =
    with_pocket name.customer.now name.number place (Some pocket)

-- these are the rows of pockets, in some order
pub record ArePockets (found : List PocketRow) (pockets : Pockets) : Type 0 where
  pub only : All (λ it. pockets it.place ≡ Some it.pocket) found
  pub all : (place pocket : ℕ) → pockets place ≡ Some pocket
      → Contains found (record { place = place; pocket = pocket })

-- the places and the pockets are numbers that a row can hold
abbrev pub HavePocketNumbers : Pockets → Type 0
HavePocketNumbers pockets = (place pocket : ℕ) → pockets place ≡ Some pocket
    → (place < 2 ^ 32) × (pocket < 2 ^ 32)
