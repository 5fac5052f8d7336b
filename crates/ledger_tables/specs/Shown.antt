-- the columns that a query reads of a row
use Rattle.std.specs.Prelude.{ℕ, pos, List, [], ◌∷◌}
use Rattle.sqlite.specs.declared.types.Value.TheVariants.{Int, Text, Blob}
use Rattle.sqlite.specs.Order.{Row}
use Rattle.ledger_tables.specs.Cells.{JobCells, LineCells, LoadedCells, PageCells, QueuedName}
use Rattle.ledger_tables.specs.Tables.{NamedJob, state_columns}
use Rattle.ledger_tables.specs.declared.rows.NameRow.{NameRow}
use Rattle.ledger_tables.specs.declared.rows.PocketRow.{PocketRow}
use Rattle.ledger_tables.specs.declared.rows.ProfileRow.{ProfileRow}
use Rattle.ledger_tables.specs.declared.rows.ProgressRow.{ProgressRow}
use Rattle.ledger_tables.specs.declared.rows.StateRow.{StateRow}
use Rattle.ledger_tables.specs.declared.rows.StretchRow.{StretchRow}

-- the columns read of a job, without its name
abbrev pub shown_job : JobCells → Row
shown_job job = Int (pos job.kind) ∷ Int (pos job.size) ∷ Blob job.deck ∷ Blob job.loaded
    ∷ Int (pos job.held) ∷ Int (pos job.collected) ∷ []

-- the columns read of a job for its machine
abbrev pub shown_loaded : LoadedCells → Row
shown_loaded job = Int (pos job.size) ∷ Blob job.loaded ∷ Int (pos job.held)
    ∷ Int (pos job.collected) ∷ []

-- the column read of a job's number
abbrev pub shown_number : NamedJob → Row
shown_number job = Int (pos job.number) ∷ []

-- the columns read of a job for the list of a customer's jobs
abbrev pub shown_name : NameRow → Row
shown_name job = Int (pos job.number) ∷ Int (pos job.held) ∷ Int (pos job.collected) ∷ []

-- the columns read of a job for the queue
abbrev pub shown_queued : QueuedName → Row
shown_queued job = Text job.customer ∷ Int (pos job.number) ∷ []

-- the columns read of a stretch, without its job and place
abbrev pub shown_stretch : StretchRow → Row
shown_stretch s = Int (pos s.switches) ∷ Int (pos s.granted) ∷ []

-- the columns read of a state, without its job
abbrev pub shown_state : StateRow → Row
shown_state = state_columns

-- the columns read of a page, without its job
abbrev pub shown_page : PageCells → Row
shown_page p = Int (pos p.page) ∷ Blob p.storage ∷ []

-- the column read of a picture's storage
abbrev pub shown_storage : List ℕ → Row
shown_storage storage = Blob storage ∷ []

-- the columns read of a state for the job's progress
abbrev pub shown_progress : ProgressRow → Row
shown_progress p = Int (pos p.i) ∷ Int (pos p.cards) ∷ Int (pos p.lines)
    ∷ Int (pos p.standing) ∷ []

-- the column read of a card, without its job and place
abbrev pub shown_card : List ℕ → Row
shown_card card = Blob card ∷ []

-- the columns read of a line, without its job and place
abbrev pub shown_line : LineCells → Row
shown_line l = Int (pos l.form) ∷ Int (pos l.line) ∷ Blob l.image ∷ []

-- the columns read of a profile, without its job
abbrev pub shown_profile : ProfileRow → Row
shown_profile p = Int (pos p.profile) ∷ Int (pos p.chosen) ∷ []

-- the columns read of a pocket, without its job
abbrev pub shown_pocket : PocketRow → Row
shown_pocket p = Int (pos p.place) ∷ Int (pos p.pocket) ∷ []
