-- the names of jobs, as texts and numbers
use Rattle.std.specs.Prelude.{ℕ, Bool, List, [], ◌∷◌, ◌&&◌, ◌||◌, ◌==◌, ◌≡◌, true, false, not, filter, string_bytes}
use Rattle.std.specs.Str.{bytes_eq}
use Rattle.texts.specs.Names.{is_customer, is_number}
use Rattle.queue_rounds.specs.declared.jobs.JobName.{JobName}

-- the name of a job: its customer and its number
abbrev pub Name : Type 0
Name = List ℕ × ℕ

-- what a job name says
abbrev pub name_of : JobName → Name
name_of job = (string_bytes job.customer, job.number)

-- a bureau can have a job of this name
abbrev pub IsName : JobName → Type 0
IsName job =
    (is_customer (string_bytes job.customer) ≡ true) × (is_number job.number ≡ true)

-- whether two names are of one job
abbrev pub is_same : Name → Name → Bool
is_same one other = bytes_eq one.0 other.0 && (one.1 == other.1)

-- whether a job is among these
unfoldable pub is_among : List Name → Name → Bool
is_among [] name = false
is_among (first ∷ names) name = is_same first name || is_among names name

-- those of these jobs that are not among the others
abbrev pub missing : List Name → List Name → List Name
missing names others = filter (λ name. not (is_among others name)) names
