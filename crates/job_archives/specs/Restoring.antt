-- the commands of scripts that hand an archived job in again
use Rattle.std.specs.Prelude.{ℕ, ◌*◌, ◌-◌, ◌/◌, ◌%◌, ◌==◌, nat_le, Bool, List, [], ◌++◌, codes, decimal, if◌then◌else◌, length, replicate}
use Rattle.std.specs.List.{flat_map}
use Rattle.cards.specs.Files.{text_of}
use Rattle.core_store.specs.Storage.{positions_of}
use Rattle.office.specs.Office.{Entry}
use Rattle.office.specs.declared.stretches.Stretch.{Stretch}
use Rattle.job_archives.specs.Records.{kind_word}
use Rattle.texts.specs.Switches as switches

-- a command on the job of an entry: its verb, the customer and the number
unfoldable pub on_job : List ℕ → Entry → List ℕ
on_job verb e = verb ++ codes " " ++ e.customer ++ codes " " ++ decimal e.number

-- the kind, the size and the switches with which a deck is handed in
unfoldable pub setup : Entry → Stretch → List ℕ
setup e s = kind_word e.job.kind ++ codes " " ++ decimal (positions_of e.job.size) ++ codes " "
    ++ switches.text_of s.switches

-- the line of a submission, with the switches of the first stretch
unfoldable pub submission_line : Entry → Stretch → List ℕ
submission_line e s = on_job (codes "submit") e ++ codes " " ++ setup e s ++ codes " "
    ++ decimal (length e.job.deck) ++ codes "\n"

-- the submission of the deck: its line, and the cards
unfoldable pub submission : Entry → Stretch → List ℕ
submission e s = submission_line e s ++ text_of e.job.deck

-- the start of another stretch
unfoldable pub start : Entry → Stretch → List ℕ
start e s = on_job (codes "start") e ++ codes " " ++ switches.text_of s.switches ++ codes "\n"

-- a slice of so many instructions
unfoldable pub slice : Entry → ℕ → List ℕ
slice e limit = on_job (codes "slice") e ++ codes " " ++ decimal limit ++ codes "\n"

-- so many slices of 2,000 instructions
abbrev pub slices : Entry → ℕ → List ℕ
slices e count = flat_map (λ it. it) (replicate count (slice e 2000))

-- the slice of the instructions that a stretch has beyond thousands of slices of 2,000; it comes
-- before these, since a job that has halted takes none
abbrev pub rest_slice : Entry → Stretch → List ℕ
rest_slice e s = if s.granted % 2000 == 0 then [] else slice e (s.granted % 2000)

-- how many slices of 2,000 instructions stand in a part of the script of a stretch: 100,000 in each
-- but the last
abbrev pub slices_in : Stretch → ℕ → ℕ
slices_in s part = if nat_le 100000 (s.granted / 2000 - 100000 * part)
    then 100000
    else s.granted / 2000 - 100000 * part

-- the command that begins a stretch, by its place: the submission, or a start
abbrev pub beginning : Entry → ℕ → Stretch → List ℕ
beginning e at s = if at == 0 then submission e s else start e s

-- a part of the script of a stretch. The first begins with the stretch's command
unfoldable pub stretch_script : Entry → ℕ → Stretch → ℕ → List ℕ
stretch_script e at s part =
    (if part == 0 then beginning e at s ++ rest_slice e s else []) ++ slices e (slices_in s part)

-- a command on the job, if a flag is set
abbrev pub if_set : Bool → List ℕ → Entry → List ℕ
if_set flag verb e = if flag then on_job verb e ++ codes "\n" else []

-- the commands that set the job's flags
unfoldable pub flag_script : Entry → List ℕ
flag_script e = if_set e.job.held (codes "hold") e ++ if_set e.job.collected (codes "collect") e
