-- the lines of a report
use Rattle.std.specs.Prelude.{ℕ, ℤ, ◌+◌, ◌*◌, ◌/◌, ◌%◌, ◌++◌, ◌==◌, not, if◌then◌else◌, nat_lt, List, [], ◌∷◌, count_by, flat_map, length, codes, decimal, Option, Some, None}
use Rattle.std.specs.Fmt.{signed_decimal}
use Rattle.bcd.specs.Table.{glyph_of}
use Rattle.machine.specs.Standings.{standing_words}
use Rattle.texts.specs.Made.{made_words}
use Rattle.texts.specs.declared.made.Made.{Made}
use Rattle.office.specs.Numbers.{refusal_number}
use Rattle.office.specs.declared.summaries.Summary.{Summary}
use Rattle.job_checks.specs.Outcomes.{is_as_it_ran}
use Rattle.job_checks.specs.declared.differences.Difference.{Difference}
use Rattle.job_checks.specs.declared.differences.Difference.TheVariants as difference
use Rattle.job_checks.specs.declared.differences.Found.{Found}
use Rattle.job_checks.specs.declared.differences.Found.TheVariants as found
use Rattle.job_checks.specs.declared.differences.Place.{Place}
use Rattle.job_checks.specs.declared.differences.Place.TheVariants as place
use Rattle.job_checks.specs.declared.reports.JobReport.{JobReport}
use Rattle.job_checks.specs.declared.reports.Outcome.{Outcome}
use Rattle.job_checks.specs.declared.reports.Outcome.TheVariants.{AsItRan, Differs}
use Rattle.job_checks.specs.declared.reports.Report.{Report}
use Rattle.job_checks.specs.declared.reports.Orphan.{Orphan}
use Rattle.job_checks.specs.declared.schemas.SchemaDifference.{SchemaDifference}
use Rattle.job_checks.specs.declared.schemas.SchemaDifference.TheVariants as other
use Rattle.job_checks.specs.declared.reports.Table.{Table}
use Rattle.job_checks.specs.declared.reports.Table.TheVariants as table

-- the name of a table
abbrev pub table_words : Table → List ℕ
table_words table.Bureau = codes "bureau"
table_words table.Jobs = codes "jobs"
table_words table.Stretches = codes "stretches"
table_words table.States = codes "states"
table_words table.Pages = codes "pages"
table_words table.Cards = codes "cards"
table_words table.Lines = codes "lines"
table_words table.Profiles = codes "profiles"
table_words table.Pockets = codes "pockets"

-- the name of a row of a job
abbrev pub place_words : Place → List ℕ
place_words place.Job = codes "row in jobs"
place_words (place.Stretch at) = codes "stretch " ++ decimal at
place_words place.State = codes "state"
place_words (place.Page page) = codes "page " ++ decimal page
place_words (place.Card at) = codes "card " ++ decimal at
place_words (place.Pocket at) = codes "pocket of card " ++ decimal at
place_words (place.Line at) = codes "line " ++ decimal at
place_words place.Profile = codes "profile"

-- a byte of a card, a line or a page: the glyph of its character, or its number if it has none
abbrev pub byte_words : ℕ → List ℕ
byte_words byte = if nat_lt byte 64 then glyph_of byte ∷ [] else decimal byte

-- the name of a column that differs
abbrev pub value_words : List ℕ → List ℕ
value_words name = codes " differs: " ++ name

-- a number, and the one that is wanted
abbrev pub apart_words : ℤ → ℤ → List ℕ
apart_words is wanted = codes " " ++ signed_decimal is ++ codes " and not "
    ++ signed_decimal wanted

-- a number that is not the one that is wanted, in the column of this name
abbrev pub number_words : List ℕ → ℤ → ℤ → List ℕ
number_words name is wanted = value_words name ++ apart_words is wanted

-- a byte of a deck, by its place there from 0, and the deck's name: its card and its column, each
-- from 1, where a card has 80 columns
abbrev pub card_column : List ℕ → ℕ → List ℕ
card_column name at = codes "card " ++ decimal (at / 80 + 1) ++ codes " column "
    ++ decimal (at % 80 + 1) ++ codes " of " ++ name

-- where a byte of a row is, by its place from 0 in the column of this name: of a deck in `jobs` its
-- card and column, of a page its position in storage, where a page has 100, and of a card or a line
-- its column, from 1
abbrev pub place_of_byte : Place → List ℕ → ℕ → List ℕ
place_of_byte place.Job name at = card_column name at
place_of_byte (place.Page page) name at = codes "position " ++ decimal (page * 100 + at)
place_of_byte other name at = codes "column " ++ decimal (at + 1)

-- a byte that is not the one that is wanted
abbrev pub bytes_words : ℕ → ℕ → List ℕ
bytes_words is wanted = byte_words is ++ codes " and not " ++ byte_words wanted

-- what was found at a place
abbrev pub found_words : Place → Found → List ℕ
found_words place found.Nothing = codes " is missing"
found_words place found.OneTooMany = codes " is one too many"
found_words place (found.Number name is wanted) = number_words name.now is wanted
found_words place (found.Byte name at is wanted) = codes " differs, "
    ++ place_of_byte place name.now at ++ codes ": " ++ bytes_words is wanted
found_words place (found.Value name) = value_words name.now

-- a difference of a job
abbrev pub difference_words : Difference → List ℕ
difference_words (difference.NoJob name) = codes "jobs: no " ++ name.now
difference_words (difference.Refused reason) =
    codes "the deck is refused by " ++ decimal (refusal_number reason)
difference_words (difference.NoStretch at) = codes "stretch " ++ decimal at ++ codes " is none"
difference_words difference.NoStretches = codes "the stretches are none of a job"
difference_words (difference.NotAtHalt at) =
    codes "not at a halt before stretch " ++ decimal at
difference_words difference.NoProfile = codes "the profile is none"
difference_words (difference.Row at it) = place_words at ++ found_words at it

-- what a job was granted and has made, and its flags
abbrev pub made_by : Summary → Made
made_by it = record {
  granted = it.granted;
  cards = it.cards;
  lines = it.lines;
  held = it.held;
  collected = it.collected;
}

-- how a job stands, what it was granted and has made, and its flags
unfoldable pub summary_words : Summary → List ℕ
summary_words it = standing_words it.standing ++ made_words (made_by it)

-- what came of a job
abbrev pub outcome_words : Outcome → List ℕ
outcome_words (AsItRan summary) = codes " " ++ summary_words summary ++ codes ": as it ran\n"
outcome_words (Differs it) = codes ": " ++ difference_words it ++ codes "\n"

-- the line of a job
abbrev pub job_line : JobReport → List ℕ
job_line it = it.customer.items ++ codes " " ++ signed_decimal it.number ++ outcome_words it.outcome

-- the line of an orphan row
abbrev pub orphan_line : Orphan → List ℕ
orphan_line it = table_words it.table ++ codes ": row " ++ decimal it.row
    ++ codes " is out of place\n"

-- what is told of a schema that is not a bureau's, before the name
abbrev pub schema_words : SchemaDifference → List ℕ
schema_words (other.Table name) = codes "the file has a table that a bureau's has not: "
schema_words (other.Index name) = codes "the file has an index that a bureau's has not: "
schema_words (other.View name) =
    codes "the file has a view or the like that a bureau's has not: "
schema_words (other.Lacks name) = codes "the file lacks what a bureau's has: "

-- the name that is told of a schema that is not a bureau's
abbrev pub schema_name : SchemaDifference → List ℕ
schema_name (other.Table name) = name.items
schema_name (other.Index name) = name.items
schema_name (other.View name) = name.items
schema_name (other.Lacks name) = name.items

-- the line of a schema that is not a bureau's
abbrev pub schema_line : SchemaDifference → List ℕ
schema_line it = schema_words it ++ schema_name it ++ codes "\n"

-- the line of a schema, if it is not a bureau's
abbrev pub schema_lines : Option SchemaDifference → List ℕ
schema_lines None = []
schema_lines (Some it) = schema_line it

-- the last line
abbrev pub sum_line : ℕ → ℕ → List ℕ
sum_line jobs differing = codes "jobs " ++ decimal jobs ++ codes ", " ++ decimal differing
    ++ (if differing == 1 then codes " differs\n" else codes " differ\n")

-- all lines of a report
abbrev pub report_text : Report → List ℕ
report_text report = flat_map job_line report.jobs.items ++ flat_map orphan_line report.orphans.items
    ++ schema_lines report.schema ++ sum_line (length report.jobs.items)
    (count_by (λ it. not (is_as_it_ran it.outcome)) report.jobs.items)
