-- the fields that an attempt works at
use Rattle.std.specs.Prelude.{ℕ, ◌+◌, ◌-◌, ◌==◌, nat_lt, bytes_eq, if◌then◌else◌, Bool, List, [], ◌++◌, length, codes, Option, Some, None}
use Rattle.core_store.specs.Storage.{Storage, codes_from, field_length}
use Rattle.autocoder.specs.Listing.{glyphs_of, line_text, position_field}
use Rattle.machine.specs.Run.{State, step}
use Rattle.check_causes.specs.Worked.{fields_worked}
use Rattle.run_traces.specs.Attempts.{attempt_line}
use Rattle.run_traces.specs.Names.{Named}

-- that no field ends at a position
abbrev pub unmarked_words : ℕ → List ℕ
unmarked_words p = codes "no mark at " ++ position_field p ++ codes " or to the left of it"

-- that the storage has no such position
abbrev pub past_words : ℕ → List ℕ
past_words p = codes "past the storage: " ++ position_field p

-- the field of so many characters that ends at a position, if one ends there
abbrev pub field_by : Storage → ℕ → Option ℕ → List ℕ
field_by s p None = unmarked_words p
field_by s p (Some count) = position_field (p + 1 - count) ++ codes " to " ++ position_field p
    ++ codes ": " ++ glyphs_of (codes_from s (p + 1 - count) count)

-- the field that ends at a position, if the storage has the position
unfoldable pub field_shown : Storage → ℕ → List ℕ
field_shown s p = if nat_lt p (length s) then field_by s p (field_length s p)
    else past_words p

-- the line of a field before an attempt
abbrev pub before_line : List ℕ → List ℕ → List ℕ
before_line name field = line_text (codes "              " ++ name ++ field)

-- the line of a field after an attempt, if it is another than before
unfoldable pub after_line : List ℕ → List ℕ → List ℕ
after_line before after = if bytes_eq before after then []
    else line_text (codes "             -> " ++ after)

-- the lines of a field that is shown so before an attempt, and so after it
abbrev pub both_lines : List ℕ → List ℕ → List ℕ → List ℕ
both_lines name before after = before_line name before ++ after_line before after

-- the lines of the field that ends at a position, in the storage before an attempt and after it
abbrev pub field_lines : List ℕ → Storage → Storage → ℕ → List ℕ
field_lines name before after p = both_lines name (field_shown before p) (field_shown after p)

-- the lines of the fields at these two positions, or of the one if they are the same
unfoldable pub fields_lines : Storage → Storage → Option (ℕ × ℕ) → List ℕ
fields_lines before after None = []
fields_lines before after (Some (a, b)) = field_lines (codes "A ") before after a
    ++ (if a == b then [] else field_lines (codes "B ") before after b)

-- the lines of the fields at which a machine's next instruction works, before it and after it
abbrev pub fields_shown : State → List ℕ
fields_shown m = fields_lines m.works.storage (step m).works.storage (fields_worked m.works)

-- the line of an attempt, and if it is asked for the lines of the fields that it works at
unfoldable pub attempt_shown : Option Named → Bool → ℕ → State → List ℕ
attempt_shown names with_fields number m =
    attempt_line names number m ++ (if with_fields then fields_shown m else [])
