-- how the characters of an instruction are shown
use Rattle.std.specs.Prelude.{ℕ, ◌-◌, max, min, List, ◌++◌, length, replicate, codes, Option, Some, None}
use Rattle.core_store.specs.Storage.{Storage, codes_from}
use Rattle.autocoder.specs.Listing.{blank, glyphs_of}
use Rattle.machine.specs.Word.{word_length}
use Rattle.machine.specs.Run.{State}

-- what stands behind a text at the left of a field of this width: at least one blank
abbrev pub padding : ℕ → ℕ → List ℕ
padding width count = replicate (max 1 (width - count)) blank

-- a text at the left of a field of this width, with at least one blank behind it
abbrev pub left : ℕ → List ℕ → List ℕ
left width text = text ++ padding width (length text)

-- the characters of an instruction that has so many at a position; or, where none begins there and
-- ends, the characters that there are, at most eight, and a question mark
abbrev pub characters_by : Storage → ℕ → Option ℕ → List ℕ
characters_by s i (Some count) = glyphs_of (codes_from s i count)
characters_by s i None = glyphs_of (codes_from s i (min 8 (length s - i))) ++ codes "?"

-- the characters that are shown of the instruction at a position
unfoldable pub characters_at : Storage → ℕ → List ℕ
characters_at s i = characters_by s i (word_length s i)

-- the characters of the instruction that a machine attempts next
abbrev pub characters_next : State → List ℕ
characters_next m = characters_at m.works.storage m.works.registers.i
