-- why an operation on fields is stopped
use Rattle.std.specs.Prelude.{ℕ, zero, suc, ◌+◌, ◌-◌, nat_lt, nat_le, max, not, length, Bool, if◌then◌else◌, Option, Some, None, is_some, Result, Ok, Err}
use Rattle.bcd.specs.Table.{glyph_of, digit_of}
use Rattle.core_store.specs.Storage.{Storage, code_at, codes_ending, field_length}
use Rattle.core_store.specs.Operands.{cut_length, is_overlapping}
use Rattle.addresses.specs.Effective.{base_ending}
use Rattle.arith.specs.declared.operands.Counts.{Counts}
use Rattle.moves.specs.Moved.{move_length}
use Rattle.moves.specs.Edited.{is_sharing, places}
use Rattle.machine.specs.declared.operations.FieldOperation.{FieldOperation}
use Rattle.machine.specs.declared.operations.FieldOperation.TheVariants.{Add, Subtract, ZeroAdd, ZeroSubtract, Compare, ModifyAddress, Move, Load, MoveDigit, MoveZone, Suppress, Edit, SetMark, ClearMark}
use Rattle.check_causes.specs.declared.causes.Cause.{Cause}
use Rattle.check_causes.specs.declared.causes.Cause.TheVariants.{FieldPast, NoFieldMark, TooFew, MarkWrittenOver, NoDigit, NoNumber, Overlap}
use Rattle.check_causes.specs.Tested.{Tested, passed, needs, finds, after, given}

-- a position is in storage
unfoldable pub place_told : Storage → ℕ → Tested
place_told s p = needs (nat_lt p (length s)) (FieldPast p) passed

-- both positions are in storage
unfoldable pub places_told : Storage → ℕ → ℕ → Tested
places_told s a b = after (place_told s a) (place_told s b)

-- so many characters can end at a position
unfoldable pub room_told : ℕ → ℕ → Tested
room_told count p = needs (nat_le count (p + 1)) (TooFew p) passed

-- three characters of storage can end at a position
unfoldable pub three_told : Storage → ℕ → Tested
three_told s p = after (place_told s p) (room_told 3 p)

-- the length of the field at a position, or that it has no mark
unfoldable pub length_told : Storage → ℕ → Result ℕ Cause
length_told s p = finds (field_length s p) (NoFieldMark p) (λ count. Ok count)

-- how many characters are read at a position if at most `limit` are required, or that the field
-- there has no mark
unfoldable pub cut_told : Storage → ℕ → ℕ → Result ℕ Cause
cut_told s p limit = finds (cut_length s p limit) (NoFieldMark p) (λ count. Ok count)

-- the lengths of the fields at a and at b, of which a's is cut to b's, or why they have none
unfoldable pub counts_told : Storage → ℕ → ℕ → Result Counts Cause
counts_told s a b =
    after (places_told s a b)
    (given (length_told s b) (λ b_count.
    given (cut_told s a b_count) (λ a_count.
    Ok (record { a = a_count; b = b_count }))))

-- the operands do not overlap
unfoldable pub apart_told : Bool → Tested
apart_told overlap = needs (not overlap) Overlap passed

-- these lengths for an operation that writes over the field at b while it reads the one at a, or
-- why it cannot
unfoldable pub counts_apart_told : Storage → ℕ → ℕ → Result Counts Cause
counts_apart_told s a b =
    given (counts_told s a b) (λ counts.
    after (apart_told (is_overlapping a b counts.a)) (Ok counts))

-- the leftmost of the count positions up to p whose character has no digit, if there is one
unfoldable pub first_without_digit : Storage → ℕ → ℕ → Option ℕ
first_without_digit s p zero = None
first_without_digit s p (suc count) =
    if is_some (digit_of (code_at s (p - count))) then first_without_digit s p count
    else Some (p - count)

-- a position whose character has no digit, if one was found, is told with that character
unfoldable pub digit_told : Storage → Option ℕ → Tested
digit_told s None = passed
digit_told s (Some p) = Err (NoDigit (glyph_of (code_at s p)) p)

-- each of the count characters up to p has a digit
unfoldable pub digits_told : Storage → ℕ → ℕ → Tested
digits_told s p count = digit_told s (first_without_digit s p count)

-- the addition or subtraction of the fields at a and b
unfoldable pub sum_told : Storage → ℕ → ℕ → Tested
sum_told s a b =
    given (counts_apart_told s a b) (λ counts.
    after (digits_told s a counts.a) (digits_told s b counts.b))

-- the copy of the number at a to the field at b, of which no digit is read
unfoldable pub copy_told : Storage → ℕ → ℕ → Tested
copy_told s a b =
    given (counts_apart_told s a b) (λ counts. digits_told s a counts.a)

-- the comparison of the fields at a and b
unfoldable pub comparison_told : Storage → ℕ → ℕ → Tested
comparison_told s a b = given (counts_told s a b) (λ counts. passed)

-- three characters up to a position are an address
unfoldable pub number_told : Storage → ℕ → Tested
number_told s p = finds (base_ending s p) (NoNumber p) (λ number. passed)

-- the addition of the address at a to the one at b
unfoldable pub modification_told : Storage → ℕ → ℕ → Tested
modification_told s a b =
    after (three_told s a)
    (after (three_told s b)
    (after (number_told s a) (number_told s b)))

-- the length of a move, or that the field at a has no mark: then the field at b has none either
unfoldable pub move_length_told : Storage → ℕ → ℕ → Result ℕ Cause
move_length_told s a b = finds (move_length s a b) (NoFieldMark a) (λ count. Ok count)

-- the move of characters from a to b
unfoldable pub move_told : Storage → ℕ → ℕ → Tested
move_told s a b =
    after (places_told s a b)
    (given (move_length_told s a b) (λ count.
    after (room_told count a) (room_told count b)))

-- the length of the field at a, which can also end at b, or why there is none
unfoldable pub field_told : Storage → ℕ → ℕ → Result ℕ Cause
field_told s a b =
    after (places_told s a b)
    (given (length_told s a) (λ count.
    after (room_told count b) (Ok count)))

-- a field of so many characters at a is loaded at b: its mark, the last cell that is read, is not
-- written over before
unfoldable pub mark_told : ℕ → ℕ → ℕ → Tested
mark_told a b count =
    needs (not (is_overlapping a b count)) (MarkWrittenOver (a + 1 - count)) passed

-- the load of the field at a to b
unfoldable pub load_told : Storage → ℕ → ℕ → Tested
load_told s a b =
    after (places_told s a b)
    (given (length_told s a) (λ count.
    after (room_told count b) (mark_told a b count)))

-- the move of the field at a to b without leading zeros
unfoldable pub suppression_told : Storage → ℕ → ℕ → Tested
suppression_told s a b =
    after (places_told s a b)
    (given (length_told s a) (λ count.
    after (room_told count b) (apart_told (is_overlapping a b count))))

-- how many characters an edit reads: as many as the control field has digit places, at least one
unfoldable pub places_wanted : Storage → ℕ → ℕ → ℕ
places_wanted s b b_count = max 1 (places (codes_ending s b b_count))

-- the edit of the amount at a by the control field at b
unfoldable pub edit_told : Storage → ℕ → ℕ → Tested
edit_told s a b =
    after (places_told s a b)
    (given (length_told s b) (λ b_count.
    given (cut_told s a (places_wanted s b b_count)) (λ a_count.
    apart_told (is_sharing a a_count b b_count))))

-- why an operation on the fields at a and b is stopped
unfoldable pub work_told : FieldOperation → Storage → ℕ → ℕ → Tested
work_told Add s a b = sum_told s a b
work_told Subtract s a b = sum_told s a b
work_told ZeroAdd s a b = copy_told s a b
work_told ZeroSubtract s a b = copy_told s a b
work_told Compare s a b = comparison_told s a b
work_told ModifyAddress s a b = modification_told s a b
work_told Move s a b = move_told s a b
work_told Load s a b = load_told s a b
work_told MoveDigit s a b = places_told s a b
work_told MoveZone s a b = places_told s a b
work_told Suppress s a b = suppression_told s a b
work_told Edit s a b = edit_told s a b
work_told SetMark s a b = places_told s a b
work_told ClearMark s a b = places_told s a b
