-- a session over a reader and a writer
use Rattle.std.specs.Prelude.{ℕ, ◌≡◌, ◌≢◌, ◌<◌, ◌≤◌, ◌⊎◌, All, Bool, true, false, List, [], ◌∷◌, ◌++◌, length, take, Option, Some, IfSome, OnSome}
use Rattle.std.specs.Io.{IsEmptyOrEndsWith, StopsAt}
use Rattle.std.specs.Io.BufRead.{drop_through, take_through}
use Rattle.std.specs.Io.KnownBytes.{Appends, Consumes, IsAtEnd, Keeps}
use Rattle.console.specs.Answers.{Answers}
use Rattle.console.specs.SessionStates.{SessionState}
use Rattle.console.specs.declared.talking.Ended.{Ended}
use Rattle.console.specs.declared.talking.Ended.TheVariants as ended

-- the most bytes of a line, with its line feed
abbrev pub longest_line : ℕ
longest_line = 4096

-- a line ends with this part of it, which has its line feed, or is empty and there is no more; or
-- there is no line feed in the part
abbrev pub IsLast : List ℕ → Bool → Type 0
IsLast part true = IsEmptyOrEndsWith part 10
IsLast part false = All (λ byte. byte ≢ 10) part

-- a reader had this left and has this: it gave a part of a line, of so many bytes at most, which was
-- added to what came before it; no byte but the last is a line feed; and whether the line ends there
pub record IsPart (left rest : Option (List ℕ)) (old new : List ℕ) (room : ℕ) (last : Bool)
    : Type 0 where
  pub part : List ℕ
  pub added : new ≡ old ++ part
  pub within : length part ≤ room
  pub given : Consumes left rest part
  pub stops : StopsAt part 10
  pub ends : IsLast part last
  pub over : last ≡ true → length part ≡ 0 → OnSome left (IsAtEnd rest)

-- this is the next line of what a reader has left, and it is read: up to its line feed, or to the
-- end; it is none that is too long
abbrev pub IsRead : Option (List ℕ) → List ℕ → Option (List ℕ) → Type 0
IsRead left line after = (length line ≤ longest_line) × IfSome left (λ bytes.
    (0 < length line) × (line ≡ take_through 10 bytes) × (after ≡ Some (drop_through 10 bytes)))

-- a reader had this left and has this: it gave as many bytes as a line may have, and there was no
-- line feed among them
abbrev pub IsTooLong : Option (List ℕ) → Option (List ℕ) → Type 0
IsTooLong left rest = (front : List ℕ) × (length front ≡ longest_line)
    × All (λ byte. byte ≢ 10) front × Consumes left rest front

-- a reader had this left and has this: it gave a beginning of its next line, or all of it
abbrev pub HasGiven : Option (List ℕ) → Option (List ℕ) → Type 0
HasGiven left rest = (part : List ℕ) × StopsAt part 10 × Consumes left rest part

-- a reader has no further line, and what it has left is as it was
abbrev pub HasEnded : Option (List ℕ) → Option (List ℕ) → Type 0
HasEnded left rest = IsAtEnd left × Keeps left rest

-- from a session and a reader on these lines were read, each was answered before the next was, and
-- none ended the session; it is now this one, the reader has this left, and this was printed
pub data Talked (s : SessionState) (from : Option (List ℕ))
    : List (List ℕ) → SessionState → Option (List ℕ) → List ℕ → Type 0 where
  none : Talked s from [] s from []
  more : (lines : List (List ℕ)) (now : SessionState) (left : Option (List ℕ)) (text : List ℕ)
      (line : List ℕ) (after : SessionState) (rest : Option (List ℕ)) (told : List ℕ)
      → Talked s from lines now left text → IsRead left line rest
      → Answers now line after told false
      → Talked s from (lines ++ line ∷ []) after rest (text ++ told)

-- a further line was read and answered so: the session is then this one, and the reader has this
-- left
pub record OneMore (now after : SessionState) (left rest : Option (List ℕ)) (ends : Bool)
    (told : List ℕ) : Type 0 where
  pub line : List ℕ
  pub read : IsRead left line rest
  pub answered : Answers now line after told ends

-- a writer took these bytes, or a beginning of them
abbrev pub PutsSo : List ℕ → Option (List ℕ) → Option (List ℕ) → Bool → Type 0
PutsSo bytes old new true = Appends old new bytes
PutsSo bytes old new false =
    (count : ℕ) × (count ≤ length bytes) × Appends old new (take count bytes)

-- how a session ends whose reader failed
abbrev pub IsFailure : Ended → Type 0
IsFailure ended.NoMemory = Unit {0}
IsFailure ended.ReadFailed = Unit {0}
IsFailure other = ⊥

-- what ends a session before a further line is read, whose reader had this left and has this
abbrev pub IsUnread : Ended → Option (List ℕ) → Option (List ℕ) → Type 0
IsUnread ended.TooLong left rest = IsTooLong left rest
IsUnread it left rest = IsFailure it

-- a session is as it was, or a line was read whose answer there was no memory for
abbrev pub IsUnanswered : SessionState → SessionState → Option (List ℕ) → Option (List ℕ) → Type 0
IsUnanswered now after left rest = (after ≡ now) ⊎ ((line : List ℕ) × IsRead left line rest)

-- how a session ended that had come so far and had printed this, by what it is now, what the reader
-- had left then and has now, and what the writer had before and has now: at the end of what the
-- reader had; by a line that ends it; for want of memory, before a further line was answered; by a
-- further line that is too long; because the reader failed, before a further line was read; or
-- because the writer failed, and took a beginning of a further answer
abbrev pub EndsSo : Ended → SessionState → SessionState → Option (List ℕ) → Option (List ℕ) → List ℕ
    → Option (List ℕ) → Option (List ℕ) → Type 0
EndsSo ended.AtEnd now after left rest text old new =
    (after ≡ now) × HasEnded left rest × Appends old new text
EndsSo ended.Asked now after left rest text old new =
    (told : List ℕ) × OneMore now after left rest true told × Appends old new (text ++ told)
EndsSo ended.NoMemory now after left rest text old new =
    IsUnanswered now after left rest × HasGiven left rest × Appends old new text
EndsSo ended.TooLong now after left rest text old new =
    (after ≡ now) × IsTooLong left rest × Appends old new text
EndsSo ended.ReadFailed now after left rest text old new =
    (after ≡ now) × HasGiven left rest × Appends old new text
EndsSo ended.WriteFailed now after left rest text old new =
    (told : List ℕ) × (ends : Bool) × (count : ℕ) × OneMore now after left rest ends told
    × (count ≤ length told) × Appends old new (text ++ take count told)

-- a session was talked with and is this one after it, over a reader that had this and has this
-- left, and a writer that had and has this: lines of the reader were answered, one after the other
pub record IsTalk (s after : SessionState) (from rest old new : Option (List ℕ)) (it : Ended)
    : Type 0 where
  pub lines : List (List ℕ)
  pub now : SessionState
  pub left : Option (List ℕ)
  pub text : List ℕ
  pub talked : Talked s from lines now left text
  pub ends : EndsSo it now after left rest text old new
