-- the line and the column of each byte of a listing, byte by byte
use Rattle.std.proofs.Common.{◌≡◌, ℕ, ◌+◌, ◌-◌, ◌<◌, ◌==◌, Bool, true, false, not, None, if◌then◌else◌, List, length, get_or, refl, ap, ◌∙◌, arith, below_more}
use Rattle.std.proofs.lemmas.List.Sums.{count_by_more_yes, count_by_more_no, suffix_len-take_yes, suffix_len-take_no}
use Rattle.pictures.specs.Faults.{AreRightBelow, column_at, ends_line, error_at, line_at, next_column, next_line}

is_feed : ℕ → Bool
is_feed byte = byte == 10

-- the line of the next byte
pub line_on : (text : List ℕ) (i : ℕ) → i < length text → line_at text (i + 1) ≡ next_line (line_at text i) (get_or text i 0)
line_on text i within =
    (elim (get_or text i 0 == 10) as (λ b. (get_or text i 0 == 10) ≡ b → line_at text (i + 1) ≡ (if b then line_at text i + 1 else line_at text i)) [
      | true ↦ λ yes. ap (λ n. n + 1) (count_by_more_yes (λ byte. byte == 10) text i 0 within yes)
      | false ↦ λ no. ap (λ n. n + 1) (count_by_more_no (λ byte. byte == 10) text i 0 within no)
    ]) refl

-- the column of the next byte
pub column_on : (text : List ℕ) (i : ℕ) → i < length text → column_at text (i + 1) ≡ next_column (column_at text i) (get_or text i 0)
column_on text i within =
    let inside = λ (byte : ℕ). not (ends_line byte) in
    let back : i + 1 - 1 ≡ i = omega arith in
    (elim (ends_line (get_or text i 0)) as (λ b. ends_line (get_or text i 0) ≡ b → column_at text (i + 1) ≡ (if b then 1 else column_at text i + 1)) [
      | true ↦ λ ends. ap (λ n. n + 1) (suffix_len-take_no inside text (i + 1) 0 (omega arith) (omega arith) (rw (back, ends) refl))
      | false ↦ λ goes. ap (λ n. n + 1) (suffix_len-take_yes inside text (i + 1) 0 (omega arith) (omega arith) (rw (back, goes) refl) ∙ rw back (omega arith))
    ]) refl

-- the bytes up to and with one at which nothing is wrong
pub right_on : (text : List ℕ) (i : ℕ) → AreRightBelow text i → error_at text i ≡ None → AreRightBelow text (i + 1)
right_on text i before here = below_more (λ k. error_at text k ≡ None) i before here
