-- for the laws of `laws`: what both widths of a listing show of the code of a card
use Rattle.std.proofs.Common.{◌≡◌, ℕ, ◌-◌, ◌≤◌, true, false, List, [], ◌∷◌, ◌++◌, length, take, drop, map, refl, sym, ◌∙◌, ap, ap₂, arith, length-append, replicate}
use Rattle.std.specs.Bool.{if◌then◌else◌}
use Rattle.std.specs.Fmt.{decimal}
use Rattle.std.specs.List.{All, flat_map, range_with_len}
use Rattle.std.proofs.lemmas.List.{drop_at, length-take, length-replicate}
use Rattle.std.proofs.lemmas.List.Elements.{All-nil, All-cons, All-head, All-tail}
use Rattle.std.proofs.lemmas.List.Folds.{flat_map-map}
use Rattle.cards.specs.declared.decks.Card.{Card}
use Rattle.autocoder_layout.specs.declared.cells.Cell.{Cell}
use Rattle.autocoder_layout.specs.declared.slots.Slot.{Slot}
use Rattle.autocoder.specs.Listing.{blank, right, fills, place_field, position_field, glyphs_of, card_line, line_text}
use Rattle.autocoder_listings.specs.Rows.{address_of, glyphs_shown, row_at, rows_for, with_row}
use Rattle.autocoder_listings.specs.Coded.{counted_line, first_line, further_line, further_lines, lines_with_code}
use Rattle.autocoder_listings.specs.Narrow.{further_rows, is_placed, lines_below, without_card}
use Rattle.autocoder_listings.specs.Widths.{behind, lines_beside, lines_under}

-- ---- the lines of a card are its texts

pub beside_is : (number : ℕ) (slot : Slot) (card : Card) (cells : List Cell)
    → lines_with_code number slot card cells ≡ flat_map line_text (lines_beside number slot card cells)
unfolding lines_with_code further_lines
beside_is number slot card cells =
    ap (λ rest. line_text (first_line number slot card cells) ++ rest)
    (sym (flat_map-map line_text (further_line cells) (range_with_len 1 (rows_for (length cells) - 1))))

under_is : (number : ℕ) (slot : Slot) (card : Card) (cells : List Cell)
    → line_text (without_card (first_line number slot card cells)) ++ further_rows cells ≡ flat_map line_text (lines_under number slot card cells)
unfolding further_rows
under_is number slot card cells =
    let numbers = range_with_len 1 (rows_for (length cells) - 1) in
    ap (λ rest. line_text (without_card (first_line number slot card cells)) ++ rest)
    (sym (flat_map-map line_text without_card (map (further_line cells) numbers)
    ∙ flat_map-map (λ line. line_text (without_card line)) (further_line cells) numbers))

pub below_is : (number : ℕ) (slot : Slot) (card : Card) (cells : List Cell) → is_placed slot cells ≡ true
    → lines_below number slot card cells ≡ flat_map line_text (lines_under number slot card cells)
unfolding lines_below
below_is number slot card cells placed =
    ap (λ b. if b then line_text (without_card (first_line number slot card cells)) ++ further_rows cells else []) placed
    ∙ under_is number slot card cells

-- ---- the columns before a card

length_right : (filler width number : ℕ) → width ≤ length (right filler width number)
length_right filler width number =
    omega (arith, length-append (replicate (width - length (decimal number)) filler) (decimal number), length-replicate (width - length (decimal number)) filler)

length_place : (slot : Slot) → 5 ≤ length (place_field slot)
unfolding place_field
length_place slot =
    elim (fills slot.role) as (λ b. 5 ≤ length (if b then position_field slot.before else replicate 5 blank)) [
      | true ↦ length_right _ 5 slot.before
      | false ↦ omega arith
    ]

ten_before : (number : ℕ) (slot : Slot) (card : Card) → 10 ≤ length (card_line number slot card)
unfolding card_line
ten_before number slot card =
    let numbered = right blank 4 number ++ blank ∷ [] in
    let placed = numbered ++ place_field slot in
    omega (
      arith,
      length-append (placed ++ blank ∷ []) (glyphs_of card.0),
      length-append placed (blank ∷ []),
      length-append numbered (place_field slot),
      length-append (right blank 4 number) (blank ∷ []),
      length_right blank 4 number,
      length_place slot,
    )

more_with_row : (text : List ℕ) (row : List Cell) → length text ≤ length (with_row text row)
unfolding with_row
more_with_row text row =
    let addressed = text ++ position_field (address_of row) in
    omega (arith, length-append (addressed ++ blank ∷ []) (flat_map glyphs_shown row), length-append addressed (blank ∷ []), length-append text (position_field (address_of row)))

ten_counted : (number : ℕ) (slot : Slot) (card : Card) (count : ℕ) → 10 ≤ length (counted_line number slot card count)
unfolding counted_line
ten_counted number slot card count =
    let line = card_line number slot card ++ blank ∷ [] in
    let counted = line ++ right blank 5 count in
    omega (arith, length-append counted (blank ∷ []), length-append line (right blank 5 count), length-append (card_line number slot card) (blank ∷ []), ten_before number slot card)

ten_first : (number : ℕ) (slot : Slot) (card : Card) (cells : List Cell) → 10 ≤ length (first_line number slot card cells)
unfolding first_line
ten_first number slot card [] = ten_before number slot card
ten_first number slot card (c ∷ cells) =
    let counted = counted_line number slot card (length (c ∷ cells)) in
    omega (arith, more_with_row counted (row_at (c ∷ cells) 0), ten_counted number slot card (length (c ∷ cells)))

ten_further : (cells : List Cell) (number : ℕ) → 10 ≤ length (further_line cells number)
unfolding further_line
ten_further cells number = omega (arith, more_with_row (replicate 98 blank) (row_at cells number), length-replicate 98 blank)

all_further : (cells : List Cell) (numbers : List ℕ) → All (λ line. 10 ≤ length line) (map (further_line cells) numbers)
all_further cells [] = All-nil (λ line. 10 ≤ length line)
all_further cells (number ∷ numbers) =
    All-cons (λ line. 10 ≤ length line) (further_line cells number) (map (further_line cells) numbers) (ten_further cells number) (all_further cells numbers)

-- ---- the same behind them

same_line : (line : List ℕ) → 10 ≤ length line → drop 10 (without_card line) ≡ drop 91 line
same_line line enough = drop_at (take 10 line) (drop 91 line) 10 (omega (arith, length-take 10 line))

same_lines : (lines : List (List ℕ)) → All (λ line. 10 ≤ length line) lines → behind 10 (map without_card lines) ≡ behind 91 lines
same_lines [] all = refl
same_lines (line ∷ lines) all =
    ap₂ (λ (l : List ℕ) (ls : List (List ℕ)). l ∷ ls) (same_line line (All-head (λ l. 10 ≤ length l) line lines all))
    (same_lines lines (All-tail (λ l. 10 ≤ length l) line lines all))

pub same_code : (number : ℕ) (slot : Slot) (card : Card) (cells : List Cell)
    → behind 10 (lines_under number slot card cells) ≡ behind 91 (lines_beside number slot card cells)
same_code number slot card cells =
    let numbers = range_with_len 1 (rows_for (length cells) - 1) in
    same_lines (lines_beside number slot card cells)
    (All-cons (λ line. 10 ≤ length line) (first_line number slot card cells) (map (further_line cells) numbers) (ten_first number slot card cells) (all_further cells numbers))
