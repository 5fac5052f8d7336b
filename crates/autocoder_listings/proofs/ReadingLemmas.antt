-- for the law of `laws`: what the reader of a listing takes from its rows is what the cards fill
use Rattle.std.proofs.Common.{◌≡◌, ℕ, zero, suc, ◌+◌, ◌*◌, ◌≤◌, Bool, true, false, List, [], ◌∷◌, ◌++◌, length, take, drop, get_or, Option, Some, None, Ok, Err, refl, sym, ◌∙◌, ap, subst, arith, length-append}
use Rattle.std.specs.Bool.{if◌then◌else◌}
use Rattle.std.specs.Option.{is_some, option_to_list}
use Rattle.std.specs.List.{flat_map, range_with_len}
use Rattle.std.proofs.lemmas.List.{at_drop_all}
use Rattle.std.proofs.lemmas.Grind.{div_ceil_times}
use Rattle.addresses.specs.Addresses.{written}
use Rattle.autocoder_statements.specs.Mnemonics.{present, instruction_length}
use Rattle.autocoder_statements.specs.declared.names.Name.{Name}
use Rattle.autocoder_statements.specs.declared.operands.Operand.{Operand}
use Rattle.autocoder_statements.specs.declared.operands.Operand.TheVariants.{Address, Literal}
use Rattle.autocoder_statements.specs.declared.operations.Instruction as instruction
use Rattle.autocoder_statements.specs.declared.reading.Statement.TheVariants as statement
use Rattle.autocoder_layout.specs.Source.{Line}
use Rattle.autocoder_layout.specs.Names.{address_of}
use Rattle.autocoder_layout.specs.Slots.{is_closed, place_after, stays, takes, with_label, with_any_label, slot_of}
use Rattle.autocoder_layout.specs.Literals.{Characters}
use Rattle.autocoder_layout.specs.Cells.{cell, row, field, literal_cells, operand_codes, instruction_codes, blank_after, constant_codes, cells_of}
use Rattle.autocoder_layout.specs.Layout.{Laid, Satisfies, slots_of}
use Rattle.autocoder_layout.specs.declared.cells.Cell.{Cell}
use Rattle.autocoder_layout.specs.declared.slots.Role.TheVariants.{Instruction}
use Rattle.autocoder_layout.specs.declared.slots.Slot.{Slot}
use Rattle.autocoder_layout.specs.declared.faults.SourceFault.TheVariants as fault
use Rattle.autocoder_listings.specs.Rows.{rows_for, row_at}
use Rattle.autocoder_listings.specs.Reading.{read_from, row_read, rows_read}

-- the cells are in the positions from a place on
abbrev pub Follow : ℕ → List Cell → Type 0
Follow place cells = read_from place cells ≡ cells

-- ---- what a card fills

follow_none : (place : ℕ) → Follow place []
unfolding read_from
follow_none place = refl

follow_row : (place : ℕ) (codes : List ℕ) → Follow place (row place codes)
unfolding read_from row
follow_row place [] = refl
follow_row place (code ∷ codes) = ap (λ r. cell place code false ∷ r) (follow_row (place + 1) codes)

follow_field : (marked : Bool) (place : ℕ) (codes : List ℕ) → Follow place (field marked place codes)
unfolding read_from field
follow_field marked place [] = refl
follow_field marked place (code ∷ codes) = ap (λ r. cell place code marked ∷ r) (follow_row (place + 1) codes)

length-row : (place : ℕ) (codes : List ℕ) → length (row place codes) ≡ length codes
unfolding row
length-row place [] = refl
length-row place (code ∷ codes) = ap suc (length-row (place + 1) codes)

length-field : (marked : Bool) (place : ℕ) (codes : List ℕ) → length (field marked place codes) ≡ length codes
unfolding field
length-field marked place [] = refl
length-field marked place (code ∷ codes) = ap suc (length-row (place + 1) codes)

read-append : (place : ℕ) (one two : List Cell) → read_from place (one ++ two) ≡ read_from place one ++ read_from (place + length one) two
unfolding read_from
read-append place [] two = ap (λ p. read_from p two) (omega arith)
read-append place (c ∷ one) two =
    let further : place + 1 + length one ≡ place + length (c ∷ one) = omega arith in
    ap (λ r. cell place c.code c.marked ∷ r) (read-append (place + 1) one two ∙ ap (λ p. read_from (place + 1) one ++ read_from p two) further)

follow_append : (place next : ℕ) (one two : List Cell) → place + length one ≡ next → Follow place one → Follow next two → Follow place (one ++ two)
follow_append place next one two e f g =
    read-append place one two ∙ ap (λ x. x ++ read_from (place + length one) two) f ∙ ap (λ p. one ++ read_from p two) e ∙ ap (λ x. one ++ x) g

follow_literals : (place : ℕ) (literals : List Characters) → Follow place (literal_cells place literals)
unfolding read_from literal_cells
follow_literals place [] = refl
follow_literals place (literal ∷ literals) =
    follow_append place (place + length literal) (field true place literal) (literal_cells (place + length literal) literals) (ap (λ n. place + n) (length-field true place literal))
    (follow_field true place literal) (follow_literals (place + length literal) literals)

follow_blank : (later : List Slot) (place : ℕ) → Follow place (blank_after later place)
unfolding read_from
follow_blank later place =
    elim (is_closed later) as (λ b. read_from place (if b then cell place 0 true ∷ [] else []) ≡ (if b then cell place 0 true ∷ [] else [])) [
      | true ↦ refl
      | false ↦ refl
    ]

length-joined : (code : ℕ) (one two three : List ℕ) → length (((code ∷ []) ++ one) ++ two ++ three) ≡ 1 + length one + length two + length three
length-joined code one two three = omega (arith, length-append (one ++ two) three, length-append one two)

module _ (size : ℕ) (names : List Slot) (literals : List Characters) where
  length-operand : (o : Option Operand) → length (operand_codes size names literals o) ≡ 3 * present o
  unfolding written
  length-operand None = refl
  length-operand (Some (Address address)) = refl
  length-operand (Some (Literal wanted)) = refl

  length-modifier : (o : Option ℕ) → length (option_to_list o) ≡ present o
  length-modifier None = refl
  length-modifier (Some code) = refl

  length-codes : (spelled : instruction.Instruction) → length (instruction_codes size names literals spelled) ≡ instruction_length spelled
  unfolding instruction_codes
  length-codes spelled =
      length-joined spelled.operation (operand_codes size names literals spelled.first) (operand_codes size names literals spelled.second) (option_to_list spelled.modifier)
      ∙ omega (arith, length-operand spelled.first, length-operand spelled.second, length-modifier spelled.modifier)

  module _ (later : List Slot) where
    follow_instruction : (own : Option Name) (spelled : instruction.Instruction) (place : ℕ) → Follow place (field true place (instruction_codes size names literals spelled) ++ blank_after later (place + instruction_length spelled))
    follow_instruction own spelled place =
        let codes = instruction_codes size names literals spelled in
        follow_append place (place + instruction_length spelled) (field true place codes) (blank_after later (place + instruction_length spelled)) (ap (λ n. place + n) (length-field true place codes ∙ length-codes spelled))
        (follow_field true place codes) (follow_blank later (place + instruction_length spelled))

    -- what a card fills is in the positions from its slot on
    abbrev Follows : Line → Slot → Type 0
    Follows line slot = Follow slot.before (cells_of size names literals later slot line)

    if_good : (slot : Slot) (cells : List Cell) → Follow slot.before cells → Follow slot.before (if is_some slot.fault then [] else cells)
    if_good slot cells f =
        elim (is_some slot.fault) as (λ b. Follow slot.before (if b then [] else cells)) [
          | true ↦ follow_none slot.before
          | false ↦ f
        ]

    follow_labelled : (earlier : List Slot) (label own : Option Name) (spelled : instruction.Instruction) →
        Follows (Ok (statement.Instruction own spelled)) (with_any_label earlier label (place_after earlier) (takes Instruction false (place_after earlier) (place_after earlier + instruction_length spelled)))
    unfolding with_any_label cells_of
    follow_labelled earlier None own spelled = follow_instruction own spelled (place_after earlier)
    follow_labelled earlier (Some name) own spelled =
        elim (is_some (address_of name earlier)) as (λ t. Follows (Ok (statement.Instruction own spelled)) (if t then stays earlier (Some fault.TakenLabel) else with_label (takes Instruction false (place_after earlier) (place_after earlier + instruction_length spelled)) name (place_after earlier))) [
          | true ↦ follow_none (place_after earlier)
          | false ↦ follow_instruction own spelled (place_after earlier)
        ]

    pub card_follows : (earlier : List Slot) (line : Line) → Follows line (slot_of size earlier line)
    unfolding slot_of cells_of
    card_follows earlier (Ok (statement.Instruction label spelled)) = follow_labelled earlier label label spelled
    card_follows earlier (Ok (statement.Constant label marked text)) = if_good (slot_of size earlier (Ok (statement.Constant label marked text))) _ (follow_field marked (slot_of size earlier (Ok (statement.Constant label marked text))).before (constant_codes text))
    card_follows earlier (Ok (statement.End start labels)) = if_good (slot_of size earlier (Ok (statement.End start labels))) _ (follow_literals (slot_of size earlier (Ok (statement.End start labels))).before literals)
    card_follows earlier (Err reason) = if_good (slot_of size earlier (Err reason)) [] (follow_none _)
    card_follows earlier (Ok statement.Comment) = if_good (slot_of size earlier (Ok statement.Comment)) [] (follow_none _)
    card_follows earlier (Ok statement.Job) = if_good (slot_of size earlier (Ok statement.Job)) [] (follow_none _)
    card_follows earlier (Ok (statement.Control given)) = if_good (slot_of size earlier (Ok (statement.Control given))) [] (follow_none _)
    card_follows earlier (Ok (statement.Origin expression)) = if_good (slot_of size earlier (Ok (statement.Origin expression))) [] (follow_none _)
    card_follows earlier (Ok (statement.Equate label expression)) = if_good (slot_of size earlier (Ok (statement.Equate label expression))) [] (follow_none _)
    card_follows earlier (Ok (statement.Area label positions)) = if_good (slot_of size earlier (Ok (statement.Area label positions))) [] (follow_none _)

pub laid_follows : (size : ℕ) (literals : List Characters) (layout earlier later : List Laid) (line : Line) (laid : Laid) → Satisfies size literals layout earlier later line laid → Follow laid.slot.before laid.fills
laid_follows size literals layout earlier later line laid rules =
    subst (λ x. Follow laid.slot.before x) (sym rules.fills)
    (subst (λ (s : Slot). Follow s.before (cells_of size (slots_of layout) literals (slots_of later) s line)) (sym rules.slot)
    (card_follows size (slots_of layout) literals (slots_of later) (slots_of earlier) line))

-- ---- rows

read-take : (place n : ℕ) (cells : List Cell) → read_from place (take n cells) ≡ take n (read_from place cells)
unfolding read_from
read-take place zero cells = refl
read-take place (suc n) [] = refl
read-take place (suc n) (c ∷ cells) = ap (λ r. cell place c.code c.marked ∷ r) (read-take (place + 1) n cells)

read-drop : (place n : ℕ) (cells : List Cell) → read_from (place + n) (drop n cells) ≡ drop n (read_from place cells)
unfolding read_from
read-drop place zero cells = ap (λ p. read_from p cells) (omega arith)
read-drop place (suc n) [] = refl
read-drop place (suc n) (c ∷ cells) =
    let further : place + suc n ≡ place + 1 + n = omega arith in
    ap (λ p. read_from p (drop n cells)) further ∙ read-drop (place + 1) n cells

-- cells that follow from some place follow from the first one's position
by_address : (place : ℕ) (cells : List Cell) → Follow place cells → row_read cells ≡ cells
unfolding read_from
by_address place [] f = refl
by_address place (c ∷ cells) f =
    let at : place ≡ c.position = ap (λ (l : List Cell). (get_or l 0 c).position) f in
    ap (λ p. read_from p (c ∷ cells)) (sym at) ∙ f

row_is_read : (place : ℕ) (cells : List Cell) (number : ℕ) → Follow place cells → row_read (row_at cells number) ≡ row_at cells number
row_is_read place cells number f =
    by_address (place + 20 * number) (row_at cells number)
    (read-take (place + 20 * number) 20 (drop (20 * number) cells) ∙ ap (take 20) (read-drop place (20 * number) cells ∙ ap (drop (20 * number)) f))

split_at : (n : ℕ) (cells : List Cell) → take n cells ++ drop n cells ≡ cells
split_at zero cells = refl
split_at (suc n) [] = refl
split_at (suc n) (c ∷ cells) = ap (λ r. c ∷ r) (split_at n cells)

drop_further : (n m : ℕ) (cells : List Cell) → drop m (drop n cells) ≡ drop (n + m) cells
drop_further zero m cells = ap (λ k. drop k cells) (omega arith)
drop_further (suc n) m [] = at_drop_all (λ x. x) [] m (omega arith) ∙ sym (at_drop_all (λ x. x) [] (suc n + m) (omega arith))
drop_further (suc n) m (c ∷ cells) =
    let e : suc (n + m) ≡ suc n + m = omega arith in
    drop_further n m cells ∙ ap (λ k. drop k (c ∷ cells)) e

rows_are_all : (place : ℕ) (cells : List Cell) (k n : ℕ) → Follow place cells → length cells ≤ 20 * (n + k) → flat_map (λ number. row_read (row_at cells number)) (range_with_len n k) ≡ drop (20 * n) cells
rows_are_all place cells zero n f within = sym (at_drop_all (λ x. x) cells (20 * n) (omega (arith, within)))
rows_are_all place cells (suc k) n f within =
    let further : 20 * (n + 1) ≡ 20 * n + 20 = omega arith in
    ap (λ x. x ++ flat_map (λ number. row_read (row_at cells number)) (range_with_len (n + 1) k)) (row_is_read place cells n f)
    ∙ ap (λ x. row_at cells n ++ x) (rows_are_all place cells k (n + 1) f (omega (arith, within)) ∙ ap (λ m. drop m cells) further ∙ sym (drop_further (20 * n) 20 cells))
    ∙ split_at 20 (drop (20 * n) cells)

pub rows_are_read : (place : ℕ) (cells : List Cell) → Follow place cells → rows_read cells ≡ cells
unfolding rows_read
rows_are_read place cells f = rows_are_all place cells (rows_for (length cells)) 0 f (omega (arith, (div_ceil_times (length cells) 20 (omega arith)).0))
