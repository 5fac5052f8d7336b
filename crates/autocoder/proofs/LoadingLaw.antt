-- for the clause `loadable` of `assemble`, and the law `faultless_sources_can_be_loaded`
use Rattle.std.proofs.Common.{◌≡◌, ℕ, zero, suc, ◌+◌, ◌-◌, ◌<◌, ◌≤◌, Bool, true, false, ◌||◌, List, [], ◌∷◌, ◌++◌, length, take, drop, get_or, Option, Some, None, Ok, Err, refl, sym, ◌∙◌, ap, subst, arith, nat_eq, nat_le, nat_lt, IfSome}
use Rattle.std.specs.Bool.{if◌then◌else◌}
use Rattle.std.specs.List.{All}
use Rattle.std.specs.Option.{is_some, option_map_or}
use Rattle.std.specs.Prelude.{find}
use Rattle.std.proofs.lemmas.List.Elements.{All-nil, All-cons, All-head, All-tail, All-append, All-from_get_or}
use Rattle.std.proofs.lemmas.Bool.{leb-false, ltb-false, eqb-true}
use Rattle.autocoder_layout.specs.declared.cells.Cell.{Cell}
use Rattle.autocoder_layout.specs.declared.cells.TheConstants.{FIRST_FREE}
use Rattle.cards.specs.declared.decks.Card.{Card}
use Rattle.core_store.specs.Storage.{positions_of}
use Rattle.core_store.proofs.SizeLemmas.{within}
use Rattle.autocoder_statements.specs.Constants.{constant_length}
use Rattle.autocoder_statements.specs.Mnemonics.{instruction_length}
use Rattle.autocoder_statements.specs.declared.names.Name.{Name}
use Rattle.autocoder_statements.specs.declared.expressions.Expression.{Expression}
use Rattle.autocoder_statements.specs.declared.operations.Instruction as instruction
use Rattle.autocoder_statements.specs.declared.faults.StatementFault.{StatementFault}
use Rattle.autocoder_statements.specs.declared.reading.Statement.TheVariants as statement
use Rattle.autocoder_layout.specs.Source.{Line, silent, has_end, size_of, lines_of}
use Rattle.autocoder_layout.specs.Names.{address_of, value_in, IsValueWithin}
use Rattle.autocoder_layout.specs.Slots.{is_instruction, is_open, place_after, place_after_blank, stays, takes, with_label, with_any_label, moved_to, equal_to, equate_slot, end_fault, ends, constant, slot_of}
use Rattle.autocoder_layout.specs.Literals.{Characters, literals_of}
use Rattle.autocoder_layout.specs.Cells.{position_in, instruction_codes, field, row, cells_of}
use Rattle.autocoder_layout.specs.Judging.{fault_by, fault_of, names_unknown, names_outside, passes_outside, fills_outside, fills_reserved, is_beyond, is_overlapping}
use Rattle.autocoder_layout.specs.Layout.{Laid, Satisfies, IsLayout, fills_of, slots_of, nothing, layout_of}
use Rattle.autocoder_layout.specs.declared.names.Value.{Value}
use Rattle.autocoder_layout.specs.declared.names.Value.TheVariants.{Unknown, Outside, At}
use Rattle.autocoder_layout.specs.declared.faults.SourceFault.{SourceFault}
use Rattle.autocoder_layout.specs.declared.faults.SourceFault.TheVariants as fault
use Rattle.autocoder_layout.specs.declared.slots.Role.{Role}
use Rattle.autocoder_layout.specs.declared.slots.Role.TheVariants.{Instruction, Constant, Passing}
use Rattle.autocoder_layout.specs.declared.slots.Slot.{Slot}
use Rattle.autocoder_layout.proofs.LayoutLemmas.{there_is_one}
use Rattle.autocoder_layout.proofs.SlotBounds.{value_is_within}
use Rattle.autocoder_statements.proofs.Tests.{neither, both_ways}
use Rattle.autocoder_layout.specs.Image.{cell_at, cons_some, cells_from, image_of}
use Rattle.autocoder.specs.Loadable.{IsLoadable, IsRising, CanBeLoaded}
use Rattle.autocoder.specs.Programs.{size_for, layout_for, image_for, start_for, start_by, last_line, IsProgramOf, IsFaultless}
use Rattle.autocoder.specs.Assembly.{Assembly}
use Rattle.autocoder_layout.proofs.FaultLemmas.{no_faults_of, no_fault_or, no_fault_if}

-- ---- the image

-- what fills a position is one of the cells, and is at that position
cell_at-of : (P : Cell → Type 0) (filled : List Cell) (p : ℕ) → All P filled → IfSome (cell_at filled p) P
unfolding cell_at
cell_at-of P [] p all = tt
cell_at-of P (c ∷ filled) p all =
    elim (nat_eq c.position p) as (λ b. IfSome (if b then Some c else cell_at filled p) P) [
      | true ↦ all 0 c (omega arith)
      | false ↦ cell_at-of P filled p (λ k d h. all (suc k) d (omega arith))
    ]

cell_at-there : (filled : List Cell) (p : ℕ) → IfSome (cell_at filled p) (λ c. c.position ≡ p)
unfolding cell_at
cell_at-there [] p = tt
cell_at-there (c ∷ filled) p =
    (elim (nat_eq c.position p) as (λ b. nat_eq c.position p ≡ b → IfSome (if b then Some c else cell_at filled p) (λ c. c.position ≡ p)) [
      | true ↦ λ e. eqb-true c.position p e
      | false ↦ λ e. cell_at-there filled p
    ]) refl

all_cons_some : (P : Cell → Type 0) (o : Option Cell) (cells : List Cell) → IfSome o P → All P cells → All P (cons_some o cells)
all_cons_some P None cells here rest = rest
all_cons_some P (Some c) cells here rest = All-cons P c cells here rest

weaker_at : (P : Cell → Type 0) (o : Option Cell) (p : ℕ) → IfSome o (λ c. c.position ≡ p) → ((c : Cell) → c.position ≡ p → P c) → IfSome o P
weaker_at P None p here f = tt
weaker_at P (Some c) p here f = f c here

pub image_of_cells : (P : Cell → Type 0) (filled : List Cell) (first count : ℕ) → All P filled → All P (cells_from filled first count)
unfolding cells_from
image_of_cells P filled first zero all = All-nil P
image_of_cells P filled first (suc count) all = all_cons_some P (cell_at filled first) (cells_from filled (first + 1) count) (cell_at-of P filled first all) (image_of_cells P filled (first + 1) count all)

pub image_below : (filled : List Cell) (limit first count : ℕ) → first + count ≡ limit → All (λ c. c.position < limit) (cells_from filled first count)
unfolding cells_from
image_below filled limit first zero e = All-nil (λ c. c.position < limit)
image_below filled limit first (suc count) e =
    all_cons_some (λ c. c.position < limit) (cell_at filled first) (cells_from filled (first + 1) count)
    (weaker_at (λ c. c.position < limit) (cell_at filled first) first (cell_at-there filled first) (λ c at. omega arith))
    (image_below filled limit (first + 1) count (omega arith))

image_above : (filled : List Cell) (least first count : ℕ) → least ≤ first → All (λ c. least ≤ c.position) (cells_from filled first count)
unfolding cells_from
image_above filled least first zero e = All-nil (λ c. least ≤ c.position)
image_above filled least first (suc count) e =
    all_cons_some (λ c. least ≤ c.position) (cell_at filled first) (cells_from filled (first + 1) count)
    (weaker_at (λ c. least ≤ c.position) (cell_at filled first) first (cell_at-there filled first) (λ c at. omega arith))
    (image_above filled least (first + 1) count (omega arith))

rising_cons : (o : Option Cell) (first : ℕ) (cells : List Cell) → IfSome o (λ c. c.position ≡ first) → All (λ c. first + 1 ≤ c.position) cells → IsRising cells → IsRising (cons_some o cells)
rising_cons None first cells here above rising = rising
rising_cons (Some c) first cells here above rising = λ k d h. (elim k as (λ n. n + 1 < length (c ∷ cells) → (get_or (c ∷ cells) n d).position < (get_or (c ∷ cells) (n + 1) d).position) [
  | zero ↦ λ l. omega (arith, above 0 d (omega arith))
  | suc n ↦ λ l.
      let e : suc (n + 1) ≡ suc n + 1 = omega arith in
      subst (λ m. (get_or cells n d).position < (get_or (c ∷ cells) m d).position) e (rising n d (omega arith))
]) h

pub image_rises : (filled : List Cell) (first count : ℕ) → IsRising (cells_from filled first count)
unfolding cells_from
image_rises filled first zero = λ k d h. absurd (omega arith)
image_rises filled first (suc count) =
    rising_cons (cell_at filled first) first (cells_from filled (first + 1) count) (cell_at-there filled first) (image_above filled (first + 1) (first + 1) count (omega arith)) (image_rises filled (first + 1) count)

-- ---- a card without a fault

-- what a card without a fault fills lies in storage, after the positions of the card that loads it
no_fault : (size : ℕ) (names : List Slot) (overlaps : Bool) (slot : Slot) (cells : List Cell) (line : Line) → fault_by size names overlaps slot cells line ≡ None →
    (is_beyond size names slot cells line ≡ false) × (fills_reserved cells ≡ false)
unfolding fault_by
no_fault size names overlaps slot cells line e =
    let reserved : Option SourceFault = if fills_reserved cells then Some fault.Reserved else (if overlaps then Some fault.Filled else None) in
    let beyond : Option SourceFault = if is_beyond size names slot cells line then Some fault.Outside else reserved in
    let known : Option SourceFault = if names_unknown size names line then Some fault.UnknownName else beyond in
    let one = no_fault_or slot.fault known e in
    let two = no_fault_if (names_unknown size names line) fault.UnknownName beyond one in
    let three = no_fault_if (is_beyond size names slot cells line) fault.Outside reserved two.1 in
    let four = no_fault_if (fills_reserved cells) fault.Reserved (if overlaps then Some fault.Filled else None) three.1 in
    (three.0, four.0)

not_beyond : (size : ℕ) (names : List Slot) (slot : Slot) (cells : List Cell) (line : Line) → is_beyond size names slot cells line ≡ false → fills_outside size cells ≡ false
unfolding is_beyond
not_beyond size names slot cells line e =
    (neither (passes_outside size slot line) (fills_outside size cells) ((neither (names_outside size names line) (passes_outside size slot line || fills_outside size cells) e).1)).1

none_reserved : (cells : List Cell) → fills_reserved cells ≡ false → All (λ c. FIRST_FREE ≤ c.position) cells
none_reserved [] e = All-nil (λ c. FIRST_FREE ≤ c.position)
none_reserved (c ∷ cells) e =
    let both = neither (nat_lt c.position FIRST_FREE) (fills_reserved cells) e in
    All-cons (λ c. FIRST_FREE ≤ c.position) c cells (ltb-false c.position FIRST_FREE both.0) (none_reserved cells both.1)

-- ---- the first position of an instruction

first_inside : (size place operation : ℕ) (rest : List ℕ) (more : List Cell) → fills_outside size (field true place (operation ∷ rest) ++ more) ≡ false → place < size
unfolding field
first_inside size place operation rest more e = leb-false size place ((neither (nat_le size place) (fills_outside size (row (place + 1) rest ++ more)) e).0)

module _ (size : ℕ) (names : List Slot) (literals : List Characters) (later : List Slot) where
  -- the card is no instruction, or it begins below the size where all that it fills does
  abbrev BeginsInside : Line → Slot → Type 0
  BeginsInside line slot = is_instruction slot.role ≡ true → fills_outside size (cells_of size names literals later slot line) ≡ false → slot.before < size

  labelled_is_other : (earlier : List Slot) (label : Option Name) (address : ℕ) (role : Role) (closes : Bool) (before after : ℕ) → is_instruction role ≡ false → is_instruction (with_any_label earlier label address (takes role closes before after)).role ≡ false
  unfolding with_any_label
  labelled_is_other earlier None address role closes before after e = e
  labelled_is_other earlier (Some name) address role closes before after e =
      elim (is_some (address_of name earlier)) as (λ t. is_instruction (if t then stays earlier (Some fault.TakenLabel) else with_label (takes role closes before after) name address).role ≡ false) [
        | true ↦ refl
        | false ↦ e
      ]

  moved_is_other : (earlier : List Slot) (value : Value) → is_instruction (moved_to earlier value).role ≡ false
  moved_is_other earlier Unknown = refl
  moved_is_other earlier Outside = refl
  moved_is_other earlier (At position) = refl

  equal_is_other : (earlier : List Slot) (name : Name) (value : Value) → is_instruction (equal_to earlier name value).role ≡ false
  equal_is_other earlier name Unknown = refl
  equal_is_other earlier name Outside = refl
  equal_is_other earlier name (At position) = refl

  equated_is_other : (earlier : List Slot) (label : Name) (expression : Expression) → is_instruction (equate_slot size earlier label expression).role ≡ false
  equated_is_other earlier label expression =
      elim (is_some (address_of label earlier)) as (λ b. is_instruction (if b then stays earlier (Some fault.TakenLabel) else equal_to earlier label (value_in size earlier expression)).role ≡ false) [
        | true ↦ refl
        | false ↦ equal_is_other earlier label (value_in size earlier expression)
      ]

  ends_is_other : (earlier : List Slot) (reason : Option StatementFault) → is_instruction (ends earlier reason).role ≡ false
  ends_is_other earlier (Some reason) = refl
  ends_is_other earlier None = refl

  constant_is_other : (earlier : List Slot) (label : Option Name) (marked : Bool) (count : ℕ) → is_instruction (constant earlier label marked count).role ≡ false
  constant_is_other earlier label true count = labelled_is_other earlier label (place_after earlier + count - 1) Constant false (place_after earlier) (place_after earlier + count) refl
  constant_is_other earlier label false count = labelled_is_other earlier label (place_after_blank earlier + count - 1) Constant (is_open earlier) (place_after_blank earlier) (place_after_blank earlier + count) refl

  instruction_begins : (earlier : List Slot) (label own : Option Name) (spelled : instruction.Instruction) →
      BeginsInside (Ok (statement.Instruction own spelled)) (with_any_label earlier label (place_after earlier) (takes Instruction false (place_after earlier) (place_after earlier + instruction_length spelled)))
  unfolding with_any_label cells_of instruction_codes
  instruction_begins earlier None own spelled = λ is inside. first_inside size (place_after earlier) spelled.operation _ _ inside
  instruction_begins earlier (Some name) own spelled =
      elim (is_some (address_of name earlier)) as (λ t. BeginsInside (Ok (statement.Instruction own spelled)) (if t then stays earlier (Some fault.TakenLabel) else with_label (takes Instruction false (place_after earlier) (place_after earlier + instruction_length spelled)) name (place_after earlier))) [
        | true ↦ λ is inside. absurd (cc)
        | false ↦ λ is inside. first_inside size (place_after earlier) spelled.operation _ _ inside
      ]

  begins_inside : (earlier : List Slot) (line : Line) → BeginsInside line (slot_of size earlier line)
  unfolding slot_of
  begins_inside earlier (Err reason) is inside = absurd (cc)
  begins_inside earlier (Ok statement.Comment) is inside = absurd (cc)
  begins_inside earlier (Ok statement.Job) is inside = absurd (cc)
  begins_inside earlier (Ok (statement.Control given)) is inside = absurd (cc)
  begins_inside earlier (Ok (statement.Origin expression)) is inside = both_ways _ (moved_is_other earlier (value_in size earlier expression)) is
  begins_inside earlier (Ok (statement.Equate label expression)) is inside = both_ways _ (equated_is_other earlier label expression) is
  begins_inside earlier (Ok (statement.Constant label marked text)) is inside = both_ways _ (constant_is_other earlier label marked (constant_length text)) is
  begins_inside earlier (Ok (statement.Area label positions)) is inside = both_ways _ (labelled_is_other earlier label (place_after_blank earlier + positions - 1) Passing (is_open earlier) (place_after_blank earlier) (place_after_blank earlier + positions) refl) is
  begins_inside earlier (Ok (statement.End start labelled)) is inside = both_ways _ (ends_is_other earlier (end_fault earlier start labelled)) is
  begins_inside earlier (Ok (statement.Instruction label spelled)) is inside = instruction_begins earlier label label spelled is inside

-- ---- a source without faults

abbrev FillsFree : Laid → Type 0
FillsFree laid = All (λ c. FIRST_FREE ≤ c.position) laid.fills

abbrev StartsInside : ℕ → Laid → Type 0
StartsInside size laid = is_instruction laid.slot.role ≡ true → laid.slot.before < size

by_fault : (size : ℕ) (lines : List Line) (literals : List Characters) (layout earlier later : List Laid) (line : Line) (laid : Laid) → Satisfies size literals layout earlier later line laid → laid.fault ≡ None → FillsFree laid × StartsInside size laid
unfolding fault_of
by_fault size lines literals layout earlier later line laid rules none =
    let good = no_fault size (slots_of layout) (is_overlapping (fills_of earlier) laid.fills) laid.slot laid.fills line (sym rules.fault ∙ none) in
    let inside : fills_outside size laid.fills ≡ false = not_beyond size (slots_of layout) laid.slot laid.fills line good.0 in
    let begins = begins_inside size (slots_of layout) literals (slots_of later) (slots_of earlier) line in (
      none_reserved laid.fills good.1,
      λ is. subst (λ s. s.before < size) (sym rules.slot)
          (begins (ap (λ s. is_instruction s.role) (sym rules.slot) ∙ is)
          (ap (λ s. fills_outside size (cells_of size (slots_of layout) literals (slots_of later) s line)) (sym rules.slot) ∙ ap (fills_outside size) (sym rules.fills) ∙ inside)),
    )

-- what cards fill that all fill free positions
all_free : (layout : List Laid) → All FillsFree layout → All (λ c. FIRST_FREE ≤ c.position) (fills_of layout)
all_free [] all = All-nil (λ c. FIRST_FREE ≤ c.position)
all_free (laid ∷ layout) all = All-append (λ c. FIRST_FREE ≤ c.position) laid.fills (fills_of layout) (All-head FillsFree laid layout all) (all_free layout (All-tail FillsFree laid layout all))

first_starts : (size : ℕ) (layout : List Laid) → 0 < size → All (StartsInside size) layout → option_map_or (λ slot. slot.before) (find (λ slot. is_instruction slot.role) (slots_of layout)) 0 < size
first_starts size [] some all = some
first_starts size (laid ∷ layout) some all =
    (elim (is_instruction laid.slot.role) as (λ b. is_instruction laid.slot.role ≡ b → option_map_or (λ slot. slot.before) (if b then Some laid.slot else find (λ slot. is_instruction slot.role) (slots_of layout)) 0 < size) [
      | true ↦ λ e. All-head (StartsInside size) laid layout all e
      | false ↦ λ e. first_starts size layout some (All-tail (StartsInside size) laid layout all)
    ]) refl

position_within : (size : ℕ) (value : Value) → 0 < size → IsValueWithin size value → position_in value < size
position_within size Unknown some within = some
position_within size Outside some within = some
position_within size (At position) some within = within

starts_inside : (size : ℕ) (layout : List Laid) (line : Line) → 0 < size → All (StartsInside size) layout → start_by size (slots_of layout) line < size
starts_inside size layout (Ok (statement.End (Some expression) labelled)) some all = position_within size (value_in size (slots_of layout) expression) some (value_is_within size (slots_of layout) expression)
starts_inside size layout (Ok (statement.End None labelled)) some all = first_starts size layout some all
starts_inside size layout (Err reason) some all = some
starts_inside size layout (Ok statement.Comment) some all = some
starts_inside size layout (Ok statement.Job) some all = some
starts_inside size layout (Ok (statement.Control given)) some all = some
starts_inside size layout (Ok (statement.Origin expression)) some all = some
starts_inside size layout (Ok (statement.Equate label expression)) some all = some
starts_inside size layout (Ok (statement.Constant label marked text)) some all = some
starts_inside size layout (Ok (statement.Area label positions)) some all = some
starts_inside size layout (Ok (statement.Instruction label spelled)) some all = some

laid_well : (size : ℕ) (lines : List Line) → All (λ laid. laid.fault ≡ None) (layout_of size lines) → All (λ laid. FillsFree laid × StartsInside size laid) (layout_of size lines)
laid_well size lines none =
    let rules : IsLayout size lines (layout_of size lines) = there_is_one size lines in
    All-from_get_or (λ laid. FillsFree laid × StartsInside size laid) (layout_of size lines) nothing
    (λ k h. by_fault size lines (literals_of lines (slots_of (layout_of size lines))) (layout_of size lines) (take k (layout_of size lines)) (drop (k + 1) (layout_of size lines)) (get_or lines k silent) (get_or (layout_of size lines) k nothing)
    (rules.satisfied k (omega (arith, rules.one_each))) (none k nothing h))

-- cards can load the program of a source without faults
pub faultless_loads : (source : List Card) → IsFaultless source → IsLoadable (size_for source) (image_for source) (start_for source)
unfolding image_of
faultless_loads source faultless =
    let size = size_for source in
    let layout : List Laid = layout_for source in
    let well = laid_well size (lines_of false source) (no_faults_of (has_end source) layout faultless) in
    let least = (within (size_of source)).0 in
    let some : 0 < positions_of (size_of source) = omega arith in
    record {
      free = image_of_cells (λ c. FIRST_FREE ≤ c.position) (fills_of layout) 0 size (all_free layout (λ k d h. (well k d h).0));
      inside = image_below (fills_of layout) size 0 size (omega arith);
      start = starts_inside size layout (last_line source) some (λ k d h. (well k d h).1);
    }

module _ (source : List Card) (program : Assembly) (is_program : IsProgramOf source program) where
  size_is : size_for source ≡ positions_of program.size
  size_is = ap positions_of (sym is_program.size)

  pub can_be_loaded : IsFaultless source → CanBeLoaded program
  can_be_loaded faultless =
      subst (λ s. IsLoadable s program.image program.start) size_is
      (subst (λ i. IsLoadable (size_for source) i program.start) (sym is_program.image)
      (subst (λ s. IsLoadable (size_for source) (image_for source) s) (sym is_program.start) (faultless_loads source faultless)))

  pub rises : IsRising program.image
  unfolding image_of
  rises = subst (λ i. IsRising i) (sym is_program.image) (image_rises (fills_of (layout_for source)) 0 (size_for source))
