-- for the clauses `limit` of `slots` and `names`: places and addresses stay small
use Rattle.std.proofs.Common.{◌≡◌, ℕ, suc, ◌+◌, ◌-◌, ◌*◌, ◌<◌, ◌≤◌, Bool, true, false, List, [], ◌∷◌, ◌++◌, length, get_or, Option, Some, None, Ok, Err, is_some, sym, ◌∙◌, ap, subst, arith, length-append, IfSome, nat_lt, refl}
use Rattle.std.specs.Bool.{if◌then◌else◌}
use Rattle.std.specs.Option.{option_map, option_and_then}
use Rattle.std.specs.Prelude.{find, cond}
use Rattle.std.proofs.lemmas.List.{get_or_append_left, get_or_at}
use Rattle.std.proofs.lemmas.Bool.{ltb-true}
use Rattle.std.proofs.Math.Decide.{dec_lt}
use Rattle.core_store.specs.declared.TheConstants.{LARGEST_SIZE}
use Rattle.autocoder_statements.specs.Constants.{constant_length}
use Rattle.autocoder_statements.specs.Mnemonics.{present, instruction_length}
use Rattle.autocoder_statements.specs.Ranges.{IsConstantInRange}
use Rattle.autocoder_statements.specs.declared.constants.Constant as text
use Rattle.autocoder_statements.specs.declared.constants.Constant.TheVariants.{Characters, Blanks}
use Rattle.autocoder_statements.specs.declared.expressions.Expression.{Expression}
use Rattle.autocoder_statements.specs.declared.expressions.Adjustment.{Adjustment}
use Rattle.autocoder_statements.specs.declared.expressions.Adjustment.TheVariants as adjustment
use Rattle.autocoder_statements.specs.declared.names.Name.{Name}
use Rattle.autocoder_statements.specs.declared.operations.Instruction as instruction
use Rattle.autocoder_statements.specs.declared.reading.Statement.TheVariants as statement
use Rattle.autocoder_layout.specs.Source.{Line, IsInRange}
use Rattle.autocoder_layout.specs.Names.{defines, address_of, within, value_with, value_by, value_in, base_number, IsValueWithin}
use Rattle.autocoder_layout.specs.Slots.{origin, place_after, is_open, place_after_blank, stays, takes, with_label, with_any_label, moved_to, equal_to, end_fault, ends, run, constant, equate_slot, slot_of}
use Rattle.autocoder_layout.specs.Bounds.{IsSlotWithin, IsWithin, farthest}
use Rattle.autocoder_layout.specs.declared.faults.SourceFault.{SourceFault}
use Rattle.autocoder_layout.specs.declared.names.Value.{Value}
use Rattle.autocoder_layout.specs.declared.names.Value.TheVariants.{Unknown, Outside, At}
use Rattle.autocoder_layout.specs.declared.slots.Definition.{Definition}
use Rattle.autocoder_layout.specs.declared.slots.Role.{Role}
use Rattle.autocoder_layout.specs.declared.slots.Role.TheVariants.{Instruction, Constant, Passing}
use Rattle.autocoder_layout.specs.declared.faults.SourceFault.TheVariants as fault
use Rattle.autocoder_statements.specs.declared.faults.StatementFault.{StatementFault}
use Rattle.autocoder_layout.specs.declared.slots.Slot.{Slot}

-- ---- how many positions a card takes

pub constant_length_in_range : (text : text.Constant) → IsConstantInRange text → (0 < constant_length text) × (constant_length text < 100000)
constant_length_in_range (Characters text) h = (omega arith, omega arith)
constant_length_in_range (Blanks n) h = (omega arith, omega arith)

-- ---- names

module _ (limit : ℕ) where
  defined_within : (o : Option Definition) → IfSome o (λ d. d.address ≤ limit) → IfSome (option_map (λ (d : Definition). d.address) o) (λ a. a ≤ limit)
  defined_within None h = tt
  defined_within (Some definition) h = h

  pub address_at_most : (slots : List Slot) (wanted : Name) → IsWithin limit slots → IfSome (address_of wanted slots) (λ a. a ≤ limit)
  unfolding address_of
  address_at_most [] wanted within = tt
  address_at_most (slot ∷ slots) wanted within =
      elim (defines wanted slot) as (λ b. IfSome (option_and_then (λ (s : Slot). option_map (λ (d : Definition). d.address) s.defines) (cond b (Some slot) (find (defines wanted) slots))) (λ a. a ≤ limit)) [
        | true ↦ defined_within slot.defines (within 0 (omega arith)).address
        | false ↦ address_at_most slots wanted (λ k h. within (suc k) (omega arith))
      ]

pub address_within : (slots : List Slot) (wanted : Name) (found : Option ℕ) → found ≡ address_of wanted slots → IsWithin farthest slots → IfSome found (λ a. a ≤ farthest)
address_within slots wanted found e within = subst (λ o. IfSome o (λ a. a ≤ farthest)) (sym e) (address_at_most farthest slots wanted within)

-- ---- places

present_small : {A : Type 0} (o : Option A) → present o ≤ 1
present_small None = omega arith
present_small (Some x) = omega arith

instruction_length_small : (spelled : instruction.Instruction) → instruction_length spelled ≤ 8
instruction_length_small spelled = omega (arith, present_small spelled.first, present_small spelled.second, present_small spelled.modifier)

within_is : (size number : ℕ) → IsValueWithin size (within size number)
unfolding within
within_is size number =
    (elim (nat_lt number size) as (λ b. nat_lt number size ≡ b → IsValueWithin size (if b then At number else Outside)) [
      | true ↦ λ e. ltb-true number size e
      | false ↦ λ e. tt
    ]) refl

adjusted_within : (size : ℕ) (adjustment : Adjustment) (number : ℕ) → IsValueWithin size (value_with size adjustment number)
adjusted_within size adjustment.Nothing number = within_is size number
adjusted_within size (adjustment.Plus more) number = within_is size (number + more)
adjusted_within size (adjustment.Minus less) number =
    elim (nat_lt number less) as (λ b. IsValueWithin size (if b then Outside else within size (number - less))) [
      | true ↦ tt
      | false ↦ within_is size (number - less)
    ]

value_by_within : (size : ℕ) (adjustment : Adjustment) (number : Option ℕ) → IsValueWithin size (value_by size adjustment number)
value_by_within size adjustment None = tt
value_by_within size adjustment (Some number) = adjusted_within size adjustment number

pub value_is_within : (size : ℕ) (slots : List Slot) (expression : Expression) → IsValueWithin size (value_in size slots expression)
unfolding value_in
value_is_within size slots expression = value_by_within size expression.adjustment (base_number slots expression.base)

module _ (limit : ℕ) where
  pub place_within : (slots : List Slot) → IsWithin limit slots → 333 ≤ limit → place_after slots ≤ limit
  place_within [] within h = h
  place_within (slot ∷ slots) within h = (within (suc (length slots) - 1) (omega arith)).after

  after_blank_within : (slots : List Slot) → place_after slots ≤ limit → place_after_blank slots ≤ limit + 1
  unfolding place_after_blank
  after_blank_within slots h =
      elim (is_open slots) as (λ b. (if b then place_after slots + 1 else place_after slots) ≤ limit + 1) [
        | true ↦ omega arith
        | false ↦ omega arith
      ]

  stays_within : (earlier : List Slot) (fault : Option SourceFault) → place_after earlier ≤ limit → IsSlotWithin (limit + 100100) (stays earlier fault)
  stays_within earlier fault h = record { before = omega arith; after = omega arith; address = tt }

  labelled_within : (earlier : List Slot) (label : Option Name) (address : ℕ) (role : Role) (closes : Bool) (before after : ℕ) →
      place_after earlier ≤ limit → before ≤ limit + 100100 → after ≤ limit + 100100 → address ≤ limit + 100100 →
      IsSlotWithin (limit + 100100) (with_any_label earlier label address (takes role closes before after))
  unfolding with_any_label
  labelled_within earlier None address role closes before after h b a d = record { before = b; after = a; address = tt }
  labelled_within earlier (Some name) address role closes before after h b a d =
      elim (is_some (address_of name earlier)) as (λ t. IsSlotWithin (limit + 100100) (if t then stays earlier (Some fault.TakenLabel) else with_label (takes role closes before after) name address)) [
        | true ↦ stays_within earlier (Some fault.TakenLabel) h
        | false ↦ record { before = b; after = a; address = d }
      ]

  run_within : (earlier : List Slot) (label : Option Name) (role : Role) (closes : Bool) (place count : ℕ) →
      place_after earlier ≤ limit → place ≤ limit + 1 → count < 100000 →
      IsSlotWithin (limit + 100100) (run earlier label role closes place count)
  run_within earlier label role closes place count h p c =
      labelled_within earlier label (place + count - 1) role closes place (place + count) h (omega arith) (omega arith) (omega arith)

  moved_within : (size : ℕ) (earlier : List Slot) (value : Value) → size ≤ limit → IsValueWithin size value → place_after earlier ≤ limit → IsSlotWithin (limit + 100100) (moved_to earlier value)
  moved_within size earlier Unknown s v h = stays_within earlier (Some fault.UnknownName) h
  moved_within size earlier Outside s v h = stays_within earlier (Some fault.Outside) h
  moved_within size earlier (At position) s v h = record { before = omega (arith, after_blank_within earlier h); after = omega arith; address = tt }

  equal_within : (size : ℕ) (earlier : List Slot) (name : Name) (value : Value) → size ≤ limit → IsValueWithin size value → place_after earlier ≤ limit → IsSlotWithin (limit + 100100) (equal_to earlier name value)
  equal_within size earlier name Unknown s v h = stays_within earlier (Some fault.UnknownName) h
  equal_within size earlier name Outside s v h = stays_within earlier (Some fault.Outside) h
  equal_within size earlier name (At position) s v h = record { before = omega arith; after = omega arith; address = omega arith }

  closing_within : (earlier : List Slot) → place_after earlier ≤ limit → IsSlotWithin (limit + 100100) (takes Passing (is_open earlier) (place_after_blank earlier) (place_after_blank earlier))
  closing_within earlier h = record { before = omega (arith, after_blank_within earlier h); after = omega (arith, after_blank_within earlier h); address = tt }

  ends_within : (earlier : List Slot) (reason : Option StatementFault) → place_after earlier ≤ limit → IsSlotWithin (limit + 100100) (ends earlier reason)
  ends_within earlier (Some reason) h = stays_within earlier (Some (fault.Statement reason)) h
  ends_within earlier None h = closing_within earlier h

  constant_within : (earlier : List Slot) (label : Option Name) (marked : Bool) (count : ℕ) → place_after earlier ≤ limit → count < 100000 → IsSlotWithin (limit + 100100) (constant earlier label marked count)
  constant_within earlier label true count h c = run_within earlier label Constant false (place_after earlier) count h (omega arith) c
  constant_within earlier label false count h c = run_within earlier label Constant (is_open earlier) (place_after_blank earlier) count h (after_blank_within earlier h) c

  equated_within : (size : ℕ) (earlier : List Slot) (label : Name) (expression : Expression) → size ≤ limit → place_after earlier ≤ limit → IsSlotWithin (limit + 100100) (equate_slot size earlier label expression)
  equated_within size earlier label expression s h =
      elim (is_some (address_of label earlier)) as (λ b. IsSlotWithin (limit + 100100) (if b then stays earlier (Some fault.TakenLabel) else equal_to earlier label (value_in size earlier expression))) [
        | true ↦ stays_within earlier (Some fault.TakenLabel) h
        | false ↦ equal_within size earlier label (value_in size earlier expression) s (value_is_within size earlier expression) h
      ]

  pub slot_within : (size : ℕ) (earlier : List Slot) (line : Line) → size ≤ limit → place_after earlier ≤ limit → IsInRange line → IsSlotWithin (limit + 100100) (slot_of size earlier line)
  unfolding slot_of
  slot_within size earlier (Err reason) s h r = stays_within earlier (Some (fault.Statement reason)) h
  slot_within size earlier (Ok statement.Comment) s h r = stays_within earlier None h
  slot_within size earlier (Ok statement.Job) s h r = stays_within earlier None h
  slot_within size earlier (Ok (statement.Control given)) s h r = stays_within earlier None h
  slot_within size earlier (Ok (statement.Origin expression)) s h r = moved_within size earlier (value_in size earlier expression) s (value_is_within size earlier expression) h
  slot_within size earlier (Ok (statement.Equate label expression)) s h r = equated_within size earlier label expression s h
  slot_within size earlier (Ok (statement.Constant label marked text)) s h r = constant_within earlier label marked (constant_length text) h ((constant_length_in_range text r).1)
  slot_within size earlier (Ok (statement.Area label positions)) s h r = run_within earlier label Passing (is_open earlier) (place_after_blank earlier) positions h (after_blank_within earlier h) (r.1)
  slot_within size earlier (Ok (statement.End start labelled)) s h r = ends_within earlier (end_fault earlier start labelled) h
  slot_within size earlier (Ok (statement.Instruction label spelled)) s h r =
      labelled_within earlier label (place_after earlier) Instruction false (place_after earlier) (place_after earlier + instruction_length spelled) h (omega arith) (omega (arith, instruction_length_small spelled)) (omega arith)

  weaker : (o : Option Definition) → IfSome o (λ d. d.address ≤ limit) → IfSome o (λ d. d.address ≤ limit + 100100)
  weaker None h = tt
  weaker (Some definition) h = omega arith

  pub within_push : (slots : List Slot) (slot : Slot) → IsWithin limit slots → IsSlotWithin (limit + 100100) slot → IsWithin (limit + 100100) (slots ++ slot ∷ [])
  within_push slots slot within here k h =
      elim (dec_lt k (length slots)) [
        | yes below ↦
            let e : get_or (slots ++ slot ∷ []) k origin ≡ get_or slots k origin = get_or_append_left slots (slot ∷ []) origin k below in
            let was : IsSlotWithin limit (get_or slots k origin) = within k below in
            subst (λ s. IsSlotWithin (limit + 100100) s) (sym e) (record { before = omega arith; after = omega arith; address = weaker (get_or slots k origin).defines was.address })
        | no above ↦
            let last : length slots ≡ k = omega (arith, length-append slots (slot ∷ [])) in
            subst (λ s. IsSlotWithin (limit + 100100) s) (sym (get_or_at slots slot [] origin k last)) here
      ]

-- what lies within a limit lies within a greater one
weaker_to : (limit greater : ℕ) (o : Option Definition) → limit ≤ greater → IfSome o (λ d. d.address ≤ limit) → IfSome o (λ d. d.address ≤ greater)
weaker_to limit greater None g h = tt
weaker_to limit greater (Some definition) g h = omega arith

pub within_weaker : (limit greater : ℕ) (slots : List Slot) → limit ≤ greater → IsWithin limit slots → IsWithin greater slots
within_weaker limit greater slots g within k h =
    let was : IsSlotWithin limit (get_or slots k origin) = within k h in
    record { before = omega (arith, was.before); after = omega (arith, was.after); address = weaker_to limit greater (get_or slots k origin).defines g was.address }

-- one slot more
pub laid_within : (size i : ℕ) (old seen pushed : List Slot) (line : Line) (new : Slot) → size ≤ LARGEST_SIZE → IsInRange line →
    seen ≡ old → new ≡ slot_of size seen line → pushed ≡ old ++ new ∷ [] →
    IsWithin (16000 + 100100 * i) old → IsWithin (16000 + 100100 * (i + 1)) pushed
laid_within size i old seen pushed line new s r e n p within =
    let limit = 16000 + 100100 * i in
    let new_is : new ≡ slot_of size old line = n ∙ ap (λ t. slot_of size t line) e in
    let fresh : IsSlotWithin (limit + 100100) new = subst (λ t. IsSlotWithin (limit + 100100) t) (sym new_is) (slot_within limit size old line (omega arith) (place_within limit old within (omega arith)) r) in
    let further : limit + 100100 ≡ 16000 + 100100 * (i + 1) = omega arith in
    subst (λ t. IsWithin (16000 + 100100 * (i + 1)) t) (sym p) (subst (λ n. IsWithin n (old ++ new ∷ [])) further (within_push limit old new within fresh))
