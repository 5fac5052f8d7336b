-- for `lowest_faults_are_told`: the lowest fault of one card, operation by operation
use Rattle.std.proofs.Common.{◌≡◌, ◌≢◌, ◌⊎◌, ℕ, ◌+◌, ◌-◌, ◌<◌, ◌==◌, Bool, true, false, not, ◌||◌, ◌&&◌, List, [], ◌++◌, take, drop, Option, Some, None, Ok, Err, if◌then◌else◌, codes, is_some, refl, sym, ◌∙◌, ap, subst, arith, inl, inr, true≢false, take-append-drop}
use Rattle.std.specs.Prelude.{nat_lt}
use Rattle.std.proofs.lemmas.Bool.Decides.{Decides-ltb, Decides-or, Decides-like, Decides-at}
use Rattle.std.specs.Bool.{Decides}
use Rattle.std.specs.List.{Any, list_any}
use Rattle.cards.specs.declared.decks.Card.{Card}
use Rattle.autocoder_statements.specs.Characters.{begins}
use Rattle.autocoder_statements.specs.Constants.{constant, constant_length}
use Rattle.autocoder_statements.specs.Expressions.{positive, expression}
use Rattle.autocoder_statements.specs.Mnemonics.{instruction, instruction_length}
use Rattle.autocoder_statements.specs.Statements.{◌>>=◌, columns, label_field, operation_field, operand_field, is_comment, word_run, word, is_broken, operation_in, operation_of, or_fault, must_label, may_label, is_labelled, may_not_label, whole, size, start, statement_of, statement_on}
use Rattle.autocoder_statements.specs.declared.expressions.Expression.{Expression}
use Rattle.autocoder_statements.specs.declared.constants.Constant.{Constant}
use Rattle.autocoder_statements.specs.declared.faults.StatementFault.TheVariants as fault
use Rattle.autocoder_statements.specs.declared.names.Name.{Name}
use Rattle.autocoder_statements.specs.declared.operations.Instruction.{Instruction}
use Rattle.autocoder_statements.specs.declared.operations.Mnemonic.{Mnemonic}
use Rattle.autocoder_statements.specs.declared.operations.Operation.{Operation}
use Rattle.autocoder_statements.specs.declared.operations.Operation.TheVariants as operation
use Rattle.autocoder_statements.specs.declared.reading.Statement.TheVariants as statement
use Rattle.autocoder_statements.proofs.Tests.{both, either, neither}
use Rattle.autocoder_layout.specs.Cells.{cells_of}
use Rattle.autocoder_layout.specs.Judging.{expressions_of, is_unknown, is_outside, has_unknown_name, has_value_outside, names_unknown, names_outside, passes_outside, fills_outside, fills_reserved, is_overlapping, fault_or, is_beyond, fault_by, fault_of}
use Rattle.autocoder_layout.specs.Faults.{fault_number}
use Rattle.autocoder_layout.specs.Layout.{Laid, slots_of, fills_of, laid_by}
use Rattle.autocoder_layout.specs.Literals.{Characters}
use Rattle.autocoder_layout.specs.Names.{address_of, value_in}
use Rattle.autocoder_layout.specs.Slots.{slot_of, stays, takes, with_label, with_any_label, equal_to, has_start, ends, place_after, place_after_blank, is_open}
use Rattle.autocoder_layout.specs.Source.{Line, further, line_on, is_the_control, is_control}
use Rattle.autocoder_layout.specs.declared.cells.Cell.{Cell}
use Rattle.autocoder_layout.specs.declared.faults.SourceFault.{SourceFault}
use Rattle.autocoder_layout.specs.declared.faults.SourceFault.TheVariants as source
use Rattle.autocoder_layout.specs.declared.names.Value.{Value}
use Rattle.autocoder_layout.specs.declared.names.Value.TheVariants.{Unknown, Outside, At}
use Rattle.autocoder_layout.specs.declared.slots.Role.TheVariants as role
use Rattle.autocoder_layout.specs.declared.slots.Slot.{Slot}
use Rattle.autocoder_laws.specs.Texts.{Joined, IsEnd}
use Rattle.autocoder_laws.specs.Numbers.{IsPositive}
use Rattle.autocoder_laws.specs.Names.{IsName}
use Rattle.autocoder_laws.specs.Addresses.{IsExpression}
use Rattle.autocoder_laws.specs.Constants.{IsConstant}
use Rattle.autocoder_laws.specs.Cards.{IsSize, IsInstruction}
use Rattle.autocoder_laws.specs.Needs.{HasOperation, IsMissingOrGood, SuitsLabel, SuitsOperands, HasExpression, HasAddress}
use Rattle.autocoder_laws.specs.Faults.{InSource, HasGap, names_for, HasValue, PassesOutside, HasFault}
use Rattle.autocoder_laws.proofs.CardTexts.{joined_read, size_law, size_law_back, start_read, start_spelled, instruction_read, instruction_spelled}
use Rattle.autocoder_laws.proofs.Fields.{positive_law, positive_law_back, expression_law, expression_law_back, constant_law, constant_law_back}
use Rattle.autocoder_laws.proofs.FaultFields.{no_comment, is_no_comment, operation_had, operation_given, gap_read, gap_spelled, no_word, no_word_back, name_had, no_name, Labelled, must_labelled}
use Rattle.autocoder_laws.proofs.FaultOrder.{Above, IsLowestBut49, above_40, without, decides_false, decided_not, decides_any, in_turn}
use Rattle.autocoder_laws.proofs.Labels.{name_plain}
use Rattle.autocoder_laws.proofs.Operations.{are_apart}
use Rattle.autocoder_laws.proofs.Tests.{not_not}
use Rattle.autocoder_laws.proofs.FaultTests.{outside_decided, reserved_decided, filled_decided, read_as, not_some, same_some, is_none, or_false, may_labelled, must_reason, must_wrong, may_wrong, unknown_decided, outside_is_decided, HasIn, operand_unknown, operand_outside, result_as, unlabelled_as, early_fault, moved_fault, equal_fault, and_false, both_true, control_decided, start_decided, further_control_line, still_broken, same_start}

-- ---- a card among the others

module _ (limit : ℕ) (before : List Card) (card : Card) (after : List Card) (earlier layout : List Laid) (literals : List Characters) (later : List Slot) where
  abbrev label : List ℕ
  label = label_field card

  abbrev field : List ℕ
  field = operand_field card

  abbrev names : List Slot
  names = slots_of layout

  abbrev slot_for : Line → Slot
  slot_for line = slot_of limit (slots_of earlier) line

  abbrev cells_for : Line → List Cell
  cells_for line = cells_of limit names literals later (slot_for line) line

  abbrev pub laid_for : Line → Laid
  laid_for line = laid_by limit (slots_of layout) literals (fills_of earlier) later (slot_of limit (slots_of earlier) line) line

  abbrev pub here : Line → InSource
  here line = record { size = limit; before = before; card = card; after = after; earlier = earlier; laid = laid_for line; layout = layout }

  abbrev pub Goal : Line → Type 0
  Goal line = IsLowestBut49 (HasFault (here line)) (laid_for line).fault

  -- ---- by the fault of its slot

  told_own : (line : Line) (own : SourceFault) → (slot_for line).fault ≡ Some own → HasFault (here line) own → Above (fault_number own) (HasFault (here line)) → Goal line
  unfolding fault_of fault_by
  told_own line own e has above =
      let rest : Option SourceFault = if names_unknown limit names line then Some source.UnknownName
      else (if is_beyond limit names (slot_for line) (cells_for line) line then Some source.Outside
      else (if fills_reserved (cells_for line) then Some source.Reserved
      else (if is_overlapping (fills_of earlier) (cells_for line) then Some source.Filled else None))) in
      let told : (laid_for line).fault ≡ Some own = ap (λ x. fault_or x rest) e in
      subst (IsLowestBut49 (HasFault (here line))) (sym told) (has, above)

  told_late : (line : Line) → Above 45 (HasFault (here line)) → (slot_for line).fault ≡ None →
      Decides (names_unknown limit names line) (HasValue Unknown (here line)) → Decides (names_outside limit names line) (HasValue Outside (here line)) →
      Decides (passes_outside limit (slot_for line) line) (PassesOutside (here line)) → Goal line
  unfolding fault_of fault_by is_beyond
  told_late line above e unknown outside passes =
      let beyond : Bool = names_outside limit names line || (passes_outside limit (slot_for line) line || fills_outside limit (cells_for line)) in
      let reserved : Bool = fills_reserved (cells_for line) in
      let filled : Bool = is_overlapping (fills_of earlier) (cells_for line) in
      let rest : Option SourceFault = if names_unknown limit names line then Some source.UnknownName
      else (if beyond then Some source.Outside else (if reserved then Some source.Reserved else (if filled then Some source.Filled else None))) in
      let told : (laid_for line).fault ≡ rest = ap (λ x. fault_or x rest) e in
      subst (IsLowestBut49 (HasFault (here line))) (sym told)
      (in_turn (HasFault (here line)) above (names_unknown limit names line) beyond reserved filled unknown
      (Decides-or (names_outside limit names line) _ outside (Decides-or (passes_outside limit (slot_for line) line) _ passes (outside_decided limit (cells_for line))))
      (reserved_decided (cells_for line)) (filled_decided (fills_of earlier) (cells_for line)))

  none_named : (line : Line) → expressions_of line ≡ (None, None) → (names_unknown limit names line ≡ false) × (names_outside limit names line ≡ false)
  unfolding names_unknown names_outside
  none_named line e = (
    ap (λ p. has_unknown_name limit names p.0 || has_unknown_name limit names p.1) e,
    ap (λ p. has_value_outside limit names p.0 || has_value_outside limit names p.1) e,
  )

  no_value : (line : Line) → expressions_of line ≡ (None, None) → (HasValue Unknown (here line) → ⊥) → (HasValue Outside (here line) → ⊥) →
      Above 45 (HasFault (here line)) → (slot_for line).fault ≡ None → Decides (passes_outside limit (slot_for line) line) (PassesOutside (here line)) → Goal line
  no_value line none unknown outside above e passes =
      let named = none_named line none in
      told_late line above e (decides_false _ named.0 unknown) (decides_false _ named.1 outside) passes

  no_label : (line : Line) → Above 44 (HasFault (here line)) → ((name : Name) → IsName name (word label) → ⊥) → Above 45 (HasFault (here line))
  no_label line above none = without (HasFault (here line)) source.TakenLabel above (λ (name, named, defined). none name named)

  -- ---- a comment

  plain_name : is_comment card ≡ true → (name : Name) → IsName name (word label) → ⊥
  unfolding is_comment
  plain_name e name h =
      let n = word_run label in
      let other : begins (codes "*") (take n label ++ drop n label) ≡ false = name_plain name (take n label) (drop n label) h in
      true≢false (sym e ∙ sym (ap (begins (codes "*")) (take-append-drop n label)) ∙ other)

  not_had : (o : Operation) → is_comment card ≡ true → HasOperation o card → ⊥
  not_had o e h = true≢false (sym e ∙ no_comment card h.no_comment)

  commented : is_comment card ≡ true → Goal (Ok statement.Comment)
  unfolding slot_of expressions_of
  commented e =
      let line : Line = Ok statement.Comment in
      let Has : SourceFault → Type 0 = HasFault (here line) in
      let no_40 : Has (source.Statement fault.BrokenField) → ⊥ = λ h. true≢false (sym e ∙ no_comment card h.0) in
      let no_41 : Has (source.Statement fault.UnknownOperation) → ⊥ = λ h. true≢false (sym e ∙ no_comment card h.0) in
      let no_43 : Has (source.Statement fault.Label) → ⊥ = λ h. not_had h.0 e h.1 in
      let above_41 : Above 41 Has = without Has (source.Statement fault.BrokenField) (above_40 Has (λ h. h)) no_40 in
      let above_42 : Above 42 Has = without Has (source.Statement fault.UnknownOperation) above_41 no_41 in
      let above_43 : Above 43 Has = without Has (source.Statement fault.Operand) above_42 (no_42 line) in
      let above_44 : Above 44 Has = without Has (source.Statement fault.Label) above_43 no_43 in
      no_value line refl (λ h. not_had h.operation e h.has) (λ h. not_had h.operation e h.has) (no_label line above_44 (plain_name e)) refl
      (decides_false _ refl (λ h. not_had operation.Area e h.0))
    where
      no_42 : (line : Line) → HasFault (here line) (source.Statement fault.Operand) → ⊥
      no_42 line (inl h) = not_had h.0 e h.1
      no_42 line (inr (inl h)) = not_had operation.Control e h.0
      no_42 line (inr (inr h)) = not_had operation.End e h.0

  -- ---- a card with a gap, or without an operation

  fields_broken : is_comment card ≡ false → (is_broken label || is_broken (operation_field card)) ≡ true → Goal (Err fault.BrokenField)
  unfolding slot_of
  fields_broken plain e =
      let line : Line = Err fault.BrokenField in
      told_own line (source.Statement fault.BrokenField) refl
      (is_no_comment card plain, either (is_broken label) (is_broken (operation_field card)) e (λ t. inl (gap_spelled label t)) (λ t. inr (gap_spelled (operation_field card) t)))
      (above_40 (HasFault (here line)) (λ h. h))

  module _ (plain : is_comment card ≡ false) (unbroken : (is_broken label || is_broken (operation_field card)) ≡ false) where
    no_gap : HasGap (columns 6 15 card) ⊎ HasGap (columns 16 20 card) → ⊥
    no_gap (inl h) = true≢false (sym (gap_read label h) ∙ (neither (is_broken label) (is_broken (operation_field card)) unbroken).0)
    no_gap (inr h) = true≢false (sym (gap_read (operation_field card) h) ∙ (neither (is_broken label) (is_broken (operation_field card)) unbroken).1)

    above_41 : (line : Line) → Above 41 (HasFault (here line))
    above_41 line = without (HasFault (here line)) (source.Statement fault.BrokenField) (above_40 (HasFault (here line)) (λ h. h)) (λ h. no_gap h.1)

    no_operation : operation_in (operation_field card) ≡ None → Goal (Err fault.UnknownOperation)
    unfolding slot_of
    no_operation none =
        told_own (Err fault.UnknownOperation) (source.Statement fault.UnknownOperation) refl
        (is_no_comment card plain, λ o h. not_some (operation_in (operation_field card)) o none (operation_had o card h).found)
        (above_41 (Err fault.UnknownOperation))

    -- ---- a card with an operation

    module _ (o : Operation) (found : operation_in (operation_field card) ≡ Some o) where
      its : HasOperation o card
      its = operation_given o card plain found

      only : (other : Operation) → HasOperation other card → other ≡ o
      only other h = same_some (operation_in (operation_field card)) other o (operation_had other card h).found found

      above_42 : (line : Line) → Above 42 (HasFault (here line))
      above_42 line = without (HasFault (here line)) (source.Statement fault.UnknownOperation) (above_41 line) (λ h. h.1 o its)

      -- the operand field is right, the card is no further CTL, and an END has its start
      record AreRight : Type 0 where
        suits : SuitsOperands o field
        first : operation.Control ≡ o → Any (HasOperation operation.Control) before → ⊥
        starts : operation.End ≡ o → IsEnd field → (Any (λ laid. laid.slot.role ≡ role.Instruction) earlier → ⊥) → ⊥

      above_43 : (line : Line) → AreRight → Above 43 (HasFault (here line))
      above_43 line right = without (HasFault (here line)) (source.Statement fault.Operand) (above_42 line) never
        where
          never : HasFault (here line) (source.Statement fault.Operand) → ⊥
          never (inl (other, h, wrong)) = wrong (subst (λ x. SuitsOperands x field) (sym (only other h)) right.suits)
          never (inr (inl (h, any))) = right.first (only operation.Control h) any
          never (inr (inr (h, ended, none))) = right.starts (only operation.End h) ended none

      above_44 : (line : Line) → AreRight → SuitsLabel o (word label) → Above 44 (HasFault (here line))
      above_44 line right suits =
          without (HasFault (here line)) (source.Statement fault.Label) (above_43 line right)
          (λ (other, h, wrong). wrong (subst (λ x. SuitsLabel x (word label)) (sym (only other h)) suits))

      wrong_operands : (SuitsOperands o field → ⊥) → Goal (Err fault.Operand)
      unfolding slot_of
      wrong_operands wrong = told_own (Err fault.Operand) (source.Statement fault.Operand) refl (inl (o, its, wrong)) (above_42 (Err fault.Operand))

      wrong_label : AreRight → (SuitsLabel o (word label) → ⊥) → Goal (Err fault.Label)
      unfolding slot_of
      wrong_label right wrong = told_own (Err fault.Label) (source.Statement fault.Label) refl (o, its, wrong) (above_43 (Err fault.Label) right)

      -- ---- its label, where it may have one

      labelled : (line : Line) (name : Option Name) (address : ℕ) (given : Slot) → Above 44 (HasFault (here line)) → Labelled name (word label) →
          slot_for line ≡ with_any_label (slots_of earlier) name address given → given.fault ≡ None →
          (Above 45 (HasFault (here line)) → (slot_for line).fault ≡ None → (slot_for line).before ≡ given.before → (slot_for line).after ≡ given.after → Goal line) → Goal line
      unfolding with_any_label
      labelled line None address given above read e none rest =
          rest (no_label line above (λ name h. absurd (let other = read.is name h in cc))) (ap (λ (s : Slot). s.fault) e ∙ none) (ap (λ (s : Slot). s.before) e) (ap (λ (s : Slot). s.after) e)
      labelled line (Some name) address given above read e none rest = by_test (is_some (address_of name (slots_of earlier))) refl e
        where
          by_test : (test : Bool) → is_some (address_of name (slots_of earlier)) ≡ test →
              slot_for line ≡ (if test then stays (slots_of earlier) (Some source.TakenLabel) else with_label given name address) → Goal line
          by_test true t same =
              told_own line source.TakenLabel (ap (λ (s : Slot). s.fault) same) (name, read.has name refl, λ lost. true≢false (sym t ∙ ap is_some lost)) above
          by_test false t same =
              rest
              (without (HasFault (here line)) source.TakenLabel above
              (λ (other, h, defined). defined (ap (λ n. address_of n (slots_of earlier)) (own other (read.is other h)) ∙ is_none _ t)))
              (ap (λ (s : Slot). s.fault) same ∙ none) (ap (λ (s : Slot). s.before) same) (ap (λ (s : Slot). s.after) same)
            where
              own : (other : Name) → Some name ≡ Some other → other ≡ name
              own other same = cc

      -- ---- its addresses

      -- an address of this operation with a value
      abbrev HasOwn : Value → Operation → Line → Type 0
      HasOwn value other line = (e : Expression) × HasAddress other e field × (value_in limit (names_for other (here line)) e ≡ value)

      own_value : (value : Value) (line : Line) → HasValue value (here line) → HasOwn value o line
      own_value value line h = subst (λ x. HasOwn value x line) (only h.operation h.has) (h.expression, h.said, h.is)

      no_own : ((e : Expression) → HasAddress o e field → ⊥) → (value : Value) (line : Line) → HasValue value (here line) → ⊥
      no_own none value line h = let (e, said, is) = own_value value line h in none e said

      no_pass : (line : Line) → (operation.Area ≡ o → ⊥) → passes_outside limit (slot_for line) line ≡ false → Decides (passes_outside limit (slot_for line) line) (PassesOutside (here line))
      no_pass line other e = decides_false _ e (λ h. other (only operation.Area h.0))

      -- a card without addresses, whose label is right
      no_addresses : (line : Line) → ((e : Expression) → HasAddress o e field → ⊥) → expressions_of line ≡ (None, None) →
          Above 45 (HasFault (here line)) → (slot_for line).fault ≡ None → Decides (passes_outside limit (slot_for line) line) (PassesOutside (here line)) → Goal line
      no_addresses line none named above e passes = no_value line named (no_own none Unknown line) (no_own none Outside line) above e passes

      -- a card whose address counts where it stands, as that of ORG and EQU
      early : (line : Line) (e : Expression) → Above 45 (HasFault (here line)) →
          ((value : Value) → value_in limit (slots_of earlier) e ≡ value → HasValue value (here line)) →
          ((value : Value) → HasValue value (here line) → value_in limit (slots_of earlier) e ≡ value) →
          expressions_of line ≡ (None, None) → Decides (passes_outside limit (slot_for line) line) (PassesOutside (here line)) →
          (value : Value) → value_in limit (slots_of earlier) e ≡ value → (slot_for line).fault ≡ early_fault value → Goal line
      early line e above give own named passes Unknown at is = told_own line source.UnknownName is (give Unknown at) above
      early line e above give own named passes Outside at is =
          told_own line source.Outside is (inl (give Outside at)) (without (HasFault (here line)) source.UnknownName above (λ h. let k = own Unknown h in absurd (cc)))
      early line e above give own named passes (At position) at is =
          no_value line named (λ h. let k = own Unknown h in absurd (cc)) (λ h. let k = own Outside h in absurd (cc)) above is passes

      its_expression : (e other : Expression) → whole field (expression field) ≡ Some e → Joined (IsExpression other) IsEnd field → other ≡ e
      its_expression e other at said = same_some (whole field (expression field)) other e (joined_read IsExpression expression expression_law other field said) at

    -- ---- the orders

    missing : word label ≡ [] → (name : Name) → IsName name (word label) → ⊥
    missing e name h = no_name name (subst (IsName name) e h)

    job : operation_in (operation_field card) ≡ Some operation.Job → (line : Line) → statement_of operation.Job label field ≡ line → Goal line
    unfolding statement_of slot_of expressions_of
    job found line e =
        let right : AreRight operation.Job found = record { suits = tt; first = λ k any. absurd (cc); starts = λ k ended none. absurd (cc) } in
        let own : Line = Ok statement.Job in
        unlabelled_as label statement.Job line e
        (λ none is. subst Goal (sym is)
        (no_addresses operation.Job found own (λ x a. a) refl (no_label own (above_44 operation.Job found own right none) (missing none)) refl
        (no_pass operation.Job found own (λ k. absurd (cc)) refl)))
        (λ wrong is. subst Goal (sym is) (wrong_label operation.Job found right wrong))

    control : operation_in (operation_field card) ≡ Some operation.Control → (Any (HasOperation operation.Control) before → ⊥) →
        (line : Line) → statement_of operation.Control label field ≡ line → Goal line
    unfolding statement_of slot_of expressions_of
    control found first line e =
        read_as (whole field (size field)) (λ s. may_not_label label (statement.Control s)) line e
        (λ none is. subst Goal (sym is) (wrong_operands operation.Control found (λ (s, j). not_some _ s none (joined_read IsSize size size_law s field j))))
        (λ s at more.
        let right : AreRight operation.Control found = record { suits = (s, size_law_back s field at); first = λ k any. first any; starts = λ k ended none. absurd (cc) } in
        let own : Line = Ok (statement.Control s) in
        unlabelled_as label (statement.Control s) line more
        (λ none is. subst Goal (sym is)
        (no_addresses operation.Control found own (λ x a. a) refl (no_label own (above_44 operation.Control found own right none) (missing none)) refl
        (no_pass operation.Control found own (λ k. absurd (cc)) refl)))
        (λ wrong is. subst Goal (sym is) (wrong_label operation.Control found right wrong)))

    origin : operation_in (operation_field card) ≡ Some operation.Origin → (line : Line) → statement_of operation.Origin label field ≡ line → Goal line
    unfolding statement_of slot_of expressions_of
    origin found line e =
        read_as (whole field (expression field)) (λ x. may_not_label label (statement.Origin x)) line e
        (λ none is. subst Goal (sym is) (wrong_operands operation.Origin found (λ (x, j). not_some _ x none (joined_read IsExpression expression expression_law x field j))))
        (λ x at more.
        let right : AreRight operation.Origin found = record { suits = (x, expression_law_back x field at); first = λ k any. absurd (cc); starts = λ k ended none. absurd (cc) } in
        let own : Line = Ok (statement.Origin x) in
        unlabelled_as label (statement.Origin x) line more
        (λ none is. subst Goal (sym is)
        (early operation.Origin found own x (no_label own (above_44 operation.Origin found own right none) (missing none))
        (λ value k. record { operation = operation.Origin; has = its operation.Origin found; expression = x; said = expression_law_back x field at; is = k })
        (λ value h. let (other, said, k) = own_value operation.Origin found value own h in
        ap (value_in limit (slots_of earlier)) (sym (its_expression operation.Origin found x other at said)) ∙ k)
        refl (no_pass operation.Origin found own (λ k. absurd (cc)) refl) (value_in limit (slots_of earlier) x) refl
        (moved_fault (slots_of earlier) (value_in limit (slots_of earlier) x))))
        (λ wrong is. subst Goal (sym is) (wrong_label operation.Origin found right wrong)))

    equate : operation_in (operation_field card) ≡ Some operation.Equate → (line : Line) → statement_of operation.Equate label field ≡ line → Goal line
    unfolding statement_of slot_of expressions_of
    equate found line e =
        read_as (whole field (expression field)) (λ x. must_label label >>= (λ name. Ok (statement.Equate name x))) line e
        (λ none is. subst Goal (sym is) (wrong_operands operation.Equate found (λ (x, j). not_some _ x none (joined_read IsExpression expression expression_law x field j))))
        (λ x at more.
        let right : AreRight operation.Equate found = record { suits = (x, expression_law_back x field at); first = λ k any. absurd (cc); starts = λ k ended none. absurd (cc) } in
        result_as (must_label label) (λ name. Ok (statement.Equate name x)) line more
        (λ reason bad is. subst Goal (sym (is ∙ ap Err (must_reason label reason bad))) (wrong_label operation.Equate found right (must_wrong label reason bad)))
        (λ name read is. subst Goal is (by_name x at right name read)))
      where
        by_name : (x : Expression) → whole field (expression field) ≡ Some x → AreRight operation.Equate found → (name : Name) → must_label label ≡ Ok name → Goal (Ok (statement.Equate name x))
        by_name x at right name read = by_test (is_some (address_of name (slots_of earlier))) refl
          where
            above : Above 44 (HasFault (here (Ok (statement.Equate name x))))
            above = above_44 operation.Equate found (Ok (statement.Equate name x)) right (name, name_had name label read)

            slot_is : (test : Bool) → is_some (address_of name (slots_of earlier)) ≡ test →
                slot_for (Ok (statement.Equate name x)) ≡ (if test then stays (slots_of earlier) (Some source.TakenLabel) else equal_to (slots_of earlier) name (value_in limit (slots_of earlier) x))
            slot_is test t = ap (λ b. if b then stays (slots_of earlier) (Some source.TakenLabel) else equal_to (slots_of earlier) name (value_in limit (slots_of earlier) x)) t

            same : (other : Name) → Some name ≡ Some other → other ≡ name
            same other k = cc

            by_test : (test : Bool) → is_some (address_of name (slots_of earlier)) ≡ test → Goal (Ok (statement.Equate name x))
            by_test true t =
                told_own (Ok (statement.Equate name x)) source.TakenLabel (ap (λ (s : Slot). s.fault) (slot_is true t)) (name, name_had name label read, λ lost. true≢false (sym t ∙ ap is_some lost)) above
            by_test false t =
                early operation.Equate found (Ok (statement.Equate name x)) x
                (without (HasFault (here (Ok (statement.Equate name x)))) source.TakenLabel above
                (λ (other, h, defined). defined (ap (λ n. address_of n (slots_of earlier)) (same other ((must_labelled name label read).is other h)) ∙ is_none _ t)))
                (λ value k. record { operation = operation.Equate; has = its operation.Equate found; expression = x; said = expression_law_back x field at; is = k })
                (λ value h. let (other, said, k) = own_value operation.Equate found value (Ok (statement.Equate name x)) h in
                ap (value_in limit (slots_of earlier)) (sym (its_expression operation.Equate found x other at said)) ∙ k)
                refl (no_pass operation.Equate found (Ok (statement.Equate name x)) (λ k. absurd (cc)) refl) (value_in limit (slots_of earlier) x) refl
                (ap (λ (s : Slot). s.fault) (slot_is false t) ∙ equal_fault (slots_of earlier) name (value_in limit (slots_of earlier) x))

    -- ---- constants and areas

    constants : (o : Operation) (marked : Bool) → operation.Control ≢ o → operation.End ≢ o → operation.Area ≢ o → ((e : Expression) → HasAddress o e field → ⊥) →
        ((c : Constant) → Joined (IsConstant c) IsEnd field → SuitsOperands o field) → (SuitsOperands o field → (c : Constant) × Joined (IsConstant c) IsEnd field) →
        (IsMissingOrGood (word label) → SuitsLabel o (word label)) → (SuitsLabel o (word label) → IsMissingOrGood (word label)) →
        operation_in (operation_field card) ≡ Some o → (line : Line) →
        (or_fault fault.Operand (whole field (constant field)) >>= (λ c. may_label label >>= (λ name. Ok (statement.Constant name marked c)))) ≡ line → Goal line
    unfolding slot_of expressions_of
    constants o marked no_control no_end no_area none give take give_label take_label found line e =
        read_as (whole field (constant field)) (λ c. may_label label >>= (λ name. Ok (statement.Constant name marked c))) line e
        (λ bad is. subst Goal (sym is) (wrong_operands o found (λ suits. let (c, j) = take suits in not_some _ c bad (joined_read IsConstant constant constant_law c field j))))
        (λ c at more.
        let right : AreRight o found = record { suits = give c (constant_law_back c field at); first = λ k any. no_control k; starts = λ k ended none. no_end k } in
        result_as (may_label label) (λ name. Ok (statement.Constant name marked c)) line more
        (λ reason bad is. let wrong = may_wrong label reason bad in subst Goal (sym (is ∙ ap Err wrong.0)) (wrong_label o found right (λ suits. wrong.1 (take_label suits))))
        (λ name read is. subst Goal is (by_mark marked c right name (may_labelled name label read))))
      where
        by_mark : (mark : Bool) (c : Constant) → AreRight o found → (name : Option Name) → Labelled name (word label) → Goal (Ok (statement.Constant name mark c))
        by_mark true c right name read =
            let own : Line = Ok (statement.Constant name true c) in
            let place = place_after (slots_of earlier) in
            labelled o found own name (place + constant_length c - 1) (takes role.Constant false place (place + constant_length c))
            (above_44 o found own right (give_label read.suits)) read refl refl
            (λ above is from to. no_addresses o found own none refl above is (no_pass o found own no_area refl))
        by_mark false c right name read =
            let own : Line = Ok (statement.Constant name false c) in
            let place = place_after_blank (slots_of earlier) in
            labelled o found own name (place + constant_length c - 1) (takes role.Constant (is_open (slots_of earlier)) place (place + constant_length c))
            (above_44 o found own right (give_label read.suits)) read refl refl
            (λ above is from to. no_addresses o found own none refl above is (no_pass o found own no_area refl))

    area : operation_in (operation_field card) ≡ Some operation.Area → (line : Line) → statement_of operation.Area label field ≡ line → Goal line
    unfolding statement_of slot_of expressions_of
    area found line e =
        read_as (whole field (positive field)) (λ n. may_label label >>= (λ name. Ok (statement.Area name n))) line e
        (λ none is. subst Goal (sym is) (wrong_operands operation.Area found (λ (n, j). not_some _ n none (joined_read IsPositive positive positive_law n field j))))
        (λ n at more.
        let said = positive_law_back n field at in
        let right : AreRight operation.Area found = record { suits = (n, said); first = λ k any. absurd (cc); starts = λ k ended none. absurd (cc) } in
        result_as (may_label label) (λ name. Ok (statement.Area name n)) line more
        (λ reason bad is. let wrong = may_wrong label reason bad in subst Goal (sym (is ∙ ap Err wrong.0)) (wrong_label operation.Area found right wrong.1))
        (λ name read is. subst Goal is
        (let own : Line = Ok (statement.Area name n) in
        let place = place_after_blank (slots_of earlier) in
        let labels = may_labelled name label read in
        let some : 0 < n = said.is_one.positive in
        labelled operation.Area found own name (place + n - 1) (takes role.Passing (is_open (slots_of earlier)) place (place + n))
        (above_44 operation.Area found own right labels.suits) labels refl refl
        (λ above none from to. no_addresses operation.Area found own (λ x a. a) refl above none
        (passes own (subst (λ b. b < (slot_for own).after) (sym from) (subst (λ a. place < a) (sym to) (omega arith))))))))
      where
        passes : (own : Line) → (slot_for own).before < (slot_for own).after → Decides (nat_lt limit (slot_for own).after) (PassesOutside (here own))
        passes own some =
            let d = Decides-ltb limit (slot_for own).after in
            (λ t. (its operation.Area found, some, d.0 t), λ h. d.1 h.2)

    -- ---- the end

    abbrev end_line : Option Expression → Line
    end_line s = Ok (statement.End s (is_labelled label))

    end : operation_in (operation_field card) ≡ Some operation.End → (line : Line) → statement_of operation.End label field ≡ line → Goal line
    unfolding statement_of slot_of expressions_of names_unknown names_outside
    end found line e =
        read_as (start field) (λ s. Ok (statement.End s (is_labelled label))) line e
        (λ none is. subst Goal (sym is) (wrong_operands operation.End found (λ (s, h). not_some _ s none (start_read s field h))))
        (λ s at is. subst Goal is (by_start s at (has_start (slots_of earlier) s) refl))
      where
        slot_is : (s : Option Expression) (has labelled : Bool) → has_start (slots_of earlier) s ≡ has → is_labelled label ≡ labelled →
            slot_for (end_line s) ≡ ends (slots_of earlier) (if not has then Some fault.Operand else (if labelled then Some fault.Label else None))
        slot_is s has labelled h l =
            ap (λ b. ends (slots_of earlier) (if not b then Some fault.Operand else (if is_labelled label then Some fault.Label else None))) h
            ∙ ap (λ b. ends (slots_of earlier) (if not has then Some fault.Operand else (if b then Some fault.Label else None))) l

        no_address : (s : Option Expression) → start field ≡ Some s → has_start (slots_of earlier) s ≡ false → IsEnd field
        no_address None at h = start_spelled field None at
        no_address (Some x) at h = absurd (true≢false h)

        no_instruction : (s : Option Expression) → has_start (slots_of earlier) s ≡ false → Any (λ laid. laid.slot.role ≡ role.Instruction) earlier → ⊥
        no_instruction None h = decided_not _ (start_decided earlier) h
        no_instruction (Some x) h = absurd (true≢false h)

        some_start : (s : Option Expression) → start field ≡ Some s → has_start (slots_of earlier) s ≡ true → IsEnd field →
            (Any (λ laid. laid.slot.role ≡ role.Instruction) earlier → ⊥) → ⊥
        some_start None at h ended none = none ((start_decided earlier).0 h)
        some_start (Some x) at h ended none = let read = start_read None field ended in absurd (cc)

        unknown : (s : Option Expression) → start field ≡ Some s → Decides (names_unknown limit names (end_line s)) (HasValue Unknown (here (end_line s)))
        unknown None at =
            decides_false _ refl (λ h. let (x, said, k) = own_value operation.End found Unknown (end_line None) h in
            let read = start_read (Some x) field said in absurd (cc))
        unknown (Some x) at =
            let line : Line = end_line (Some x) in
            Decides-at _ (is_unknown (value_in limit names x)) (or_false _)
            (Decides-like _
            (λ k. record { operation = operation.End; has = its operation.End found; expression = x; said = start_spelled field (Some x) at; is = k })
            (λ h. let (y, said, k) = own_value operation.End found Unknown line h in
            let same : y ≡ x = same_start x y at said in
            ap (value_in limit names) (sym same) ∙ k)
            (unknown_decided (value_in limit names x)))

        outside : (s : Option Expression) → start field ≡ Some s → Decides (names_outside limit names (end_line s)) (HasValue Outside (here (end_line s)))
        outside None at =
            decides_false _ refl (λ h. let (x, said, k) = own_value operation.End found Outside (end_line None) h in
            let read = start_read (Some x) field said in absurd (cc))
        outside (Some x) at =
            let line : Line = end_line (Some x) in
            Decides-at _ (is_outside (value_in limit names x)) (or_false _)
            (Decides-like _
            (λ k. record { operation = operation.End; has = its operation.End found; expression = x; said = start_spelled field (Some x) at; is = k })
            (λ h. let (y, said, k) = own_value operation.End found Outside line h in
            let same : y ≡ x = same_start x y at said in
            ap (value_in limit names) (sym same) ∙ k)
            (outside_is_decided (value_in limit names x)))

        by_label : (s : Option Expression) → start field ≡ Some s → has_start (slots_of earlier) s ≡ true → AreRight operation.End found →
            (test : Bool) → is_labelled label ≡ test → Goal (end_line s)
        by_label s at h right true t =
            told_own (end_line s) (source.Statement fault.Label) (ap (λ (x : Slot). x.fault) (slot_is s true true h t))
            (operation.End, its operation.End found, λ none. true≢false (sym t ∙ ap not (no_word_back label none)))
            (above_43 operation.End found (end_line s) right)
        by_label s at h right false t =
            let none = no_word label (not_not (word_run label == 0) t) in
            told_late (end_line s) (no_label (end_line s) (above_44 operation.End found (end_line s) right none) (missing none))
            (ap (λ (x : Slot). x.fault) (slot_is s true false h t)) (unknown s at) (outside s at)
            (no_pass operation.End found (end_line s) (λ k. absurd (cc)) refl)

        by_start : (s : Option Expression) → start field ≡ Some s → (test : Bool) → has_start (slots_of earlier) s ≡ test → Goal (end_line s)
        by_start s at false h =
            told_own (end_line s) (source.Statement fault.Operand) (ap (λ (x : Slot). x.fault) (slot_is s false (is_labelled label) h refl))
            (inr (inr (its operation.End found, no_address s at h, no_instruction s h))) (above_42 operation.End found (end_line s))
        by_start s at true h =
            let right : AreRight operation.End found = record {
              suits = (s, start_spelled field s at);
              first = λ k any. absurd (cc);
              starts = λ k ended none. some_start s at h ended none;
            } in
            by_label s at h right (is_labelled label) refl

    -- ---- instructions

    instructed : (m : Mnemonic) → operation_in (operation_field card) ≡ Some (operation.Instruction m) → (line : Line) → statement_of (operation.Instruction m) label field ≡ line → Goal line
    unfolding statement_of slot_of expressions_of names_unknown names_outside
    instructed m found line e =
        read_as (instruction m field) (λ i. may_label label >>= (λ name. Ok (statement.Instruction name i))) line e
        (λ none is. subst Goal (sym is) (wrong_operands (operation.Instruction m) found (λ (i, h). not_some _ i none (instruction_read m i field apart h))))
        (λ i at more.
        let right : AreRight (operation.Instruction m) found = record { suits = (i, instruction_spelled m i field at); first = λ k any. absurd (cc); starts = λ k ended none. absurd (cc) } in
        result_as (may_label label) (λ name. Ok (statement.Instruction name i)) line more
        (λ reason bad is. let wrong = may_wrong label reason bad in subst Goal (sym (is ∙ ap Err wrong.0)) (wrong_label (operation.Instruction m) found right wrong.1))
        (λ name read is. subst Goal is (by_name i at right name (may_labelled name label read))))
      where
        apart : are_apart m.forms ≡ true
        apart = (operation_had (operation.Instruction m) card (its (operation.Instruction m) found)).apart

        same : (i other : Instruction) → instruction m field ≡ Some i → IsInstruction m other field → other ≡ i
        same i other at h = same_some (instruction m field) other i (instruction_read m other field apart h) at

        one_of : (value : Value) (i : Instruction) (x : Expression) → HasExpression x i → value_in limit names x ≡ value → HasIn limit names value i.first ⊎ HasIn limit names value i.second
        one_of value i x (index, inl h) k = inl (x, index, h, k)
        one_of value i x (index, inr h) k = inr (x, index, h, k)

        has : (value : Value) (line : Line) (i : Instruction) → instruction m field ≡ Some i → HasIn limit names value i.first ⊎ HasIn limit names value i.second → HasValue value (here line)
        has value line i at (inl (x, index, h, k)) =
            record { operation = operation.Instruction m; has = its (operation.Instruction m) found; expression = x; said = (i, instruction_spelled m i field at, (index, inl h)); is = k }
        has value line i at (inr (x, index, h, k)) =
            record { operation = operation.Instruction m; has = its (operation.Instruction m) found; expression = x; said = (i, instruction_spelled m i field at, (index, inr h)); is = k }

        had : (value : Value) (line : Line) (i : Instruction) → instruction m field ≡ Some i → HasValue value (here line) → HasIn limit names value i.first ⊎ HasIn limit names value i.second
        had value line i at h =
            let (x, said, k) = own_value (operation.Instruction m) found value line h in
            one_of value i x (subst (HasExpression x) (same i said.0 at said.1) said.2) k

        by_name : (i : Instruction) → instruction m field ≡ Some i → AreRight (operation.Instruction m) found → (name : Option Name) → Labelled name (word label) → Goal (Ok (statement.Instruction name i))
        by_name i at right name read =
            let own : Line = Ok (statement.Instruction name i) in
            let place = place_after (slots_of earlier) in
            labelled (operation.Instruction m) found own name place (takes role.Instruction false place (place + instruction_length i))
            (above_44 (operation.Instruction m) found own right read.suits) read refl refl
            (λ above none from to. told_late own above none
            (Decides-like _ (has Unknown own i at) (had Unknown own i at) (Decides-or _ _ (operand_unknown limit names i.first) (operand_unknown limit names i.second)))
            (Decides-like _ (has Outside own i at) (had Outside own i at) (Decides-or _ _ (operand_outside limit names i.first) (operand_outside limit names i.second)))
            (no_pass (operation.Instruction m) found own (λ k. absurd (cc)) refl))

    -- ---- all operations

    any_operation : (o : Operation) → operation_in (operation_field card) ≡ Some o → (operation.Control ≡ o → Any (HasOperation operation.Control) before → ⊥) →
        (line : Line) → statement_of o label field ≡ line → Goal line
    unfolding statement_of
    any_operation operation.Job found first line e = job found line e
    any_operation operation.Control found first line e = control found (first refl) line e
    any_operation operation.Origin found first line e = origin found line e
    any_operation operation.Equate found first line e = equate found line e
    any_operation operation.MarkedConstant found first line e =
        constants operation.MarkedConstant true (λ k. absurd (cc)) (λ k. absurd (cc)) (λ k. absurd (cc)) (λ x a. a) (λ c j. (c, j)) (λ suits. suits) (λ s. s) (λ s. s) found line e
    any_operation operation.Constant found first line e =
        constants operation.Constant false (λ k. absurd (cc)) (λ k. absurd (cc)) (λ k. absurd (cc)) (λ x a. a) (λ c j. (c, j)) (λ suits. suits) (λ s. s) (λ s. s) found line e
    any_operation operation.Area found first line e = area found line e
    any_operation operation.End found first line e = end found line e
    any_operation (operation.Instruction m) found first line e = instructed m found line e

    further_control : operation_in (operation_field card) ≡ Some operation.Control → Any (HasOperation operation.Control) before → Goal (Err fault.Operand)
    unfolding slot_of
    further_control found any =
        told_own (Err fault.Operand) (source.Statement fault.Operand) refl (inr (inl (its operation.Control found, any))) (above_42 operation.Control found (Err fault.Operand))

  -- ---- a card, whatever is on it

  abbrev has : Bool
  has = list_any is_control before

  first_line : (has && is_control card) ≡ false → line_on has card ≡ statement_on card
  unfolding line_on
  first_line e = ap (λ b. if b then further (statement_on card) else statement_on card) e

  further_line : (has && is_control card) ≡ true → line_on has card ≡ further (statement_on card)
  unfolding line_on
  further_line e = ap (λ b. if b then further (statement_on card) else statement_on card) e

  without_operation : operation_of card ≡ None → line_on has card ≡ statement_on card
  unfolding is_control
  without_operation e = first_line (and_false has (is_control card) (ap is_the_control e))

  by_further : is_comment card ≡ false → (is_broken label || is_broken (operation_field card)) ≡ false → (o : Operation) → operation_in (operation_field card) ≡ Some o → (test : Bool) → (has && is_control card) ≡ test →
      statement_on card ≡ statement_of o label field → Goal (line_on has card)
  by_further t b o found false r at =
      any_operation t b o found first (line_on has card) (sym (first_line r ∙ at))
    where
      first : operation.Control ≡ o → Any (HasOperation operation.Control) before → ⊥
      first same any =
          let own : HasOperation o card = operation_given o card t found in
          let is : is_control card ≡ true = (control_decided card).1 (subst (λ x. HasOperation x card) (sym same) own) in
          let was : has ≡ true = (decides_any is_control (HasOperation operation.Control) before control_decided).1 any in
          true≢false (sym (both_true has (is_control card) was is) ∙ r)
  by_further t b o found true r at =
      let p = both has (is_control card) r in
      let own = (control_decided card).0 p.1 in
      let same : operation.Control ≡ o = same_some (operation_in (operation_field card)) operation.Control o (operation_had operation.Control card own).found found in
      let control_found = (operation_had operation.Control card own).found in
      let said : line_on has card ≡ Err fault.Operand =
      further_line r ∙ ap further (at ∙ ap (λ x. statement_of x label field) (sym same)) ∙ further_control_line label field in
      subst Goal (sym said) (further_control t b control_found ((decides_any is_control (HasOperation operation.Control) before control_decided).0 p.0))

  by_operation : is_comment card ≡ false → (is_broken label || is_broken (operation_field card)) ≡ false → (found : Option Operation) → operation_in (operation_field card) ≡ found → Goal (line_on has card)
  unfolding statement_on operation_of
  by_operation t b None n =
      let said : statement_on card ≡ Err fault.UnknownOperation = rw (t, b, n) refl in
      let none : operation_of card ≡ None = rw t n in
      subst Goal (sym (without_operation none ∙ said)) (no_operation t b n)
  by_operation t b (Some o) n =
      let said : statement_on card ≡ statement_of o label field = rw (t, b, n) refl in
      by_further t b o n (has && is_control card) refl said

  by_broken : is_comment card ≡ false → (test : Bool) → (is_broken label || is_broken (operation_field card)) ≡ test → Goal (line_on has card)
  unfolding statement_on line_on
  by_broken t true b =
      let said : statement_on card ≡ Err fault.BrokenField = rw (t, b) refl in
      let line : line_on has card ≡ Err fault.BrokenField = ap (λ s. if has && is_control card then further s else s) said ∙ still_broken (has && is_control card) in
      subst Goal (sym line) (fields_broken t b)
  by_broken t false b = by_operation t b (operation_in (operation_field card)) refl

  by_comment : (test : Bool) → is_comment card ≡ test → Goal (line_on has card)
  unfolding statement_on operation_of
  by_comment true t =
      let said : statement_on card ≡ Ok statement.Comment = rw t refl in
      let none : operation_of card ≡ None = rw t refl in
      subst Goal (sym (without_operation none ∙ said)) (commented t)
  by_comment false t = by_broken t (is_broken label || is_broken (operation_field card)) refl

  pub lowest_of_card : Goal (line_on (list_any is_control before) card)
  lowest_of_card = by_comment (is_comment card) refl
