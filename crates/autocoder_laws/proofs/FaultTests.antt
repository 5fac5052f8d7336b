-- for `lowest_faults_are_told`: how a card is read, and the tests of its faults
use Rattle.std.proofs.Common.{◌≡◌, ℕ, ◌<◌, ◌≤◌, ◌==◌, Bool, true, false, ◌||◌, ◌&&◌, List, [], ◌∷◌, Option, Some, None, Result, Ok, Err, if◌then◌else◌, is_some, refl, sym, ◌∙◌, ap, subst, inl, inr, true≢false}
use Rattle.std.specs.Prelude.{cond, find, nat_lt, nat_le, nat_eq}
use Rattle.std.proofs.lemmas.Bool.{leb-true, le-leb}
use Rattle.std.proofs.lemmas.Bool.Decides.{Decides-eqb, Decides-ltb, Decides-at}
use Rattle.std.specs.Bool.{Decides}
use Rattle.std.specs.List.{Any, list_any}
use Rattle.addresses.specs.declared.tagged.IndexLocation.{IndexLocation}
use Rattle.cards.specs.declared.decks.Card.{Card}
use Rattle.autocoder_statements.specs.Names.{name_of}
use Rattle.autocoder_statements.specs.Statements.{◌>>=◌, word_run, word, operation_of, or_fault, must_label, may_label, may_not_label, whole, size, start, statement_of}
use Rattle.autocoder_statements.specs.declared.expressions.Expression.{Expression}
use Rattle.autocoder_statements.specs.declared.faults.StatementFault.{StatementFault}
use Rattle.autocoder_statements.specs.declared.faults.StatementFault.TheVariants as fault
use Rattle.autocoder_statements.specs.declared.names.Name.{Name}
use Rattle.autocoder_statements.specs.declared.operands.Operand.{Operand}
use Rattle.autocoder_statements.specs.declared.operands.Operand.TheVariants.{Address, Literal}
use Rattle.autocoder_statements.specs.declared.operations.Operation.{Operation}
use Rattle.autocoder_statements.specs.declared.operations.Operation.TheVariants as operation
use Rattle.autocoder_statements.specs.declared.reading.Statement.{Statement}
use Rattle.autocoder_statements.specs.declared.reading.Statement.TheVariants as statement
use Rattle.autocoder_layout.specs.Judging.{expression_in, is_unknown, is_outside, has_unknown_name, has_value_outside, fills_outside, fills_reserved, is_filled, is_overlapping}
use Rattle.autocoder_layout.specs.Layout.{Laid, slots_of}
use Rattle.autocoder_layout.specs.Names.{value_in}
use Rattle.autocoder_layout.specs.Slots as slots
use Rattle.autocoder_layout.specs.Slots.{moved_to, equal_to}
use Rattle.autocoder_layout.specs.Source.{Line, further, is_the_control, is_control, is_the_end, is_end}
use Rattle.autocoder_layout.specs.declared.cells.Cell.{Cell}
use Rattle.autocoder_layout.specs.declared.faults.SourceFault.{SourceFault}
use Rattle.autocoder_layout.specs.declared.faults.SourceFault.TheVariants as source
use Rattle.autocoder_layout.specs.declared.names.Value.{Value}
use Rattle.autocoder_layout.specs.declared.names.Value.TheVariants.{Unknown, Outside, At}
use Rattle.autocoder_layout.specs.declared.slots.Role.{Role}
use Rattle.autocoder_layout.specs.declared.slots.Role.TheVariants as role
use Rattle.autocoder_layout.specs.declared.slots.Slot.{Slot}
use Rattle.autocoder_laws.specs.Texts.{Joined, IsEnd}
use Rattle.autocoder_laws.specs.Addresses.{IsExpression}
use Rattle.autocoder_laws.specs.Needs.{HasOperation, IsGood, IsMissingOrGood}
use Rattle.autocoder_laws.proofs.CardTexts.{start_read}
use Rattle.autocoder_laws.proofs.FaultFields.{operation_given_by, operation_found, no_word, no_word_back, name_given, Labelled, unlabelled, must_labelled}
use Rattle.autocoder_laws.proofs.FaultOrder.{decides_false, decides_any}

-- ---- tests of a card's positions

decides_leb : (a b : ℕ) → Decides (nat_le a b) (a ≤ b)
decides_leb a b = (leb-true a b, le-leb a b)

pub outside_decided : (n : ℕ) (cells : List Cell) → Decides (fills_outside n cells) (Any (λ c. n ≤ c.position) cells)
outside_decided n cells = decides_any (λ c. nat_le n c.position) (λ c. n ≤ c.position) cells (λ c. decides_leb n c.position)

pub reserved_decided : (cells : List Cell) → Decides (fills_reserved cells) (Any (λ c. c.position < 81) cells)
reserved_decided cells = decides_any (λ c. nat_lt c.position 81) (λ c. c.position < 81) cells (λ c. Decides-ltb c.position 81)

pub filled_decided : (filled cells : List Cell) → Decides (is_overlapping filled cells) (Any (λ c. Any (λ other. other.position ≡ c.position) filled) cells)
filled_decided filled cells =
    decides_any (λ c. is_filled filled c.position) (λ c. Any (λ other. other.position ≡ c.position) filled) cells
    (λ c. decides_any (λ other. nat_eq other.position c.position) (λ other. other.position ≡ c.position) filled (λ other. Decides-eqb other.position c.position))

-- ---- results

pub read_as : {A B : Type 0} {P : Type 0} (x : Option A) (rest : A → Result B StatementFault) (result : Result B StatementFault) → (or_fault fault.Operand x >>= rest) ≡ result →
    (x ≡ None → result ≡ Err fault.Operand → P) → ((a : A) → x ≡ Some a → rest a ≡ result → P) → P
read_as None rest result e none some = none refl (sym e)
read_as (Some a) rest result e none some = some a refl e

pub not_some : {A : Type 0} (x : Option A) (a : A) → x ≡ None → x ≡ Some a → ⊥
not_some x a e f = absurd (cc)

pub same_some : {A : Type 0} (x : Option A) (a b : A) → x ≡ Some a → x ≡ Some b → a ≡ b
same_some x a b e f = cc

pub is_none : {A : Type 0} (x : Option A) → is_some x ≡ false → x ≡ None
is_none None h = refl
is_none (Some a) h = absurd (cc)

pub or_false : (b : Bool) → (b || false) ≡ b
or_false true = refl
or_false false = refl

-- ---- labels

pub may_labelled : (label : Option Name) (field : List ℕ) → may_label field ≡ Ok label → Labelled label (word field)
unfolding may_label
may_labelled label field e = by_test (word_run field == 0) refl e
  where
    own : (name : Name) → must_label field ≡ Ok name → Some name ≡ label → Labelled label (word field)
    own name e same = subst (λ l. Labelled l (word field)) same (must_labelled name field e)

    by_name : (read : Result Name StatementFault) → must_label field ≡ read → (read >>= (λ name. Ok (Some name))) ≡ Ok label → Labelled label (word field)
    by_name (Ok name) e h = own name e (cc)
    by_name (Err reason) e h = absurd (cc)

    by_test : (test : Bool) → (word_run field == 0) ≡ test → (if test then Ok None else (must_label field >>= (λ name. Ok (Some name)))) ≡ Ok label → Labelled label (word field)
    by_test true t h = let same : None ≡ label = cc in subst (λ l. Labelled l (word field)) same (unlabelled (word field) (no_word field t))
    by_test false t h = by_name (must_label field) refl h

pub must_reason : (field : List ℕ) (reason : StatementFault) → must_label field ≡ Err reason → reason ≡ fault.Label
unfolding must_label
must_reason field reason e = by_name (name_of (word field)) e
  where
    by_name : (name : Option Name) → or_fault fault.Label name ≡ Err reason → reason ≡ fault.Label
    by_name None h = cc
    by_name (Some name) h = absurd (cc)

pub must_wrong : (field : List ℕ) (reason : StatementFault) → must_label field ≡ Err reason → IsGood (word field) → ⊥
must_wrong field reason e (name, h) = let read = name_given name field h in absurd (cc)

pub may_wrong : (field : List ℕ) (reason : StatementFault) → may_label field ≡ Err reason → (reason ≡ fault.Label) × (IsMissingOrGood (word field) → ⊥)
unfolding may_label
may_wrong field reason e = by_test (word_run field == 0) refl e
  where
    by_name : (read : Result Name StatementFault) → (word_run field == 0) ≡ false → must_label field ≡ read → (read >>= (λ name. Ok (Some name))) ≡ Err reason →
        (reason ≡ fault.Label) × (IsMissingOrGood (word field) → ⊥)
    by_name (Ok name) t e h = absurd (cc)
    by_name (Err other) t e h = (must_reason field reason (cc), neither_is)
      where
        neither_is : IsMissingOrGood (word field) → ⊥
        neither_is (inl missing) = true≢false (sym (no_word_back field missing) ∙ t)
        neither_is (inr good) = must_wrong field other e good

    by_test : (test : Bool) → (word_run field == 0) ≡ test → (if test then Ok None else (must_label field >>= (λ name. Ok (Some name)))) ≡ Err reason →
        (reason ≡ fault.Label) × (IsMissingOrGood (word field) → ⊥)
    by_test true t h = absurd (cc)
    by_test false t h = by_name (must_label field) t refl h

-- ---- values

pub unknown_decided : (value : Value) → Decides (is_unknown value) (value ≡ Unknown)
unknown_decided Unknown = (λ t. refl, λ e. refl)
unknown_decided Outside = (λ t. absurd (cc), λ e. absurd (cc))
unknown_decided (At position) = (λ t. absurd (cc), λ e. absurd (cc))

pub outside_is_decided : (value : Value) → Decides (is_outside value) (value ≡ Outside)
outside_is_decided Unknown = (λ t. absurd (cc), λ e. absurd (cc))
outside_is_decided Outside = (λ t. refl, λ e. refl)
outside_is_decided (At position) = (λ t. absurd (cc), λ e. absurd (cc))

-- an operand of an instruction is an address with this value
abbrev pub HasIn : ℕ → List Slot → Value → Option Operand → Type 0
HasIn n names value operand = (e : Expression) × (index : Option IndexLocation)
    × (operand ≡ Some (Address (record { expression = e; index = index }))) × (value_in n names e ≡ value)

pub operand_unknown : (n : ℕ) (names : List Slot) (operand : Option Operand) → Decides (has_unknown_name n names (expression_in operand)) (HasIn n names Unknown operand)
operand_unknown n names None = decides_false false refl (λ (e, index, same, is). absurd (cc))
operand_unknown n names (Some (Literal text)) = decides_false false refl (λ (e, index, same, is). absurd (cc))
operand_unknown n names (Some (Address address)) =
    let d = unknown_decided (value_in n names address.expression) in
    (λ t. (address.expression, address.index, refl, d.0 t), λ (e, index, same, is). d.1 (ap (value_in n names) (own e index same) ∙ is))
  where
    own : (e : Expression) (index : Option IndexLocation) → Some (Address address) ≡ Some (Address (record { expression = e; index = index })) → address.expression ≡ e
    own e index same = cc

pub operand_outside : (n : ℕ) (names : List Slot) (operand : Option Operand) → Decides (has_value_outside n names (expression_in operand)) (HasIn n names Outside operand)
operand_outside n names None = decides_false false refl (λ (e, index, same, is). absurd (cc))
operand_outside n names (Some (Literal text)) = decides_false false refl (λ (e, index, same, is). absurd (cc))
operand_outside n names (Some (Address address)) =
    let d = outside_is_decided (value_in n names address.expression) in
    (λ t. (address.expression, address.index, refl, d.0 t), λ (e, index, same, is). d.1 (ap (value_in n names) (own e index same) ∙ is))
  where
    own : (e : Expression) (index : Option IndexLocation) → Some (Address address) ≡ Some (Address (record { expression = e; index = index })) → address.expression ≡ e
    own e index same = cc

-- ---- results, as they come

pub result_as : {A B : Type 0} {P : Type 0} (x : Result A StatementFault) (rest : A → Result B StatementFault) (result : Result B StatementFault) → (x >>= rest) ≡ result →
    ((reason : StatementFault) → x ≡ Err reason → result ≡ Err reason → P) → ((a : A) → x ≡ Ok a → rest a ≡ result → P) → P
result_as (Ok a) rest result e bad good = good a refl e
result_as (Err reason) rest result e bad good = bad reason refl (sym e)

pub unlabelled_as : {P : Type 0} (field : List ℕ) (said : Statement) (result : Result Statement StatementFault) → may_not_label field said ≡ result →
    (word field ≡ [] → result ≡ Ok said → P) → ((word field ≡ [] → ⊥) → result ≡ Err fault.Label → P) → P
unfolding may_not_label
unlabelled_as {P} field said result e good bad = by_test (word_run field == 0) refl e
  where
    by_test : (test : Bool) → (word_run field == 0) ≡ test → (if test then Ok said else Err fault.Label) ≡ result → P
    by_test true t h = good (no_word field t) (sym h)
    by_test false t h = bad (λ none. true≢false (sym (no_word_back field none) ∙ t)) (sym h)

-- the fault of an ORG or an EQU whose address has this value
abbrev pub early_fault : Value → Option SourceFault
early_fault Unknown = Some source.UnknownName
early_fault Outside = Some source.Outside
early_fault (At position) = None

pub moved_fault : (earlier : List Slot) (value : Value) → (moved_to earlier value).fault ≡ early_fault value
moved_fault earlier Unknown = refl
moved_fault earlier Outside = refl
moved_fault earlier (At position) = refl

pub equal_fault : (earlier : List Slot) (name : Name) (value : Value) → (equal_to earlier name value).fault ≡ early_fault value
equal_fault earlier name Unknown = refl
equal_fault earlier name Outside = refl
equal_fault earlier name (At position) = refl

-- ---- what stands before a card

pub and_false : (a b : Bool) → b ≡ false → (a && b) ≡ false
and_false true b e = e
and_false false b e = refl

pub both_true : (a b : Bool) → a ≡ true → b ≡ true → (a && b) ≡ true
both_true a b e f = rw e f

the_control : (o : Option Operation) → is_the_control o ≡ true → o ≡ Some operation.Control
the_control None e = absurd (cc)
the_control (Some operation.Control) e = refl
the_control (Some o) e = absurd (cc)

pub control_decided : (card : Card) → Decides (is_control card) (HasOperation operation.Control card)
unfolding is_control
control_decided card =
    (λ t. operation_given_by operation.Control card (the_control (operation_of card) t), λ h. ap is_the_control (operation_found operation.Control card h))

the_end : (o : Option Operation) → is_the_end o ≡ true → o ≡ Some operation.End
the_end None e = absurd (cc)
the_end (Some operation.End) e = refl
the_end (Some o) e = absurd (cc)

pub end_decided : (card : Card) → Decides (is_end card) (HasOperation operation.End card)
unfolding is_end
end_decided card =
    (λ t. operation_given_by operation.End card (the_end (operation_of card) t), λ h. ap is_the_end (operation_found operation.End card h))

role_decided : (r : Role) → Decides (slots.is_instruction r) (r ≡ role.Instruction)
role_decided role.Nothing = (λ t. absurd (cc), λ e. absurd (cc))
role_decided role.Instruction = (λ t. refl, λ e. refl)
role_decided role.Constant = (λ t. absurd (cc), λ e. absurd (cc))
role_decided role.Passing = (λ t. absurd (cc), λ e. absurd (cc))

found_any : (earlier : List Laid) → is_some (find (λ slot. slots.is_instruction slot.role) (slots_of earlier)) ≡ list_any (λ laid. slots.is_instruction laid.slot.role) earlier
found_any [] = refl
found_any (laid ∷ earlier) = by_test (slots.is_instruction laid.slot.role) (found_any earlier)
  where
    by_test : (test : Bool) → is_some (find (λ slot. slots.is_instruction slot.role) (slots_of earlier)) ≡ list_any (λ laid. slots.is_instruction laid.slot.role) earlier →
        is_some (cond test (Some laid.slot) (find (λ slot. slots.is_instruction slot.role) (slots_of earlier))) ≡ (test || list_any (λ laid. slots.is_instruction laid.slot.role) earlier)
    by_test true more = refl
    by_test false more = more

pub start_decided : (earlier : List Laid) → Decides (is_some (find (λ slot. slots.is_instruction slot.role) (slots_of earlier))) (Any (λ laid. laid.slot.role ≡ role.Instruction) earlier)
start_decided earlier =
    Decides-at _ _ (found_any earlier) (decides_any (λ laid. slots.is_instruction laid.slot.role) (λ laid. laid.slot.role ≡ role.Instruction) earlier (λ laid. role_decided laid.slot.role))

-- ---- a further CTL

further_is : (read : Line) → (read ≡ Err fault.BrokenField → ⊥) → further read ≡ Err fault.Operand
further_is (Ok said) never = refl
further_is (Err fault.BrokenField) never = absurd (never refl)
further_is (Err fault.UnknownOperation) never = refl
further_is (Err fault.Operand) never = refl
further_is (Err fault.Label) never = refl

pub further_control_line : (label field : List ℕ) → further (statement_of operation.Control label field) ≡ Err fault.Operand
unfolding statement_of
further_control_line label field = further_is (statement_of operation.Control label field) never
  where
    never : statement_of operation.Control label field ≡ Err fault.BrokenField → ⊥
    never e =
        read_as (whole field (size field)) (λ s. may_not_label label (statement.Control s)) (Err fault.BrokenField) e (λ none is. absurd (cc))
        (λ s at more. unlabelled_as label (statement.Control s) (Err fault.BrokenField) more (λ none is. absurd (cc)) (λ wrong is. absurd (cc)))

pub still_broken : (test : Bool) → (if test then further (Err fault.BrokenField) else Err fault.BrokenField) ≡ Err fault.BrokenField
still_broken true = refl
still_broken false = refl

pub same_start : {field : List ℕ} (x y : Expression) → start field ≡ Some (Some x) → Joined (IsExpression y) IsEnd field → y ≡ x
same_start {field} x y at said = let read = start_read (Some y) field said in cc
