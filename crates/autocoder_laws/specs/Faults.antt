-- the faults of a card in its source, each said without the others, and the lowest of them
use Rattle.std.specs.Prelude.{ℕ, ◌≡◌, ◌≢◌, ◌+◌, ◌<◌, ◌≤◌, ◌⊎◌, List, [], ◌∷◌, length, take, drop, slice_index, slice_index_or, Option, Some, None}
use Rattle.std.specs.List.{Any}
use Rattle.cards.specs.declared.decks.Card.{Card}
use Rattle.autocoder_statements.specs.Statements.{columns}
use Rattle.autocoder_statements.specs.declared.expressions.Expression.{Expression}
use Rattle.autocoder_statements.specs.declared.faults.StatementFault.TheVariants as statement
use Rattle.autocoder_statements.specs.declared.names.Name.{Name}
use Rattle.autocoder_statements.specs.declared.operations.Operation.{Operation}
use Rattle.autocoder_statements.specs.declared.operations.Operation.TheVariants as operation
use Rattle.autocoder_layout.specs.Names.{address_of, value_in}
use Rattle.autocoder_layout.specs.Faults.{fault_number}
use Rattle.autocoder_layout.specs.CardFaults.{fault_then}
use Rattle.autocoder_layout.specs.Layout.{Laid, slots_of, fills_of, nothing}
use Rattle.autocoder_layout.specs.declared.card_faults.CardFault.{CardFault}
use Rattle.autocoder_layout.specs.declared.faults.SourceFault.{SourceFault}
use Rattle.autocoder_layout.specs.declared.faults.SourceFault.TheVariants as source
use Rattle.autocoder_layout.specs.declared.names.Value.{Value}
use Rattle.autocoder_layout.specs.declared.names.Value.TheVariants.{Unknown, Outside}
use Rattle.autocoder_layout.specs.declared.slots.Role.TheVariants.{Instruction}
use Rattle.autocoder_layout.specs.declared.slots.Slot.{Slot}
use Rattle.autocoder_laws.specs.Texts.{blank, IsEnd}
use Rattle.autocoder_laws.specs.Names.{IsName}
use Rattle.autocoder_laws.specs.Needs.{IsNoComment, HasOperation, label_on, SuitsLabel, SuitsOperands, HasAddress}

-- ---- a card in its source

-- a card of a source: the size of storage, the cards before it, itself and those after it, and what
-- the layout has for the cards before it, for itself and for all cards
pub record InSource : Type 0 where
  pub size : ℕ
  pub before : List Card
  pub card : Card
  pub after : List Card
  pub earlier : List Laid
  pub laid : Laid
  pub layout : List Laid

-- a card without columns, for no card
abbrev pub no_card : Card
no_card = record { 0 = [] }

-- the card with this number, counted from 0, of a source with this layout
abbrev pub in_source : ℕ → List Card → List Laid → ℕ → InSource
in_source size cards layout k = record {
  size = size;
  before = take k cards;
  card = slice_index_or cards k no_card;
  after = drop (k + 1) cards;
  earlier = take k layout;
  laid = slice_index_or layout k nothing;
  layout = layout;
}

-- the operand field of the card, columns 21 to 72
abbrev pub field_on : InSource → List ℕ
field_on c = columns 21 72 c.card

-- ---- 40 to 43: the fields of the card

-- a field with a blank and after it, here or there, a character that is not blank
pub record HasGap (field : List ℕ) : Type 0 where
  pub gap : ℕ
  pub late : ℕ
  pub order : gap < late
  pub within : late < length field
  pub is_blank : slice_index field gap ≡ blank
  pub is_filled : slice_index field late ≢ blank

-- 40: the columns of the label or of the operation have a gap
abbrev pub HasBrokenField : InSource → Type 0
HasBrokenField c =
    IsNoComment c.card × (HasGap (columns 6 15 c.card) ⊎ HasGap (columns 16 20 c.card))

-- 41: the card has none of the operations
abbrev pub HasNoOperation : InSource → Type 0
HasNoOperation c =
    IsNoComment c.card × ((operation : Operation) → HasOperation operation c.card → ⊥)

-- 42, in general: the operand field is not as the operation wants it
abbrev pub HasWrongOperands : InSource → Type 0
HasWrongOperands c = (operation : Operation) × HasOperation operation c.card
    × (SuitsOperands operation (field_on c) → ⊥)

-- 42 of a CTL: there was a CTL before it
abbrev pub IsFurtherControl : InSource → Type 0
IsFurtherControl c =
    HasOperation operation.Control c.card × Any (HasOperation operation.Control) c.before

-- 42 of an END: it has no address, and there was no instruction before it
abbrev pub HasNoStart : InSource → Type 0
HasNoStart c = HasOperation operation.End c.card × IsEnd (field_on c)
    × (Any (λ laid. laid.slot.role ≡ Instruction) c.earlier → ⊥)

-- 43: the label is not as the operation wants it
abbrev pub HasWrongLabel : InSource → Type 0
HasWrongLabel c = (operation : Operation) × HasOperation operation c.card
    × (SuitsLabel operation (label_on c.card) → ⊥)

-- ---- 44 to 46: names and addresses

-- 44: the label is a name that an earlier card defines
abbrev pub HasTakenLabel : InSource → Type 0
HasTakenLabel c = (name : Name) × IsName name (label_on c.card)
    × (address_of name (slots_of c.earlier) ≢ None)

-- the slots whose names count in the addresses of a card: for ORG and EQU those of the cards before
-- it, else those of all cards
abbrev pub names_for : Operation → InSource → List Slot
names_for operation.Origin c = slots_of c.earlier
names_for operation.Equate c = slots_of c.earlier
names_for other c = slots_of c.layout

-- an address of the card has this value
pub record HasValue (value : Value) (c : InSource) : Type 0 where
  pub operation : Operation
  pub has : HasOperation operation c.card
  pub expression : Expression
  pub said : HasAddress operation expression (field_on c)
  pub is : value_in c.size (names_for operation c) expression ≡ value

-- 46 of a DS: it passes a position that is not in storage
abbrev pub PassesOutside : InSource → Type 0
PassesOutside c = HasOperation operation.Area c.card × (c.laid.slot.before < c.laid.slot.after)
    × (c.size < c.laid.slot.after)

-- 46 of positions: the card fills one that is not in storage
abbrev pub FillsOutside : InSource → Type 0
FillsOutside c = Any (λ cell. c.size ≤ cell.position) c.laid.fills

-- ---- 47 to 49: positions, and the end

-- 47: the card fills a position that cards are read into
abbrev pub FillsReserved : InSource → Type 0
FillsReserved c = Any (λ cell. cell.position < 81) c.laid.fills

-- 48: the card fills a position that an earlier card fills
abbrev pub FillsFilled : InSource → Type 0
FillsFilled c = Any
    (λ cell. Any (λ other. other.position ≡ cell.position) (fills_of c.earlier)) c.laid.fills

-- 49: the card is the last, and neither it nor one before it is an END
abbrev pub HasNoEnd : InSource → Type 0
HasNoEnd c = (c.after ≡ []) × (HasOperation operation.End c.card → ⊥)
    × (Any (HasOperation operation.End) c.before → ⊥)

-- ---- all of them

-- the card has this fault, whatever other faults it has
abbrev pub HasFault : InSource → SourceFault → Type 0
HasFault c source.NoMemory = ⊥
HasFault c (source.Statement statement.BrokenField) = HasBrokenField c
HasFault c (source.Statement statement.UnknownOperation) = HasNoOperation c
HasFault c (source.Statement statement.Operand) =
    HasWrongOperands c ⊎ (IsFurtherControl c ⊎ HasNoStart c)
HasFault c (source.Statement statement.Label) = HasWrongLabel c
HasFault c source.TakenLabel = HasTakenLabel c
HasFault c source.UnknownName = HasValue Unknown c
HasFault c source.Outside = HasValue Outside c ⊎ (PassesOutside c ⊎ FillsOutside c)
HasFault c source.Reserved = FillsReserved c
HasFault c source.Filled = FillsFilled c
HasFault c source.NoEnd = HasNoEnd c

-- what is told is the lowest of some faults by its number, or nothing if there is none
abbrev pub IsLowest : (SourceFault → Type 0) → Option SourceFault → Type 0
IsLowest Has None = (fault : SourceFault) → Has fault → ⊥
IsLowest Has (Some told) =
    Has told × ((fault : SourceFault) → Has fault → fault_number told ≤ fault_number fault)

-- what is told of the cards from this number on, as one list of faults
unfoldable pub listed : ℕ → List (Option SourceFault) → List CardFault
listed card [] = []
listed card (told ∷ more) = fault_then card told (listed (card + 1) more)

-- these are the faults of a source with this layout: of each card that has a fault the lowest, in
-- the order of the cards
pub record AreLowest (size : ℕ) (cards : List Card) (layout : List Laid) (faults : List CardFault)
    : Type 0 where
  pub told : List (Option SourceFault)
  pub one_each : length told ≡ length cards
  pub in_order : faults ≡ listed 1 told
  pub lowest : (k : ℕ) → k < length cards →
      IsLowest (HasFault (in_source size cards layout k)) (slice_index_or told k None)
