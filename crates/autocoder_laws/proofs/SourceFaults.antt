-- for `lowest_faults_are_told`: the faults of a source, card by card
use Rattle.std.proofs.Common.{◌≡◌, ℕ, zero, suc, ◌+◌, ◌-◌, ◌<◌, ◌≤◌, Bool, true, false, not, ◌||◌, List, [], ◌∷◌, length, take, drop, get_or, Option, Some, None, is_some, refl, sym, ◌∙◌, ap, subst, arith, inl, inr, true≢false, length-drop}
use Rattle.std.specs.Prelude.{cond, nat_lt}
use Rattle.std.specs.List.{list_any, position_or_len}
use Rattle.std.proofs.lemmas.Bool.Decides.{Decides-or, Decides-ltb, same_from_decides}
use Rattle.std.proofs.lemmas.List.{take_all}
use Rattle.std.proofs.lemmas.List.Folds.{list_any_more}
use Rattle.std.proofs.Math.Decide.{dec_lt}
use Rattle.cards.specs.declared.decks.Card.{Card}
use Rattle.autocoder_statements.specs.declared.faults.StatementFault.TheVariants as statement
use Rattle.autocoder_statements.specs.declared.operations.Operation.TheVariants as operation
use Rattle.autocoder_layout.specs.CardFaults.{fault_then, faults_from, last_fault, faults_to_end, faults_of}
use Rattle.autocoder_layout.specs.Cells.{cells_of}
use Rattle.autocoder_layout.specs.Faults.{fault_number}
use Rattle.autocoder_layout.specs.Judging.{fault_of}
use Rattle.autocoder_layout.specs.Layout.{Laid, IsLayout, Satisfies, slots_of, fills_of, nothing, laid_by}
use Rattle.autocoder_layout.specs.Literals.{Characters, literals_of}
use Rattle.autocoder_layout.specs.Slots.{slot_of}
use Rattle.autocoder_layout.specs.Source.{Line, silent, is_control, is_end, has_end, line_on, lines_of}
use Rattle.autocoder_layout.specs.declared.card_faults.CardFault.{CardFault}
use Rattle.autocoder_layout.specs.declared.faults.SourceFault.{SourceFault}
use Rattle.autocoder_layout.specs.declared.faults.SourceFault.TheVariants as source
use Rattle.autocoder_layout.specs.declared.slots.Slot.{Slot}
use Rattle.autocoder_layout.proofs.SourceLemmas.{length-lines_of}
use Rattle.autocoder_laws.specs.Needs.{HasOperation}
use Rattle.autocoder_laws.specs.Faults.{InSource, no_card, in_source, HasFault, IsLowest, listed, AreLowest}
use Rattle.autocoder_laws.proofs.FaultTests.{end_decided}
use Rattle.autocoder_laws.proofs.CardFaults.{lowest_of_card}
use Rattle.autocoder_laws.proofs.FaultOrder.{IsLowestBut49, same_fault, decides_any}

-- ---- what is told of each card

-- what is told of the last card: its own fault, or that there is no END
abbrev last_or : Bool → Option SourceFault → Option SourceFault
last_or true own = own
last_or false None = Some source.NoEnd
last_or false (Some own) = Some own

told_of : Bool → List Laid → List (Option SourceFault)
told_of ended [] = []
told_of ended (laid ∷ []) = last_or ended laid.fault ∷ []
told_of ended (laid ∷ next ∷ layout) = laid.fault ∷ told_of ended (next ∷ layout)

length-told_of : (ended : Bool) (layout : List Laid) → length (told_of ended layout) ≡ length layout
unfolding told_of
length-told_of ended [] = refl
length-told_of ended (laid ∷ []) = refl
length-told_of ended (laid ∷ next ∷ layout) = ap suc (length-told_of ended (next ∷ layout))

told_before : (ended : Bool) (layout : List Laid) (k : ℕ) → k + 1 < length layout → get_or (told_of ended layout) k None ≡ (get_or layout k nothing).fault
unfolding told_of
told_before ended [] k h = absurd (omega arith)
told_before ended (laid ∷ []) k h = absurd (omega arith)
told_before ended (laid ∷ next ∷ layout) zero h = refl
told_before ended (laid ∷ next ∷ layout) (suc k) h = told_before ended (next ∷ layout) k (omega arith)

told_last : (ended : Bool) (layout : List Laid) (k : ℕ) → k + 1 ≡ length layout → get_or (told_of ended layout) k None ≡ last_or ended (get_or layout k nothing).fault
unfolding told_of
told_last ended [] k h = absurd (omega arith)
told_last ended (laid ∷ []) zero h = refl
told_last ended (laid ∷ []) (suc k) h = absurd (omega arith)
told_last ended (laid ∷ next ∷ layout) zero h = absurd (omega arith)
told_last ended (laid ∷ next ∷ layout) (suc k) h = told_last ended (next ∷ layout) k (omega arith)

-- ---- the list of faults

one_last : (ended : Bool) (card : ℕ) (own : Option SourceFault) → faults_to_end ended (fault_then card own []) own card ≡ fault_then card (last_or ended own) []
one_last true card own = refl
one_last false card None = refl
one_last false card (Some own) = refl

one_before : (ended : Bool) (card last : ℕ) (own end : Option SourceFault) (rest : List CardFault) →
    faults_to_end ended (fault_then card own rest) end last ≡ fault_then card own (faults_to_end ended rest end last)
one_before true card last own end rest = refl
one_before false card last None end rest = refl
one_before false card last (Some own) end rest = refl

last_of_rest : (laid next : Laid) (layout : List Laid) → last_fault (laid ∷ next ∷ layout) ≡ last_fault (next ∷ layout)
unfolding last_fault
last_of_rest laid next layout =
    let e : length (laid ∷ next ∷ layout) - 1 ≡ suc (length (next ∷ layout) - 1) = omega arith in
    ap (λ k. (get_or (laid ∷ next ∷ layout) k nothing).fault) e

only_one : (laid : Laid) → last_fault (laid ∷ []) ≡ laid.fault
unfolding last_fault
only_one laid = refl

listed_is : (ended : Bool) (card last : ℕ) (layout : List Laid) → 0 < length layout → last + 1 ≡ card + length layout →
    faults_to_end ended (faults_from card layout) (last_fault layout) last ≡ listed card (told_of ended layout)
unfolding faults_from listed told_of
listed_is ended card last [] some e = absurd (omega arith)
listed_is ended card last (laid ∷ []) some e =
    let same : last ≡ card = omega arith in
    ap (faults_to_end ended (fault_then card laid.fault []) (last_fault (laid ∷ []))) same
    ∙ ap (λ own. faults_to_end ended (fault_then card laid.fault []) own card) (only_one laid)
    ∙ one_last ended card laid.fault
listed_is ended card last (laid ∷ next ∷ layout) some e =
    ap (λ own. faults_to_end ended (fault_then card laid.fault (faults_from (card + 1) (next ∷ layout))) own last) (last_of_rest laid next layout)
    ∙ one_before ended card last laid.fault (last_fault (next ∷ layout)) (faults_from (card + 1) (next ∷ layout))
    ∙ ap (fault_then card laid.fault) (listed_is ended (card + 1) last (next ∷ layout) (omega arith) (omega arith))

faults_listed : (ended : Bool) (layout : List Laid) → 0 < length layout → faults_of ended layout ≡ listed 1 (told_of ended layout)
unfolding faults_of
faults_listed ended layout some = listed_is ended 1 (length layout) layout some (omega arith)

-- ---- the line and the entry of a card

or_assoc : (a b c : Bool) → ((a || b) || c) ≡ (a || (b || c))
or_assoc true b c = refl
or_assoc false b c = refl

or_none : (a : Bool) → (a || false) ≡ a
or_none true = refl
or_none false = refl

line_at : (has : Bool) (cards : List Card) (k : ℕ) → k < length cards → get_or (lines_of has cards) k silent ≡ line_on (has || list_any is_control (take k cards)) (get_or cards k no_card)
unfolding lines_of
line_at has [] k h = absurd (omega arith)
line_at has (card ∷ cards) zero h = ap (λ b. line_on b card) (sym (or_none has))
line_at has (card ∷ cards) (suc k) h =
    line_at (has || is_control card) cards k (omega arith)
    ∙ ap (λ b. line_on b (get_or cards k no_card)) (or_assoc has (is_control card) (list_any is_control (take k cards)))

same_entry : (one other : Laid) → one.slot ≡ other.slot → one.fills ≡ other.fills → one.fault ≡ other.fault → one ≡ other
same_entry one other e f g =
    ap (λ s. record { slot = s; fills = one.fills; fault = one.fault }) e
    ∙ ap (λ s. record { slot = other.slot; fills = s; fault = one.fault }) f
    ∙ ap (λ s. record { slot = other.slot; fills = other.fills; fault = s }) g

laid_is : (limit : ℕ) (literals : List Characters) (layout earlier later : List Laid) (line : Line) (laid : Laid) → Satisfies limit literals layout earlier later line laid →
    laid ≡ laid_by limit (slots_of layout) literals (fills_of earlier) (slots_of later) (slot_of limit (slots_of earlier) line) line
laid_is limit literals layout earlier later line laid h =
    let names : List Slot = slots_of layout in
    let slot : Slot = slot_of limit (slots_of earlier) line in
    let fills : laid.fills ≡ cells_of limit names literals (slots_of later) slot line = h.fills ∙ ap (λ s. cells_of limit names literals (slots_of later) s line) h.slot in
    same_entry laid (laid_by limit names literals (fills_of earlier) (slots_of later) slot line) h.slot fills
    (h.fault
    ∙ ap (λ s. fault_of limit names (fills_of earlier) s laid.fills line) h.slot
    ∙ ap (λ c. fault_of limit names (fills_of earlier) slot c line) fills)

-- ---- the highest fault

most : (fault : SourceFault) → fault_number fault ≤ 49
most source.NoMemory = omega arith
most (source.Statement statement.BrokenField) = omega arith
most (source.Statement statement.UnknownOperation) = omega arith
most (source.Statement statement.Operand) = omega arith
most (source.Statement statement.Label) = omega arith
most source.TakenLabel = omega arith
most source.UnknownName = omega arith
most source.Outside = omega arith
most source.Reserved = omega arith
most source.Filled = omega arith
most source.NoEnd = omega arith

own_lowest : (Has : SourceFault → Type 0) → (Has source.NoEnd → ⊥) → (own : Option SourceFault) → IsLowestBut49 Has own → IsLowest Has own
own_lowest Has never (Some own) h = h
own_lowest Has never None above = λ fault h.
    let high : 49 ≤ fault_number fault = above fault h in
    let low : fault_number fault ≤ 49 = most fault in
    let same : fault_number fault ≡ 49 = omega arith in
    never (subst Has (same_fault fault source.NoEnd same) h)

last_lowest : (Has : SourceFault → Type 0) (ended : Bool) → (ended ≡ true → Has source.NoEnd → ⊥) → (ended ≡ false → Has source.NoEnd) →
    (own : Option SourceFault) → IsLowestBut49 Has own → IsLowest Has (last_or ended own)
last_lowest Has true never always own h = own_lowest Has (never refl) own h
last_lowest Has false never always None h = (always refl, h)
last_lowest Has false never always (Some own) h = h

-- ---- whether there is an END

some_cond : {A : Type 0} (test : Bool) (a : A) → is_some (cond test (Some a) None) ≡ test
some_cond true a = refl
some_cond false a = refl

position_any : {A : Type 0} (p : A → Bool) (xs : List A) → nat_lt (position_or_len p xs) (length xs) ≡ list_any p xs
position_any p [] = refl
position_any p (x ∷ xs) = by_test (p x) (position_any p xs)
  where
    by_test : (test : Bool) → nat_lt (position_or_len p xs) (length xs) ≡ list_any p xs →
        nat_lt (cond (not test) (1 + position_or_len p xs) 0) (suc (length xs)) ≡ (test || list_any p xs)
    by_test true more = (Decides-ltb 0 (suc (length xs))).1 (omega arith)
    by_test false more =
        let n = position_or_len p xs in
        same_from_decides (nat_lt (1 + n) (suc (length xs))) (nat_lt n (length xs)) (Decides-ltb (1 + n) (suc (length xs)))
        (λ t. let low : n < length xs = (Decides-ltb n (length xs)).0 t in omega arith, λ h. (Decides-ltb n (length xs)).1 (omega arith))
        ∙ more

has_end_any : (cards : List Card) → has_end cards ≡ list_any is_end cards
has_end_any cards = some_cond (nat_lt (position_or_len is_end cards) (length cards)) (position_or_len is_end cards) ∙ position_any is_end cards

-- ---- each card

module _ (limit : ℕ) (cards : List Card) (layout : List Laid) (is : IsLayout limit (lines_of false cards) layout) where
  one_each : length layout ≡ length cards
  one_each = is.one_each ∙ length-lines_of false cards

  module _ (k : ℕ) (low : k < length cards) where
    abbrev card : Card
    card = get_or cards k no_card

    abbrev laid : Laid
    laid = get_or layout k nothing

    abbrev Has : SourceFault → Type 0
    Has = HasFault (in_source limit cards layout k)

    abbrev with_entry : Laid → InSource
    with_entry entry = record { size = limit; before = take k cards; card = card; after = drop (k + 1) cards; earlier = take k layout; laid = entry; layout = layout }

    own : IsLowestBut49 Has laid.fault
    own =
        let literals : List Characters = literals_of (lines_of false cards) (slots_of layout) in
        let line : Line = line_on (list_any is_control (take k cards)) card in
        let below : k < length (lines_of false cards) = omega (arith, length-lines_of false cards) in
        let line_is : get_or (lines_of false cards) k silent ≡ line = line_at false cards k low in
        let rules : Satisfies limit literals layout (take k layout) (drop (k + 1) layout) line laid =
        subst (λ l. Satisfies limit literals layout (take k layout) (drop (k + 1) layout) l laid) line_is (is.satisfied k below) in
        let entry = laid_is limit literals layout (take k layout) (drop (k + 1) layout) line laid rules in
        subst (λ (l : Laid). IsLowestBut49 (HasFault (with_entry l)) l.fault) (sym entry)
        (lowest_of_card limit (take k cards) card (drop (k + 1) cards) (take k layout) layout literals (slots_of (drop (k + 1) layout)))

    not_last : k + 1 < length cards → Has source.NoEnd → ⊥
    not_last more (none, here, before) = let e : length (drop (k + 1) cards) ≡ 0 = ap length none in absurd (omega (arith, length-drop (k + 1) cards))

    ends : k + 1 ≡ length cards → has_end cards ≡ (list_any is_end (take k cards) || is_end card)
    ends last =
        has_end_any cards
        ∙ ap (list_any is_end) (sym (take_all (k + 1) cards (omega arith)))
        ∙ list_any_more is_end cards k no_card low

    ended : k + 1 ≡ length cards → has_end cards ≡ true → Has source.NoEnd → ⊥
    ended last t (none, here, before) =
        elim ((Decides-or (list_any is_end (take k cards)) (is_end card) (decides_any is_end (HasOperation operation.End) (take k cards) end_decided) (end_decided card)).0 (sym (ends last) ∙ t)) [
          | inl any ↦ before any
          | inr own ↦ here own
        ]

    not_ended : k + 1 ≡ length cards → has_end cards ≡ false → Has source.NoEnd
    not_ended last t =
        let d = Decides-or (list_any is_end (take k cards)) (is_end card) (decides_any is_end (HasOperation operation.End) (take k cards) end_decided) (end_decided card) in
        let neither : (list_any is_end (take k cards) || is_end card) ≡ false = sym (ends last) ∙ t in
        (nothing_after last, λ own. true≢false (sym (d.1 (inr own)) ∙ neither), λ any. true≢false (sym (d.1 (inl any)) ∙ neither))
      where
        empty : (xs : List Card) → length xs ≡ 0 → xs ≡ []
        empty [] e = refl
        empty (x ∷ xs) e = absurd (omega arith)

        nothing_after : k + 1 ≡ length cards → drop (k + 1) cards ≡ []
        nothing_after last = empty (drop (k + 1) cards) (omega (arith, length-drop (k + 1) cards))

    lowest : IsLowest Has (get_or (told_of (has_end cards) layout) k None)
    lowest = elim (dec_lt (k + 1) (length cards)) [
      | yes more ↦
          subst (IsLowest Has) (sym (told_before (has_end cards) layout k (omega (arith, one_each)))) (own_lowest Has (not_last more) laid.fault own)
      | no rest ↦
          let last : k + 1 ≡ length cards = omega arith in
          subst (IsLowest Has) (sym (told_last (has_end cards) layout k (omega (arith, one_each))))
          (last_lowest Has (has_end cards) (ended last) (not_ended last) laid.fault own)
    ]

  pub are_lowest : 0 < length cards → AreLowest limit cards layout (faults_of (has_end cards) layout)
  are_lowest some = record {
    told = told_of (has_end cards) layout;
    one_each = length-told_of (has_end cards) layout ∙ one_each;
    in_order = faults_listed (has_end cards) layout (omega (arith, one_each));
    lowest = lowest;
  }
