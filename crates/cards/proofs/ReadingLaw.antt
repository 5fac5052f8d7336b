-- the place of a fault is the only one, and no deck has a file with a fault
use Rattle.std.proofs.Common.{◌≡◌, ◌≢◌, ℕ, ◌+◌, ◌/◌, ◌%◌, ◌<◌, ◌≤◌, List, [], ◌∷◌, ◌++◌, refl, sym, ◌∙◌, ap, arith, length, append_assoc, append-nil, inl, inr, Result, Ok, Err, IfOk, IfErr}
use Rattle.std.specs.List.{flat_map, All}
use Rattle.std.proofs.lemmas.Bool.{cases_lt}
use Rattle.std.proofs.lemmas.List.{nil_from_length, length-append}
use Rattle.bcd.proofs.Tables.{glyphs_differ, punches_differ}
use Rattle.bcd.specs.Table.{punches_of}
use Rattle.cards.specs.declared.decks.Card.{Card}
use Rattle.cards.specs.declared.faults.CardError.{CardError}
use Rattle.cards.specs.declared.faults.CardFault.{CardFault}
use Rattle.cards.specs.declared.forms.Form.{Form}
use Rattle.cards.specs.declared.forms.Form.TheVariants.{Text, Punched}
use Rattle.cards.specs.Decks.{IsCard, IsDeck}
use Rattle.cards.specs.Faults.{IsWrongBehind, IsLineFault, IsCardFault, IsFirstFault, IsFault, IsRead}
use Rattle.cards.specs.Files.{column_of, line_of, file_of, line_feed}
use Rattle.cards.proofs.FormColumns.{hexadecimal_differ, twelve_rows}
use Rattle.cards.proofs.Pieces.{AreApart, goes_on, same_pieces, Next, next_of}

-- the number is a character's
abbrev IsCharacter : ℕ → Type 0
IsCharacter code = code < 64

pub columns_apart : (form : Form) → AreApart (column_of form) IsCharacter
unfolding column_of
columns_apart Text x y r s below_x below_y same = (glyphs_differ x y below_x below_y (cc), cc)
columns_apart Punched x y r s below_x below_y same =
    let high : punches_of x / 256 % 16 ≡ punches_of y / 256 % 16 = hexadecimal_differ _ _ (omega arith) (omega arith) (cc) in
    let middle : punches_of x / 16 % 16 ≡ punches_of y / 16 % 16 = hexadecimal_differ _ _ (omega arith) (omega arith) (cc) in
    let low : punches_of x % 16 ≡ punches_of y % 16 = hexadecimal_differ _ _ (omega arith) (omega arith) (cc) in
    (punches_differ x y below_x below_y (omega (arith, twelve_rows x below_x, twelve_rows y below_y)), cc)

same_card : (one two : Card) → one.0 ≡ two.0 → one ≡ two
same_card one two same = ap (λ (codes : List ℕ). let card : Card = record { 0 = codes } in card) same

pub lines_apart : (form : Form) → AreApart (line_of form) IsCard
lines_apart form one two r s is_one is_two same =
    let both = same_pieces (column_of form) IsCharacter (columns_apart form) one.0 two.0 (line_feed ∷ r) (line_feed ∷ s) is_one.1 is_two.1
    (is_one.0 ∙ sym is_two.0)
    (sym (append_assoc (flat_map (column_of form) one.0) (line_feed ∷ []) r) ∙ same
    ∙ append_assoc (flat_map (column_of form) two.0) (line_feed ∷ []) s) in
    let feeds = both.1 in
    (same_card one two both.0, cc)

-- the columns of a line fault, and of the card whose line stands there
columns_of_card : (form : Form) (columns rest bytes behind : List ℕ) (card : Card) → bytes ≡ flat_map (column_of form) columns ++ rest →
    bytes ≡ line_of form card ++ behind → flat_map (column_of form) columns ++ rest ≡ flat_map (column_of form) card.0 ++ line_feed ∷ behind
columns_of_card form columns rest bytes behind card before line =
    sym before ∙ line ∙ append_assoc (flat_map (column_of form) card.0) (line_feed ∷ []) behind

-- where a line is at fault no card's line begins
pub no_line : (form : Form) (bytes : List ℕ) (column : ℕ) (error : CardError) → IsLineFault form bytes column error →
    (card : Card) (behind : List ℕ) → IsCard card → bytes ≢ line_of form card ++ behind
no_line form bytes column error fault card behind is_card line =
    let same = columns_of_card form fault.columns fault.rest bytes behind card fault.before line in
    elim fault.wrong [
      | inl wrong ↦
          let more = goes_on (column_of form) IsCharacter (columns_apart form) fault.columns card.0 fault.rest (line_feed ∷ behind)
          fault.characters is_card.1 (omega (arith, wrong.0, is_card.0)) same in
          let next = next_of (column_of form) IsCharacter fault.columns card.0 fault.rest (line_feed ∷ behind) more (omega (arith, wrong.0, is_card.0)) in
          wrong.1 next.piece next.after next.is next.begins
      | inr wrong ↦
          wrong.1 behind (same_pieces (column_of form) IsCharacter (columns_apart form) fault.columns card.0 fault.rest (line_feed ∷ behind)
          fault.characters is_card.1 (wrong.0 ∙ sym is_card.0) same).1
    ]

-- a line isn't at fault before and at a column
line_not_before : (form : Form) (bytes : List ℕ) (one two : ℕ) (first second : CardError) (a : IsLineFault form bytes one first)
    (b : IsLineFault form bytes two second) → length a.columns < length b.columns → ⊥
line_not_before form bytes one two first second a b before =
    let more = goes_on (column_of form) IsCharacter (columns_apart form) a.columns b.columns a.rest b.rest
    a.characters b.characters (omega arith) (sym a.before ∙ b.before) in
    let next = next_of (column_of form) IsCharacter a.columns b.columns a.rest b.rest more before in
    elim a.wrong [
      | inl wrong ↦ wrong.1 next.piece next.after next.is next.begins
      | inr wrong ↦ elim b.wrong [ inl other ↦ omega (arith, wrong.0, other.0) | inr other ↦ omega (arith, wrong.0, other.0) ]
    ]

line_same_place : (form : Form) (bytes : List ℕ) (one two : ℕ) (first second : CardError) (a : IsLineFault form bytes one first)
    (b : IsLineFault form bytes two second) → length a.columns ≡ length b.columns
line_same_place form bytes one two first second a b = elim (cases_lt (length a.columns) (length b.columns)) [
  | inl before ↦ absurd (line_not_before form bytes one two first second a b before)
  | inr behind ↦ elim (cases_lt (length b.columns) (length a.columns)) [
    | inl before ↦ absurd (line_not_before form bytes two one second first b a before)
    | inr other ↦ omega arith
  ]
]

-- what is wrong behind so many columns is one thing
wrong_once : (form : Form) (columns : ℕ) (bytes : List ℕ) (first second : CardError) → IsWrongBehind form columns bytes first →
    IsWrongBehind form columns bytes second → first ≡ second
wrong_once form columns bytes first second (inl a) (inl b) = a.2 ∙ sym b.2
wrong_once form columns bytes first second (inl a) (inr b) = absurd (omega (arith, a.0, b.0))
wrong_once form columns bytes first second (inr a) (inl b) = absurd (omega (arith, a.0, b.0))
wrong_once form columns bytes first second (inr a) (inr b) = a.2 ∙ sym b.2

-- a line is at fault at one place, in one way
line_once : (form : Form) (bytes : List ℕ) (one two : ℕ) (first second : CardError) → IsLineFault form bytes one first →
    IsLineFault form bytes two second → (one ≡ two) × (first ≡ second)
line_once form bytes one two first second a b =
    let place = line_same_place form bytes one two first second a b in
    let same = same_pieces (column_of form) IsCharacter (columns_apart form) a.columns b.columns a.rest b.rest
    a.characters b.characters place (sym a.before ∙ b.before) in
    let other : IsWrongBehind form (length a.columns) a.rest second = rw (place, same.1) b.wrong in
    (a.place ∙ ap (λ n. n + 1) place ∙ sym b.place, wrong_once form (length a.columns) a.rest first second a.wrong other)

-- where a card is at fault no further card is
no_card : (form : Form) (cards more : ℕ) (bytes : List ℕ) (fault : CardFault) → IsCardFault form cards bytes fault → cards < more → more ≤ 2000 →
    Next (line_of form) IsCard bytes → ⊥
no_card form cards more bytes fault (inl wrong) fewer within next =
    no_line form bytes fault.column fault.error wrong.1 next.piece next.after next.is next.begins
no_card form cards more bytes fault (inr wrong) fewer within next = omega (arith, wrong.0)

within_deck : (form : Form) (cards : ℕ) (bytes : List ℕ) (fault : CardFault) → IsCardFault form cards bytes fault → cards ≤ 2000
within_deck form cards bytes fault (inl wrong) = omega (arith, wrong.0)
within_deck form cards bytes fault (inr wrong) = omega (arith, wrong.0)

not_before : (form : Form) (file : List ℕ) (one two : CardFault) (a : IsFirstFault form file one) (b : IsFirstFault form file two) →
    length a.cards < length b.cards → ⊥
not_before form file one two a b before =
    let more = goes_on (line_of form) IsCard (lines_apart form) a.cards b.cards a.rest b.rest
    a.whole b.whole (omega arith) (sym a.before ∙ b.before) in
    let next = next_of (line_of form) IsCard a.cards b.cards a.rest b.rest more before in
    no_card form (length a.cards) (length b.cards) a.rest one a.wrong before (within_deck form (length b.cards) b.rest two b.wrong) next

same_place : (form : Form) (file : List ℕ) (one two : CardFault) (a : IsFirstFault form file one) (b : IsFirstFault form file two) →
    length a.cards ≡ length b.cards
same_place form file one two a b = elim (cases_lt (length a.cards) (length b.cards)) [
  | inl before ↦ absurd (not_before form file one two a b before)
  | inr behind ↦ elim (cases_lt (length b.cards) (length a.cards)) [
    | inl before ↦ absurd (not_before form file two one b a before)
    | inr other ↦ omega arith
  ]
]

card_once : (form : Form) (cards : ℕ) (bytes : List ℕ) (one two : CardFault) → IsCardFault form cards bytes one → IsCardFault form cards bytes two →
    (one.column ≡ two.column) × (one.error ≡ two.error)
card_once form cards bytes one two (inl a) (inl b) = line_once form bytes one.column two.column one.error two.error a.1 b.1
card_once form cards bytes one two (inl a) (inr b) = absurd (omega (arith, a.0, b.0))
card_once form cards bytes one two (inr a) (inl b) = absurd (omega (arith, a.0, b.0))
card_once form cards bytes one two (inr a) (inr b) = (a.1 ∙ sym b.1, a.2 ∙ sym b.2)

abbrev fault_of : CardError → ℕ → ℕ → CardFault
fault_of error card column = record { error = error; card = card; column = column }

same_fault : (one two : CardFault) → one.error ≡ two.error → one.card ≡ two.card → one.column ≡ two.column → one ≡ two
same_fault one two error card column =
    ap (λ e. fault_of e one.card one.column) error ∙ ap (λ n. fault_of two.error n one.column) card ∙ ap (λ n. fault_of two.error two.card n) column

-- a file has one first fault
pub first_once : (form : Form) (file : List ℕ) (one two : CardFault) → IsFirstFault form file one → IsFirstFault form file two → one ≡ two
first_once form file one two a b =
    let place = same_place form file one two a b in
    let same = same_pieces (line_of form) IsCard (lines_apart form) a.cards b.cards a.rest b.rest a.whole b.whole place (sym a.before ∙ b.before) in
    let other : IsCardFault form (length a.cards) a.rest two = rw (place, same.1) b.wrong in
    let column_and_error = card_once form (length a.cards) a.rest one two a.wrong other in
    let card : one.card ≡ two.card = a.place ∙ ap (λ n. n + 1) place ∙ sym b.place in
    same_fault one two column_and_error.1 card column_and_error.0

-- a file with a fault is no deck's
pub no_deck : (form : Form) (file : List ℕ) (fault : CardFault) → IsFirstFault form file fault → (deck : List Card) → IsDeck deck →
    file ≢ file_of form deck
no_deck form file fault a deck is_deck same =
    let joined : flat_map (line_of form) a.cards ++ a.rest ≡ flat_map (line_of form) deck ++ [] = sym a.before ∙ same ∙ sym (append-nil (file_of form deck)) in
    elim (cases_lt (length a.cards) (length deck)) [
      | inl fewer ↦
          let more = goes_on (line_of form) IsCard (lines_apart form) a.cards deck a.rest [] a.whole is_deck.1 (omega arith) joined in
          let next = next_of (line_of form) IsCard a.cards deck a.rest [] more fewer in
          no_card form (length a.cards) (length deck) a.rest fault a.wrong fewer is_deck.0 next
      | inr all ↦
          let more = goes_on (line_of form) IsCard (lines_apart form) deck a.cards [] a.rest is_deck.1 a.whole all (sym joined) in
          a.more (nil_from_length a.rest (omega (arith, ap length more.bytes, length-append (flat_map (line_of form) more.more) a.rest)))
    ]

-- no line is empty
no_lines : (form : Form) (deck : List Card) → length (flat_map (line_of form) deck) ≡ 0 → deck ≡ []
no_lines form [] empty = refl
no_lines form (card ∷ deck) empty =
    absurd (omega (arith, empty, length-append (line_of form card) (flat_map (line_of form) deck), length-append (flat_map (column_of form) card.0) (line_feed ∷ [])))

deck_at_most : (form : Form) (one two : List Card) → All IsCard one → All IsCard two → length one ≤ length two → file_of form one ≡ file_of form two → one ≡ two
deck_at_most form one two is_one is_two le same =
    let more = goes_on (line_of form) IsCard (lines_apart form) one two [] [] is_one is_two le
    (append-nil (file_of form one) ∙ same ∙ sym (append-nil (file_of form two))) in
    let none = no_lines form more.more (omega (arith, ap length more.bytes, length-append (flat_map (line_of form) more.more) [])) in
    sym (more.list ∙ ap (λ cards. one ++ cards) none ∙ append-nil one)

-- a file is one deck's at most
pub deck_once : (form : Form) (one two : List Card) → All IsCard one → All IsCard two → file_of form one ≡ file_of form two → one ≡ two
deck_once form one two is_one is_two same = elim (cases_lt (length one) (length two)) [
  | inl fewer ↦ deck_at_most form one two is_one is_two (omega arith) same
  | inr more ↦ sym (deck_at_most form two one is_two is_one more (sym same))
]

-- what a reader says of its result lets it miss no deck
pub no_other_deck : (form : Form) (file : List ℕ) (result : Result (List Card) CardFault) →
    IfOk result (λ deck. IsDeck deck × (file ≡ file_of form deck)) → IfErr result (λ fault. IsFault form file fault) →
    (deck : List Card) → IsDeck deck → file ≡ file_of form deck → IsRead result deck
no_other_deck form file (Ok found) is_ok is_err deck is_deck same = deck_once form found deck is_ok.0.1 is_deck.1 (sym is_ok.1 ∙ same)
no_other_deck form file (Err fault) is_ok (inl memory) deck is_deck same = memory
no_other_deck form file (Err fault) is_ok (inr first) deck is_deck same = absurd (no_deck form file fault first deck is_deck same)
