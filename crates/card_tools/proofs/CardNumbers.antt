-- cards that are numbered, one after the other
use Rattle.std.proofs.Common.{◌≡◌, ◌≢◌, ℕ, zero, suc, ◌+◌, ◌<◌, ◌≤◌, inl, inr, true, false, Some, None, Result, Ok, Err, IfOk, List, [], ◌∷◌, ◌++◌, length, take, get_or, slice_index_or, refl, ap, sym, ◌∙◌, arith, leb, append_assoc, length-take}
use Rattle.std.specs.List.{All}
use Rattle.std.proofs.lemmas.List.{drop_at, take_at, get_or-map, length-map}
use Rattle.std.proofs.lemmas.List.Elements.{All-head, All-tail}
use Rattle.bcd.specs.Table.{glyph_of}
use Rattle.cards.specs.Decks.{IsCard, IsDeck}
use Rattle.cards.specs.declared.Card.{Card}
use Rattle.card_tools.specs.Checking.{number_of, told, told_from}
use Rattle.card_tools.specs.Lines.{glyphs_of}
use Rattle.card_tools.specs.Numbering.{IsInTheWay, IsNumbered, KeepsColumns, MayBeNumbered, SpellsNone, columns_for, fault_from, fits, is_free, number_columns, numbered, numbered_from}
use Rattle.card_tools.specs.declared.numbering.SequenceError.TheVariants.{Held, TooGreat}
use Rattle.card_tools.specs.declared.numbering.SequenceFault.{SequenceFault}
use Rattle.card_tools.proofs.NumberLaw.{base_of, number_read}

-- one card more that is numbered
pub numbered_on : (ident : List ℕ) (step number : ℕ) (card : Card) (rest all done : List Card) → all ≡ card ∷ rest
    → (done ++ numbered ident number card ∷ []) ++ numbered_from ident step (number + step) rest ≡ done ++ numbered_from ident step number all
unfolding numbered_from
numbered_on ident step number card rest all done first =
    rw first (append_assoc done (numbered ident number card ∷ []) (numbered_from ident step (number + step) rest))

-- nothing stands in the way at a card that may be numbered
pub fault_on : (ident : List ℕ) (step place number : ℕ) (card : Card) (rest all : List Card) → all ≡ card ∷ rest
    → MayBeNumbered ident number card
    → fault_from ident step (place + 1) (number + step) rest ≡ fault_from ident step place number all
unfolding fault_from
fault_on ident step place number card rest all first may = rw (first, may.0, may.1) refl

-- what is in the way is the first fault
pub fault_found : (ident : List ℕ) (step place number : ℕ) (card : Card) (rest all : List Card) (fault : SequenceFault)
    → all ≡ card ∷ rest → IsInTheWay ident number place card fault → fault_from ident step place number all ≡ Some fault
unfolding fault_from
fault_found ident step place number card rest all fault first (inl held) = rw (first, held.0, held.1) refl
fault_found ident step place number card rest all fault first (inr great) = rw (first, great.0, great.1, great.2) refl

-- a word with a byte that is no glyph spells no ident
pub no_spelling : (word : List ℕ) (i d : ℕ) → i < length word
    → ((code : ℕ) → code < 64 → glyph_of code ≢ get_or word i d) → SpellsNone word
no_spelling word i d within none ident spells =
    let long : i < length ident = omega (arith, ap length spells.glyphs, length-map ident glyph_of) in
    let glyph : get_or word i d ≡ glyph_of (get_or ident i 0) =
    ap (λ glyphs. get_or glyphs i d) spells.glyphs ∙ get_or-map glyph_of ident i 0 d long in
    none (get_or ident i 0) (spells.characters i 0 long) (sym glyph)

-- a fault is some fault
no_some : (fault : SequenceFault) → Some fault ≡ None → ⊥
no_some fault same = absurd (cc)

-- where no card is in the way the first one fits, and no other is
none_first : (ident : List ℕ) (step place number : ℕ) (card : Card) (deck : List Card)
    → fault_from ident step place number (card ∷ deck) ≡ None
    → (fits ident number ≡ true) × (fault_from ident step (place + 1) (number + step) deck ≡ None)
unfolding fault_from
none_first ident step place number card deck none =
    (elim (is_free ident (number_columns card)) as (λ b. is_free ident (number_columns card) ≡ b → (fits ident number ≡ true) × (fault_from ident step (place + 1) (number + step) deck ≡ None)) [
      | true ↦ λ free. (elim (fits ident number) as (λ b. fits ident number ≡ b → (b ≡ true) × (fault_from ident step (place + 1) (number + step) deck ≡ None)) [
        | true ↦ λ fit. (refl, sym (rw (free, fit) refl) ∙ none)
        | false ↦ λ great. absurd (no_some (record { error = TooGreat; card = place }) (sym (rw (free, great) refl) ∙ none))
      ]) refl
      | false ↦ λ held. absurd (no_some (record { error = Held (glyphs_of (number_columns card)); card = place }) (sym (rw held refl) ∙ none))
    ]) refl

-- the columns of a card that was numbered
columns_read : (ident : List ℕ) (number : ℕ) (card : Card) → IsCard card
    → number_columns (numbered ident number card) ≡ columns_for ident number
columns_read ident number card is =
    drop_at (take 72 card.0) (columns_for ident number) 72 (omega (arith, length-take 72 card.0, is.0))

-- the number of one is not below that of a card before it
rises : (base before number : ℕ) → before < number → leb (base + number) (base + before) ≡ false
rises base before number below = grind (arith, below)

-- behind a card with a lower number nothing is told of cards that were numbered
order_behind : (ident : List ℕ) (step place number at before : ℕ) (deck : List Card) (columns : List ℕ) → All IsCard deck
    → 1 ≤ step → length ident ≤ 5 → fault_from ident step place number deck ≡ None
    → number_of columns ≡ Some (base_of ident + before) → before < number
    → told_from columns at (numbered_from ident step number deck) ≡ []
unfolding told_from numbered_from
order_behind ident step place number at before [] columns each up short none read below = refl
order_behind ident step place number at before (card ∷ deck) columns each up short none read below =
    let first = none_first ident step place number card deck none in
    let is = columns_read ident number card (All-head IsCard card deck each) in
    let next = number_read ident number short first.0 in
    let others = order_behind ident step (place + 1) (number + step) (at + 1) number deck (columns_for ident number)
    (All-tail IsCard card deck each) up short first.1 next (omega arith) in
    rw (is, read, next, rises (base_of ident) before number below) others

-- nothing is told of cards that were numbered
order_first : (ident : List ℕ) (step place number at : ℕ) (deck : List Card) → All IsCard deck
    → 1 ≤ step → length ident ≤ 5 → fault_from ident step place number deck ≡ None
    → told_from [] at (numbered_from ident step number deck) ≡ []
unfolding told_from numbered_from
order_first ident step place number at [] each up short none = refl
order_first ident step place number at (card ∷ deck) each up short none =
    let first = none_first ident step place number card deck none in
    let is = columns_read ident number card (All-head IsCard card deck each) in
    let next = number_read ident number short first.0 in
    let others = order_behind ident step (place + 1) (number + step) (at + 1) number deck (columns_for ident number)
    (All-tail IsCard card deck each) up short first.1 next (omega arith) in
    rw (is, next) others

pub in_order : (word : List ℕ) (first step : ℕ) (deck new : List Card) → IsDeck deck → 1 ≤ step
    → IsNumbered word first step deck new → told new ≡ []
in_order word first step deck new is_deck up done =
    rw done.cards (order_first done.ident step 1 first 1 deck is_deck.1 up done.spells.short done.faultless)

-- the columns 1 to 72 of a card that was numbered
front_kept : (ident : List ℕ) (number : ℕ) (card : Card) → IsCard card → take 72 (numbered ident number card).0 ≡ take 72 card.0
front_kept ident number card is =
    take_at (take 72 card.0) (columns_for ident number) 72 (omega (arith, length-take 72 card.0, is.0))

kept_at : (ident : List ℕ) (step number : ℕ) (card : Card) (deck : List Card) → IsCard card
    → KeepsColumns deck (numbered_from ident step (number + step) deck) → (k : ℕ) (one other : Card) → k < length (card ∷ deck)
    → take 72 (slice_index_or (numbered_from ident step number (card ∷ deck)) k one).0 ≡ take 72 (slice_index_or (card ∷ deck) k other).0
unfolding numbered_from
kept_at ident step number card deck is others zero one other below = front_kept ident number card is
kept_at ident step number card deck is others (suc k) one other below = others.columns k one other (omega (arith, below))

pub columns_kept : (ident : List ℕ) (step number : ℕ) (deck : List Card) → All IsCard deck
    → KeepsColumns deck (numbered_from ident step number deck)
unfolding numbered_from
columns_kept ident step number [] each = record { cards = refl; columns = λ k card other below. absurd (omega (arith, below)) }
columns_kept ident step number (card ∷ deck) each =
    let others = columns_kept ident step (number + step) deck (All-tail IsCard card deck each) in
    record {
      cards = ap (λ n. suc n) others.cards;
      columns = λ k one other below. kept_at ident step number card deck (All-head IsCard card deck each) others k one other below;
    }

-- the same of what numbering gives
pub kept : (ident : List ℕ) (step number : ℕ) (cards deck : List Card) (result : Result (List Card) SequenceFault) → All IsCard deck → cards ≡ deck
    → IfOk result (λ new. (fault_from ident step 1 number cards ≡ None) × (new ≡ numbered_from ident step number cards))
    → IfOk result (λ new. KeepsColumns deck new)
kept ident step number cards deck (Ok new) each same done =
    rw (done.1, same) (columns_kept ident step number deck each)
kept ident step number cards deck (Err fault) each same done = tt
