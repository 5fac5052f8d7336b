-- Where lines and cards stand in the bytes of a script.
use Rattle.std.proofs.Common.{◌≡◌, ◌≢◌, ◌∙◌, ◌⊎◌, inl, inr, ℕ, ◌+◌, ◌*◌, ◌<◌, ◌≤◌, List, [], ◌∷◌, ◌++◌, length, min, refl, sym, ap, arith, append_assoc, append-nil, length-append}
use Rattle.std.specs.Prelude.{All}
use Rattle.std.proofs.lemmas.Bool.{cases_lt}
use Rattle.std.proofs.lemmas.List.{nil_from_length}
use Rattle.std.proofs.lemmas.List.Elements.{All-head, All-tail}
use Rattle.cards.specs.declared.decks.Card.{Card}
use Rattle.cards.specs.Decks.{IsCard, IsDeck}
use Rattle.cards.specs.declared.faults.CardError.{CardError}
use Rattle.cards.specs.declared.faults.CardError.TheVariants as error
use Rattle.cards.specs.declared.faults.CardFault.{CardFault}
use Rattle.cards.specs.Faults.{IsCardFault}
use Rattle.cards.specs.Files.{column_of, line_of, text_of}
use Rattle.cards.proofs.ReadingLaw.{no_line}
use Rattle.scripts.specs.Scripts.{BeginsWithDeck, HasBadCard, HasFaultOfCards, HasNoCard, fault_of, fault_of_error}

abbrev card_of : List ℕ → Card
card_of columns = record { 0 = columns }

-- the text of a card has a byte a column, and a line feed
columns_length : (columns : List ℕ) → length (text_of (card_of columns ∷ [])) ≡ length columns + 1
unfolding column_of
columns_length [] = refl
columns_length (code ∷ columns) = omega (arith, columns_length columns)

one_length : (card : Card) → IsCard card → length (text_of (card ∷ [])) ≡ 81
one_length card is = omega (arith, columns_length card.0, is.0)

more_text : (card : Card) (deck : List Card) → text_of (card ∷ deck) ≡ text_of (card ∷ []) ++ text_of deck
more_text card deck = simp (append_assoc, append-nil)

-- the text of a deck has 81 bytes a card
pub text_length : (deck : List Card) → All IsCard deck → length (text_of deck) ≡ 81 * length deck
text_length [] are = refl
text_length (card ∷ deck) are =
    let more = text_length deck (All-tail IsCard card deck are) in
    omega (arith, ap length (more_text card deck), length-append (text_of (card ∷ [])) (text_of deck), one_length card (All-head IsCard card deck are), more)

-- the front of equal bytes
front_of : (xs ys zs ws : List ℕ) → xs ++ ys ≡ zs ++ ws → length zs ≤ length xs → (more : List ℕ) × (xs ≡ zs ++ more)
front_of xs ys [] ws same long = (xs, refl)
front_of [] ys (z ∷ zs) ws same long = absurd (omega (arith, long))
front_of (x ∷ xs) ys (z ∷ zs) ws same long =
    let e = same in
    let head : x ≡ z = cc in
    let tail : xs ++ ys ≡ zs ++ ws = cc in
    let rest = front_of xs ys zs ws tail (omega (arith, long)) in
    (rest.0, ap (λ (b : ℕ). b ∷ xs) head ∙ ap (λ (bs : List ℕ). z ∷ bs) rest.1)

-- all cards were read, or there are fewer
pub deck_read : (bytes front back : List ℕ) (deck : List Card) (count : ℕ) → bytes ≡ front ++ back → front ≡ text_of deck → IsDeck deck
    → length front ≤ count * 81 → count ≤ length deck → BeginsWithDeck bytes deck count back
deck_read bytes front back deck count whole is deck_is short many =
    let size = text_length deck deck_is.1 in
    (deck_is, omega (arith, ap length is, size, short, many), whole ∙ ap (λ (b : List ℕ). b ++ back) is)

nothing_there : HasNoCard []
nothing_there card rest is same = omega (arith, ap length same, length-append (text_of (card ∷ [])) rest, one_length card is)

pub too_few : (bytes front back : List ℕ) (deck : List Card) (count : ℕ) → bytes ≡ front ++ back → front ≡ text_of deck → IsDeck deck
    → (length front ≡ count * 81) ⊎ (length back ≡ 0) → length deck < count → HasBadCard bytes count (length deck + 1)
too_few bytes front back deck count whole is deck_is (inl full) few =
    absurd (omega (arith, ap length is, text_length deck deck_is.1, full, few))
too_few bytes front back deck count whole is deck_is (inr end) few =
    let none : back ≡ [] = nil_from_length back end in
    record {
      cards = deck;
      rest = [];
      are = deck_is.1;
      before = whole ∙ ap (λ (b : List ℕ). front ++ b) none ∙ ap (λ (b : List ℕ). b ++ []) is;
      fewer = few;
      none = nothing_there;
      place = refl;
    }

-- a card is at fault
pub bad_card : (bytes front back rest : List ℕ) (cards : List Card) (count number : ℕ) → bytes ≡ front ++ back → front ≡ text_of cards ++ rest
    → All IsCard cards → rest ≢ [] → length front ≤ count * 81 → (length front ≡ count * 81) ⊎ (length back ≡ 0)
    → ((card : Card) (behind : List ℕ) → IsCard card → rest ≢ text_of (card ∷ []) ++ behind) → number ≡ length cards + 1
    → HasBadCard bytes count number
bad_card bytes front back rest cards count number whole before are more short end wrong place =
    let size = text_length cards are in
    let long : length front ≡ 81 * length cards + length rest = omega (arith, ap length before, length-append (text_of cards) rest, size) in
    let some : 0 < length rest = elim (cases_lt 0 (length rest)) [ inl h ↦ h | inr h ↦ absurd (more (nil_from_length rest (omega (arith, h)))) ] in
    record {
      cards = cards;
      rest = rest ++ back;
      are = are;
      before = whole ∙ ap (λ (b : List ℕ). b ++ back) before ∙ append_assoc (text_of cards) rest back;
      fewer = omega (arith, long, some, short);
      none = λ card behind is same. no_card card behind is same (elim end [
        | inl full ↦ inl (omega (arith, full, long, some))
        | inr over ↦ inr (nil_from_length back over)
      ]);
      place = place;
    }
  where
    no_card : (card : Card) (behind : List ℕ) → IsCard card → rest ++ back ≡ text_of (card ∷ []) ++ behind → (81 ≤ length rest) ⊎ (back ≡ []) → ⊥
    no_card card behind is same (inl full) =
        let front = front_of rest back (text_of (card ∷ [])) behind same (omega (arith, one_length card is, full)) in
        wrong card front.0 is front.1
    no_card card behind is same (inr over) =
        wrong card behind is (sym (append-nil rest) ∙ ap (λ (b : List ℕ). rest ++ b) (sym over) ∙ same)

-- .. and what is read of it
pub deck_shorter : (bytes rest : List ℕ) (deck : List Card) → All IsCard deck → bytes ≡ text_of deck ++ rest → length deck + length rest ≤ length bytes
deck_shorter bytes rest deck are is = omega (arith, ap length is, length-append (text_of deck) rest, text_length deck are)

-- the bytes of the cards are as many as there should be, or all
pub as_many : (most all front back : ℕ) → front ≡ min most all → back + front ≡ all → (front ≤ most) × ((front ≡ most) ⊎ (back ≡ 0))
as_many most all front back is whole = elim (cases_lt most all) [
  | inl fewer ↦ let same : front ≡ most = omega (arith, is, fewer) in (omega (arith, same), inl same)
  | inr other ↦ let same : front ≡ all = omega (arith, is, other) in (omega (arith, same, other), inr (omega (arith, same, whole)))
]

-- where a card is at fault none stands
pub no_card_at : (form : _) (cards : ℕ) (rest : List ℕ) (fault : CardFault) → IsCardFault form cards rest fault → cards < 2000
    → ((c : Card) → text_of (c ∷ []) ≡ line_of form c) → (card : Card) (behind : List ℕ) → IsCard card → rest ≢ text_of (card ∷ []) ++ behind
no_card_at form cards rest fault (inl wrong) few text card behind is same =
    no_line form rest fault.column fault.error wrong.1 card behind is (same ∙ ap (λ (l : List ℕ). l ++ behind) (text card))
no_card_at form cards rest fault (inr wrong) few text card behind is same = omega (arith, wrong.0, few)

-- the fault of a script, unless memory ran out
pub fault_of_cards : (bytes : List ℕ) (count : ℕ) (fault : CardFault) → (fault.error ≢ error.NoMemory → HasBadCard bytes count fault.card)
    → HasFaultOfCards bytes count (fault_of fault)
fault_of_cards bytes count fault bad = go fault.error fault.card bad
  where
    go : (e : CardError) (card : ℕ) → (e ≢ error.NoMemory → HasBadCard bytes count card) → HasFaultOfCards bytes count (fault_of_error e card)
    go error.NoMemory card h = tt
    go error.Length card h = h (λ same. absurd (cc))
    go error.Glyph card h = h (λ same. absurd (cc))
    go error.Punches card h = h (λ same. absurd (cc))
    go error.TooManyCards card h = h (λ same. absurd (cc))
