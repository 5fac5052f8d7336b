-- what a loop over the columns of a whole line keeps
use Rattle.std.proofs.Common.{◌≡◌, ◌≢◌, ℕ, ◌+◌, ◌-◌, ◌*◌, ◌%◌, ◌<◌, List, [], ◌∷◌, ◌++◌, refl, sym, ◌∙◌, ap, arith, length, take, set, get_or, append-nil}
use Rattle.std.specs.List.{flat_map}
use Rattle.std.specs.Int.RustNames.{bit_or}
use Rattle.std.proofs.Math.Seq.{take-add}
use Rattle.std.proofs.lemmas.List.{take_more, take_more_set, take_all, length-append}
use Rattle.std.proofs.lemmas.List.Concat.{flat_map-append}
use Rattle.std.proofs.lemmas.List.Elements.{All-get_or}
use Rattle.std.proofs.lemmas.Nat.{le_or_l, le_or_r, or_lt}
use Rattle.cards.specs.declared.decks.Card.{Card}
use Rattle.cards.specs.declared.forms.Form.{Form}
use Rattle.cards.specs.declared.forms.Form.TheVariants.{Text, Punched}
use Rattle.cards.specs.Decks.{AreCharacters, IsCard}
use Rattle.cards.specs.Faults.{IsNoLine}
use Rattle.cards.specs.Files.{column_at, column_length, column_of, line_of, line_feed, line_length}
use Rattle.cards.proofs.LineColumns.{column_of_line}
use Rattle.cards.proofs.ReadingColumns.{characters_more}

module _ (form : Form) (line codes : List ℕ) (i numbers number code : ℕ) (within : i < length codes) (is : code ≡ number % 64)
    (found : number < 64 → column_at form line i ≡ column_of form number) (below : bit_or numbers number < 64) where
  all_below : numbers < 64
  all_below = omega (arith, le_or_l numbers number)

  one_below : number < 64
  one_below = omega (arith, le_or_r numbers number)

  pub character_read : (numbers < 64 → AreCharacters (take i codes)) → AreCharacters (take (i + 1) (set codes i code))
  character_read before = characters_more codes i code within (before all_below) (omega (arith, one_below))

  pub column_read : (numbers < 64 → flat_map (column_of form) (take i codes) ≡ take (column_length form * i) line) →
      flat_map (column_of form) (take (i + 1) (set codes i code)) ≡ take (column_length form * (i + 1)) line
  column_read before =
      let same : code ≡ number = omega (arith, one_below) in
      let next : column_length form * (i + 1) ≡ column_length form * i + column_length form = omega arith in
      let here : column_of form code ++ [] ≡ column_at form line i = append-nil (column_of form code) ∙ ap (column_of form) same ∙ sym (found one_below) in
      ap (flat_map (column_of form)) (take_more_set codes i code within)
      ∙ flat_map-append (column_of form) (take i codes) (code ∷ [])
      ∙ ap (λ xs. flat_map (column_of form) (take i codes) ++ xs) here
      ∙ ap (λ xs. xs ++ column_at form line i) (before all_below)
      ∙ sym (take-add (column_length form * i) (column_length form) line)
      ∙ ap (λ n. take n line) (sym next)

-- of the line of a card each number is a character's
pub number_read : (form : Form) (line : List ℕ) (i numbers number : ℕ) (card : Card) → i < 80 → IsCard card → line ≡ line_of form card →
    ((code : ℕ) → code < 64 → column_at form line i ≡ column_of form code → number ≡ code) → numbers < 64 → bit_or numbers number < 64
number_read form line i numbers number card within is line_is each before =
    let code = get_or card.0 i 0 in
    let inside : i < length card.0 = omega (arith, is.0) in
    let below : code < 64 = All-get_or (λ n. n < 64) card.0 i 0 inside is.1 in
    let stands : column_at form line i ≡ column_of form code = ap (λ l. column_at form l i) line_is ∙ column_of_line form card.0 (line_feed ∷ []) i inside in
    or_lt 6 numbers number before (omega (arith, each code below stands))

-- the last byte of a list
last_of : (xs : List ℕ) (byte : ℕ) → get_or (xs ++ byte ∷ []) (length xs) 0 ≡ byte
last_of [] byte = refl
last_of (x ∷ xs) byte = last_of xs byte

-- a line without a line feed at its end is no card's
pub other_end : (form : Form) (line : List ℕ) → get_or line (length line - 1) 0 ≢ line_feed → IsNoLine form line
other_end form line other card is same =
    let columns = flat_map (column_of form) card.0 in
    let place : length line - 1 ≡ length columns = omega (arith, ap length same, length-append columns (line_feed ∷ [])) in
    other (ap (λ n. get_or line n 0) place ∙ ap (λ l. get_or l (length columns) 0) same ∙ last_of columns line_feed)

last_byte : (line : List ℕ) (n : ℕ) → length line ≡ n + 1 → get_or line n 0 ≡ line_feed → line ≡ take n line ++ line_feed ∷ []
last_byte line n long feed = sym (take_all (n + 1) line (omega arith)) ∙ take_more line n 0 (omega arith) ∙ ap (λ b. take n line ++ b ∷ []) feed

before_last : (form : Form) (line : List ℕ) → length line ≡ line_length form → length line ≡ column_length form * 80 + 1
before_last Text line long = long
before_last Punched line long = long

-- eighty columns and a line feed are the line of a card
pub whole_read : (form : Form) (line codes : List ℕ) (i : ℕ) → length line ≡ line_length form → length codes ≡ 80 → i ≡ 80 → AreCharacters (take i codes) →
    flat_map (column_of form) (take i codes) ≡ take (column_length form * i) line → get_or line (length line - 1) 0 ≡ line_feed →
    IsCard (record { 0 = codes }) × (line ≡ line_of form (record { 0 = codes }))
whole_read form line codes i long width end characters columns feed =
    let all : take i codes ≡ codes = take_all i codes (omega arith) in
    let ends = before_last form line long in
    let place : length line - 1 ≡ column_length form * 80 = omega arith in
    let front : take (column_length form * 80) line ≡ flat_map (column_of form) codes =
    ap (λ n. take (column_length form * n) line) (sym end) ∙ sym columns ∙ ap (flat_map (column_of form)) all in (
      (width, rw all at characters),
      last_byte line (column_length form * 80) ends (ap (λ n. get_or line n 0) (sym place) ∙ feed) ∙ ap (λ xs. xs ++ line_feed ∷ []) front,
    )
