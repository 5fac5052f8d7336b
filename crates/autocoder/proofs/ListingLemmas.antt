-- for `listing` and what it calls, of `listings`: one more line of a listing
use Rattle.std.proofs.Common.{◌≡◌, ◌≢◌, ℕ, ◌+◌, ◌-◌, ◌<◌, ◌≤◌, List, [], ◌∷◌, ◌++◌, length, take, drop, get_or, refl, sym, ◌∙◌, ap, arith, append_assoc, eqb, ◌*◌, Option, Some, None, Ok, Err, true, false, length-append}
use Rattle.std.specs.Bool.{if◌then◌else◌}
use Rattle.std.specs.Option.{is_some}
use Rattle.std.proofs.lemmas.List.{at_drop_more, at_drop_all, append-nil}
use Rattle.std.proofs.lemmas.List.Sums.{suffix_len_is}
use Rattle.std.proofs.lemmas.Bool.{eq-eqb, ne_eqb}
use Rattle.cards.specs.declared.decks.Card.{Card}
use Rattle.autocoder_layout.specs.Source.{Line, source_of, lines_of}
use Rattle.autocoder_layout.specs.Slots.{place_after}
use Rattle.autocoder_layout.specs.Literals.{Characters, literal_in, uses_in, uses_of, firsts, is_used, literals_of}
use Rattle.autocoder_layout.specs.Layout.{slots_of}
use Rattle.autocoder_statements.specs.declared.operands.Operand.{Operand}
use Rattle.autocoder_statements.specs.declared.operands.Operand.TheVariants as operand
use Rattle.autocoder_statements.specs.declared.reading.Statement.TheVariants as statement
use Rattle.autocoder_layout.specs.declared.slots.Slot.{Slot}
use Rattle.autocoder.specs.Listing.{blank, line_text, card_line, card_lines, literal_line, literal_lines, listing_of, listing_of_source, listing_for}
use Rattle.cards.specs.Files.{line_feed}
use Rattle.autocoder.specs.Programs.{layout_for, IsProgramOf}
use Rattle.autocoder.specs.Assembly.{Assembly}
use Rattle.autocoder_layout.proofs.SourceLemmas.{length-lines_of}

-- a line by where its trailing blanks begin
pub listed_is : (line : List ℕ) (n : ℕ) → n ≤ length line → ((k : ℕ) → n ≤ k → k < length line → get_or line k 0 ≡ blank) → (0 < n → get_or line (n - 1) 0 ≢ blank) → line_text line ≡ take n line ++ line_feed ∷ []
unfolding line_text
listed_is line n within rest last =
    let cut = suffix_len_is (λ g. eqb g blank) line n 0 (omega arith)
    (λ k from below. eq-eqb (get_or line k 0) blank (rest k from (omega arith)))
    (λ some. ne_eqb (get_or line (n - 1) 0) blank (last some)) in
    let left : length line - (length line - n) ≡ n = omega arith in
    ap (λ k. take (length line - k) line ++ line_feed ∷ []) cut ∙ ap (λ k. take k line ++ line_feed ∷ []) left

pub card_lines_step : (old new : List ℕ) (cards : List Card) (slots : List Slot) (i : ℕ) (card d : Card) (slot e : Slot) (line : List ℕ) → i < length cards → i < length slots →
    card ≡ get_or cards i d → slot ≡ get_or slots i e → line ≡ card_line (i + 1) slot card → new ≡ old ++ line_text line →
    new ++ card_lines (i + 1 + 1) (drop (i + 1) cards) (drop (i + 1) slots) ≡ old ++ card_lines (i + 1) (drop i cards) (drop i slots)
unfolding card_lines
card_lines_step old new cards slots i card d slot e line h k c s l n =
    let rest : List ℕ = card_lines (i + 1 + 1) (drop (i + 1) cards) (drop (i + 1) slots) in
    let line_is : line ≡ card_line (i + 1) (get_or slots i e) (get_or cards i d) = l ∙ ap (λ x. card_line (i + 1) x card) s ∙ ap (card_line (i + 1) (get_or slots i e)) c in
    ap (λ t. t ++ rest) (n ∙ ap (λ x. old ++ line_text x) line_is)
    ∙ append_assoc old (line_text (card_line (i + 1) (get_or slots i e) (get_or cards i d))) rest
    ∙ ap (λ t. old ++ t) (sym (at_drop_more (λ x. card_lines (i + 1) x (drop i slots)) cards i d h ∙ at_drop_more (λ x. card_lines (i + 1) (get_or cards i d ∷ drop (i + 1) cards) x) slots i e k))

pub card_lines_past_cards : (old : List ℕ) (cards : List Card) (slots : List Slot) (i number : ℕ) → length cards ≤ i → old ≡ old ++ card_lines number (drop i cards) slots
unfolding card_lines
card_lines_past_cards old cards slots i number h = sym (append-nil old) ∙ ap (λ t. old ++ t) (sym (at_drop_all (λ x. card_lines number x slots) cards i h))

no_slots : (cards : List Card) (number : ℕ) → card_lines number cards [] ≡ []
unfolding card_lines
no_slots [] number = refl
no_slots (card ∷ cards) number = refl

pub card_lines_past_slots : (old : List ℕ) (cards : List Card) (slots : List Slot) (i number : ℕ) → length slots ≤ i → old ≡ old ++ card_lines number cards (drop i slots)
card_lines_past_slots old cards slots i number h = sym (append-nil old) ∙ ap (λ t. old ++ t) (sym (at_drop_all (λ x. card_lines number cards x) slots i h ∙ no_slots cards number))

pub literal_lines_step : (old new : List ℕ) (here : ℕ) (literals : List Characters) (i : ℕ) (literal d : Characters) (codes line : List ℕ) → i < length literals →
    literal ≡ get_or literals i d → codes ≡ literal → line ≡ literal_line here codes → new ≡ old ++ line_text line →
    new ++ literal_lines (here + length codes) (drop (i + 1) literals) ≡ old ++ literal_lines here (drop i literals)
unfolding literal_lines
literal_lines_step old new here literals i literal d codes line h l c e n =
    let same : codes ≡ get_or literals i d = c ∙ l in
    ap (λ t. t ++ literal_lines (here + length codes) (drop (i + 1) literals)) (n ∙ ap (λ x. old ++ line_text x) e)
    ∙ append_assoc old (line_text (literal_line here codes)) (literal_lines (here + length codes) (drop (i + 1) literals))
    ∙ ap (λ x. old ++ (line_text (literal_line here x) ++ literal_lines (here + length x) (drop (i + 1) literals))) same
    ∙ ap (λ t. old ++ t) (sym (at_drop_more (λ ls. literal_lines here ls) literals i d h))

pub literal_lines_past : (old : List ℕ) (here : ℕ) (literals : List Characters) (i : ℕ) → length literals ≤ i → old ≡ old ++ literal_lines here (drop i literals)
unfolding literal_lines
literal_lines_past old here literals i h = sym (append-nil old) ∙ ap (λ t. old ++ t) (sym (at_drop_all (λ ls. literal_lines here ls) literals i h))

-- ---- how many literals there are

literal_in-one : (o : Option Operand) → length (literal_in o) ≤ 1
literal_in-one (Some (operand.Literal text)) = omega arith
literal_in-one (Some (operand.Address address)) = omega arith
literal_in-one None = omega arith

uses_in-two : (line : Line) (slot : Slot) → length (uses_in line slot) ≤ 2
unfolding uses_in
uses_in-two (Ok (statement.Instruction label spelled)) slot =
    elim (is_some slot.fault) as (λ b. length (if b then [] else literal_in spelled.first ++ literal_in spelled.second) ≤ 2) [
      | true ↦ omega arith
      | false ↦ omega (arith, length-append (literal_in spelled.first) (literal_in spelled.second), literal_in-one spelled.first, literal_in-one spelled.second)
    ]
uses_in-two (Err reason) slot = omega arith
uses_in-two (Ok statement.Comment) slot = omega arith
uses_in-two (Ok statement.Job) slot = omega arith
uses_in-two (Ok (statement.Control given)) slot = omega arith
uses_in-two (Ok (statement.Origin expression)) slot = omega arith
uses_in-two (Ok (statement.Equate label expression)) slot = omega arith
uses_in-two (Ok (statement.Constant label marked text)) slot = omega arith
uses_in-two (Ok (statement.Area label positions)) slot = omega arith
uses_in-two (Ok (statement.End start labelled)) slot = omega arith

uses_of-two_each : (lines : List Line) (slots : List Slot) → length (uses_of lines slots) ≤ 2 * length lines
unfolding uses_of
uses_of-two_each [] slots = omega arith
uses_of-two_each (line ∷ lines) [] = omega arith
uses_of-two_each (line ∷ lines) (slot ∷ slots) = omega (arith, length-append (uses_in line slot) (uses_of lines slots), uses_in-two line slot, uses_of-two_each lines slots)

firsts-fewer : (earlier uses : List Characters) → length (firsts earlier uses) ≤ length uses
unfolding firsts
firsts-fewer earlier [] = omega arith
firsts-fewer earlier (literal ∷ uses) =
    elim (is_used earlier literal) as (λ b. length (if b then firsts (earlier ++ literal ∷ []) uses else literal ∷ firsts (earlier ++ literal ∷ []) uses) ≤ length (literal ∷ uses)) [
      | true ↦ omega (arith, firsts-fewer (earlier ++ literal ∷ []) uses)
      | false ↦ omega (arith, firsts-fewer (earlier ++ literal ∷ []) uses)
    ]

literals_of-two_each : (lines : List Line) (slots : List Slot) → length (literals_of lines slots) ≤ 2 * length lines
unfolding literals_of
literals_of-two_each lines slots = omega (arith, firsts-fewer [] (uses_of lines slots), uses_of-two_each lines slots)

-- ---- a program's listing

module _ (deck source : List Card) (program : Assembly) (is_program : IsProgramOf (source_of deck) program) (source_is : source ≡ source_of deck) where
  pub few_literals : length source ≤ 2000 → length program.literals ≤ 4000
  few_literals few =
      let lines : List Line = lines_of false (source_of deck) in
      omega (arith, ap length is_program.literals, literals_of-two_each lines (slots_of (layout_for (source_of deck))), length-lines_of false (source_of deck), ap length source_is)

  pub listing_is : (slots : List Slot) (literals : List Characters) (place : ℕ) (old cards whole : List ℕ) → slots ≡ program.slots → literals ≡ program.literals → place ≡ place_after slots →
      old ≡ [] → cards ≡ old ++ card_lines 1 source slots → whole ≡ cards ++ literal_lines place literals → whole ≡ listing_for deck
  unfolding listing_of_source listing_of
  listing_is slots literals place old cards whole s l p o c w =
      let all = slots_of (layout_for (source_of deck)) in
      let wanted = literals_of (lines_of false (source_of deck)) all in
      let cards_are : cards ≡ card_lines 1 (source_of deck) all =
      c ∙ ap (λ x. x ++ card_lines 1 source slots) o ∙ ap (λ x. card_lines 1 x slots) source_is ∙ ap (card_lines 1 (source_of deck)) (s ∙ is_program.slots) in
      let place_is : place ≡ place_after all = p ∙ ap place_after (s ∙ is_program.slots) in
      w
      ∙ ap (λ x. x ++ literal_lines place literals) cards_are
      ∙ ap (λ n. card_lines 1 (source_of deck) all ++ literal_lines n literals) place_is
      ∙ ap (λ x. card_lines 1 (source_of deck) all ++ literal_lines (place_after all) x) (l ∙ is_program.literals)
