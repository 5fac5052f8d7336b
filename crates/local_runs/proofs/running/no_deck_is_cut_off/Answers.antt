use Rattle.std.proofs.Common.{◌≡◌, ◌∙◌, ◌+◌, ◌*◌, ◌≤◌, ◌++◌, ◌∷◌, [], ℕ, List, length, length-append, take_all, refl, sym, ap, arith, append_assoc}
use Rattle.std.specs.List.{All}
use Rattle.std.proofs.lemmas.List.Elements.{All-head, All-tail}
use Rattle.std.proofs.lemmas.List.{length-take}
use Rattle.cards.specs.declared.Card.{Card}
use Rattle.cards.specs.Decks.{IsCard}
use Rattle.cards.specs.Files.{column_of, text_of}
use Rattle.local_runs.proofs.running.no_deck_is_cut_off.Goals as goal

-- a line has a byte for each column, and a line feed
length-line : (codes : List ℕ) → length (text_of (record { 0 = codes } ∷ [])) ≡ length codes + 1
unfolding column_of
length-line [] = refl
length-line (code ∷ codes) = omega (arith, length-line codes)

-- and a deck's text the lines of its cards
length-lines : (deck : List Card) → All IsCard deck → length (text_of deck) ≡ 81 * length deck
length-lines [] cards = refl
length-lines (card ∷ deck) cards =
    let line = length-line card.0 in
    let columns = (All-head IsCard card deck cards).0 in
    let behind = length-lines deck (All-tail IsCard card deck cards) in
    let joined : length (text_of (card ∷ []) ++ text_of deck) ≡ length (text_of (card ∷ deck)) = ap length (append_assoc _ [] (text_of deck)) in
    omega (arith, length-append (text_of (card ∷ [])) (text_of deck))

pub returns : goal.returns
returns c bytes deck is_deck is =
    let lines = length-lines deck is_deck.1 in
    let limit = is_deck.0 in
    let few : length bytes ≤ 162001 = omega (arith, length-take 162001 bytes, ap length is) in
    sym (take_all 162001 bytes few) ∙ is
