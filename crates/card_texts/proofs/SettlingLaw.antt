-- a text that is punched twice
use Rattle.std.proofs.Common.{rules, arith, refl, ap, ◌∙◌, ◌≡◌, ℕ, List, [], sym}
use Rattle.card_texts.specs.declared.rules.Rules.{Rules}
use Rattle.card_texts.specs.DeckTexts.{in_glyphs}
use Rattle.card_texts.specs.Lines.{lines_of}
use Rattle.card_texts.specs.Punching.{cards_of_lines, deck_text_of, faults_of, faults_of_lines}
use Rattle.card_texts.proofs.CardLines.{lines_of_text}
use Rattle.card_texts.proofs.TakenLines.{cards_taken, lines_taken, settled_cards, settled_faultless, settled_same, taken_lines}

-- the lines of what was punched are the cards that were taken
lines_again : (rules : Rules) (text : List ℕ) → faults_of rules text ≡ []
    → lines_of (deck_text_of rules text) ≡ taken_lines rules 1 (lines_of text)
lines_again rules text none =
    let taken = lines_taken rules 1 0 (lines_of text) (omega arith) none in
    ap lines_of (cards_taken rules 1 (lines_of text))
    ∙ lines_of_text _ (settled_cards (in_glyphs rules) _ taken.settled)

pub punched_is_faultless : (rules : Rules) (text : List ℕ) → faults_of rules text ≡ []
    → faults_of (in_glyphs rules) (deck_text_of rules text) ≡ []
punched_is_faultless rules text none =
    let taken = lines_taken rules 1 0 (lines_of text) (omega arith) none in
    ap (faults_of_lines (in_glyphs rules) 1 0) (lines_again rules text none)
    ∙ settled_faultless (in_glyphs rules) 1 0 _ refl taken.settled taken.fits

pub punched_stays : (rules : Rules) (text : List ℕ) → faults_of rules text ≡ []
    → deck_text_of (in_glyphs rules) (deck_text_of rules text) ≡ deck_text_of rules text
punched_stays rules text none =
    let taken = lines_taken rules 1 0 (lines_of text) (omega arith) none in
    ap (cards_of_lines (in_glyphs rules) 1) (lines_again rules text none)
    ∙ settled_same (in_glyphs rules) 1 _ refl taken.settled ∙ sym (cards_taken rules 1 (lines_of text))
