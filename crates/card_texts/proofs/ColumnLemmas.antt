-- the columns that a line fills
use Rattle.std.proofs.Common.{rules, arith, refl, sym, ap, ◌∙◌, ◌≡◌, ◌<◌, ◌≤◌, ◌+◌, ◌-◌, ℕ, zero, suc, true, false, if◌then◌else◌, List, [], ◌∷◌, ◌++◌, length, take, drop, get_or, drop-cons, replicate, append_assoc, length-append}
use Rattle.std.proofs.lemmas.List.{length-replicate, take-replicate, take_all}
use Rattle.card_texts.specs.declared.rules.Rules.{Rules}
use Rattle.card_texts.specs.Columns.{blank, behind_tab, behind, is_spread, columns_of, columns_from}

-- a tab fills a column at least
pub behind_tab_more : (stops : List ℕ) (filled : ℕ) → filled < behind_tab stops filled
unfolding behind_tab
behind_tab_more [] filled = omega arith
behind_tab_more (stop ∷ stops) filled = grind (arith, behind_tab_more stops filled)

-- a byte fills the columns up to those that are filled behind it
pub length_of_columns : (rules : Rules) (filled byte : ℕ)
    → filled + length (columns_of rules filled byte) ≡ behind rules filled byte
length_of_columns rules filled byte =
    elim (is_spread rules byte) as (λ b. filled + length (if b
    then replicate (behind_tab rules.tabs.items filled - filled) blank
    else Rattle.card_texts.specs.Signs.glyph_by rules.signs rules.folds byte ∷ [])
    ≡ (if b then behind_tab rules.tabs.items filled else filled + 1)) [
      | true ↦ omega (arith, length-replicate (behind_tab rules.tabs.items filled - filled) blank, behind_tab_more rules.tabs.items filled)
      | false ↦ refl
    ]

-- one byte more of a line is spread
pub spread_on : (rules : Rules) (line columns : List ℕ) (index d : ℕ) → index < length line
    → columns_from rules 0 line
    ≡ columns ++ columns_from rules (length columns) (drop index line)
    → columns_from rules 0 line
    ≡ (columns ++ columns_of rules (length columns) (get_or line index d))
    ++ columns_from rules (length (columns ++ columns_of rules (length columns) (get_or line index d))) (drop (suc index) line)
unfolding columns_from
spread_on rules line columns index d below before =
    before
    ∙ ap (λ rest. columns ++ columns_from rules (length columns) rest) (drop-cons line index d below)
    ∙ sym (append_assoc columns (columns_of rules (length columns) (get_or line index d)) (columns_from rules (behind rules (length columns) (get_or line index d)) (drop (suc index) line)))
    ∙ ap (λ filled. (columns ++ columns_of rules (length columns) (get_or line index d)) ++ columns_from rules filled (drop (suc index) line))
    (sym (length-append columns (columns_of rules (length columns) (get_or line index d)) ∙ length_of_columns rules (length columns) (get_or line index d)))

-- a list that is cut at a length and filled up to it, is the first so many of the list with enough
-- behind it
pub filled_to : (length_wanted more b : ℕ) (xs : List ℕ) → length_wanted ≤ more
    → take length_wanted xs ++ replicate (length_wanted - length xs) b
    ≡ take length_wanted (xs ++ replicate more b)
filled_to n more b [] enough =
    ap (λ count. take n [] ++ replicate count b) (omega arith)
    ∙ ap (λ before. before ++ replicate n b) (take_all n [] (omega arith))
    ∙ sym (take-replicate n more b enough)
filled_to zero more b (x ∷ xs) enough =
    let none : zero - suc (length xs) ≡ zero = omega arith in
    ap (λ count. replicate count b) none
filled_to (suc n) more b (x ∷ xs) enough =
    let less : suc n - suc (length xs) ≡ n - length xs = omega arith in
    ap (λ count. x ∷ (take n xs ++ replicate count b)) less
    ∙ ap (λ rest. x ∷ rest) (filled_to n more b xs (omega (arith, enough)))

-- columns that are cut at 80 and filled up are the first 80 of the columns with blanks behind them
pub filled_to_80 : (columns : List ℕ)
    → take 80 columns ++ replicate (80 - length columns) blank
    ≡ take 80 (columns ++ replicate 80 blank)
filled_to_80 columns = filled_to 80 80 blank columns (omega arith)
