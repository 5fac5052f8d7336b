-- what was done to lines, line by line
use Rattle.std.proofs.Common.{sym, ap, ◌∙◌, ◌≡◌, ◌+◌, ℕ, List, ◌∷◌, ◌++◌, append_assoc}
use Rattle.card_texts.specs.declared.rules.Rules.{Rules}
use Rattle.card_texts.specs.declared.changing.Change.{Change}
use Rattle.card_texts.specs.Changes.{changes_in, changes_of_lines}

-- what was done to one line more
pub change_step : (rules : Rules) (number : ℕ) (line : List ℕ) (rest more : List (List ℕ))
    (before after found : List Change)
    → after ≡ before ++ changes_in rules number line → rest ≡ line ∷ more
    → before ++ changes_of_lines rules number rest ≡ found
    → after ++ changes_of_lines rules (number + 1) more ≡ found
unfolding changes_of_lines
change_step rules number line rest more before after found added split known =
    ap (λ changes. changes ++ changes_of_lines rules (number + 1) more) added
    ∙ append_assoc before (changes_in rules number line) (changes_of_lines rules (number + 1) more)
    ∙ ap (λ lines. before ++ changes_of_lines rules number lines) (sym split) ∙ known
