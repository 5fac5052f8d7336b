-- how the files of a folder are taken
use Rattle.std.specs.Prelude.{ℕ, ◌≡◌, ◌≢◌, List, Option}
use Rattle.card_texts.specs.Taking.{IsUntaken}
use Rattle.card_texts.specs.declared.Rules.{Rules}
use Rattle.card_texts.specs.declared.Signs.{Signs}
use Rattle.card_texts.specs.declared.Untaken.{Untaken}
use Rattle.card_texts.specs.declared.Untaken.TheVariants.{NoMemory}

-- these rules say the same as others, in memory of their own
pub record IsCopy (rules copy : Rules) : Type 0 where
  pub folds : copy.folds ≡ rules.folds
  pub tabs : copy.tabs.items ≡ rules.tabs.items
  pub signs : copy.signs ≡ rules.signs
  pub keeps : copy.keeps ≡ rules.keeps
  pub empty : copy.empty ≡ rules.empty

-- a file is not taken by these rules: it is two decks, or has faults
abbrev pub IsRefused : Rules → Option Signs → List ℕ → Type 0
IsRefused rules named bytes =
    (untaken : Untaken) × (untaken ≢ NoMemory) × IsUntaken rules named bytes untaken
