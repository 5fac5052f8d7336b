-- what the words of a line mean
use Rattle.std.specs.Prelude.{ℕ, ◌≡◌, ◌≤◌, List, [], if◌then◌else◌, codes, decimal}
use Rattle.std.specs.Str.{is_utf8}
use Rattle.office.specs.declared.commands.Kind.{Kind}
use Rattle.office.specs.declared.commands.Kind.TheVariants.{Object, Autocoder}

-- the text of a word; a word that is not UTF-8 is the empty text, which is no name
abbrev pub text_of : List ℕ → List ℕ
text_of word = if is_utf8 word then word else []

-- the word for a kind of deck: `object` or `autocoder`
abbrev pub IsKindOf : List ℕ → Kind → Type 0
IsKindOf word Object = word ≡ codes "object"
IsKindOf word Autocoder = word ≡ codes "autocoder"

-- a number of cards, 0 to 2,000, in decimal without leading zeros
abbrev pub IsCountOf : List ℕ → ℕ → Type 0
IsCountOf word count = (count ≤ 2000) × (text_of word ≡ decimal count)
