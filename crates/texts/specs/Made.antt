-- what a job was granted and has made, in words
use Rattle.std.specs.Prelude.{ℕ, Bool, true, false, List, [], ◌++◌, codes, decimal}
use Rattle.texts.specs.declared.made.Made.{Made}

-- these words if a flag is set, else none
abbrev pub if_set : Bool → List ℕ → List ℕ
if_set true words = words
if_set false words = []

-- a job's flags
unfoldable pub flag_words : Made → List ℕ
flag_words made = if_set made.held (codes " held") ++ if_set made.collected (codes " collected")

-- what a job was granted and has made, and its flags, behind the words of its standing
unfoldable pub made_words : Made → List ℕ
made_words made = codes " granted " ++ decimal made.granted ++ codes " cards " ++ decimal made.cards
    ++ codes " lines " ++ decimal made.lines ++ flag_words made
