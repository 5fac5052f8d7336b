-- two rounds of the code, one after the other
use Rattle.std.specs.Prelude.{◌≡◌, List, [], ◌∷◌}
use Rattle.sqlite.specs.Recovery.{Image}
use Rattle.office.specs.Office.{Office}
use Rattle.office.specs.declared.commands.Command.{Command}
use Rattle.office.specs.declared.replies.Reply.{Reply}
use Rattle.bureau_laws.specs.Headline.{IsOneHistory, Round}

-- two rounds left these files, one after the other, and of their commands and replies this is told;
-- from this office on they are one history
abbrev pub AreOneHistory : Office → Image → Image → (List Command → List Reply → Type 0)
    → (List Command → List Reply → Type 0) → Type 0
AreOneHistory office between last First Second = ∥ ((one two : Round)
    × First one.given one.replies × Second two.given two.replies
    × (one.files ≡ between) × (two.files ≡ last) × IsOneHistory office (one ∷ two ∷ [])) ∥₁
