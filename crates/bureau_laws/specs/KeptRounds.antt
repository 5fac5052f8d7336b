-- the rounds of a chain with their offices, and the commands that were replied to in them
use Rattle.std.specs.Prelude.{◌≡◌, ℕ, List, [], ◌∷◌, flat_map, take as beginning_of}
use Rattle.office.specs.Office.{Office, take, fold}
use Rattle.office.specs.declared.commands.Command.{Command}
use Rattle.office.specs.declared.replies.Reply.{Reply}
use Rattle.office.specs.declared.replies.Reply.TheVariants.{Taken}
use Rattle.bureau_laws.specs.Headline.{Round, AreKept}

-- ---- rounds

-- a round, the office at its beginning, and those of its commands that were kept
pub record KeptRound : Type 0 where
  pub round : Round
  pub office : Office
  pub kept : List Command

-- the office that is left after a round
abbrev pub left_after : KeptRound → Office
left_after k = (fold k.kept k.office).0

-- the rounds that are kept from this office on, each with the office at its beginning and what was
-- kept of it
abbrev pub kept_rounds : (office : Office) (rounds : List Round) (commands : List Command)
    → AreKept office rounds commands → List KeptRound
kept_rounds office [] commands are = []
kept_rounds office (round ∷ rounds) commands are =
    let kept : List Command = beginning_of are.0 round.given in
    (record { round = round; office = office; kept = kept })
    ∷ kept_rounds (fold kept office).0 rounds are.1 are.7

-- this is the chain of some rounds that are kept from this office on
abbrev pub IsChain : Office → List KeptRound → Type 0
IsChain office chain =
    (rounds : List Round) × (commands : List Command) × (are : AreKept office rounds commands)
    × (chain ≡ kept_rounds office rounds commands are)

-- what was kept of all rounds of a chain, in order
abbrev pub kept_in : List KeptRound → List Command
kept_in = flat_map (λ k. k.kept)

-- the office that is left after the last round of a chain, or this office if there is no round
abbrev pub left_by : Office → List KeptRound → Office
left_by office [] = office
left_by office (k ∷ chain) = left_by (left_after k) chain

-- ---- commands that were replied to

-- a command that was replied to, the office before it, and the reply
pub record Answer : Type 0 where
  pub command : Command
  pub before : Office
  pub reply : Reply

-- the first of the commands with these replies to them, one for each, and the office before each of
-- them: this office before the first
abbrev pub answers : Office → List Command → List Reply → List Answer
answers office [] replies = []
answers office (command ∷ commands) [] = []
answers office (command ∷ commands) (reply ∷ replies) =
    (record { command = command; before = office; reply = reply })
    ∷ answers (take command office).0 commands replies

-- the commands of all rounds of a chain that were replied to, in order
abbrev pub answers_in : List KeptRound → List Answer
answers_in = flat_map (λ k. answers k.office k.round.given k.round.replies)

-- the reply is that a job with so many cards is taken, and the office after the command is the one
-- before it
abbrev pub IsTakenAlready : Answer → ℕ → Type 0
IsTakenAlready it cards = (it.reply ≡ Taken cards) × ((take it.command it.before).0 ≡ it.before)
