-- what a customer sees, however often the bureau stops
use Rattle.std.specs.Prelude.{◌≡◌, ◌≤◌, ◌+◌, ℕ, pos, List, [], ◌∷◌, ◌++◌, map, length, take as beginning_of, ⊤}
use Rattle.std.specs.List.{AllByRecursion}
use Rattle.office.specs.Jobs.{Job, RunsWhole}
use Rattle.office.specs.Office.{Entry, Office, fold}
use Rattle.office.specs.declared.commands.Command.{Command}
use Rattle.office.specs.declared.replies.Reply.{Reply}
use Rattle.sqlite.specs.Effect.{Database, IsDatabase}
use Rattle.sqlite.specs.Files.{HoldsDatabase}
use Rattle.sqlite.specs.Recovery.{Image}
use Rattle.sqlite.specs.declared.types.Value.TheVariants.{Int}
use Rattle.ledger_tables.specs.Schema.{own_version}
use Rattle.ledger_tables.specs.Versions.{IsBureaus, versions_in}
use Rattle.ledger_files.specs.Migrating.{MigratesTo}
use Rattle.ledger_files.specs.Rounds.{LeadsBy}
use Rattle.ledger_files.specs.Unfinished.{HoldSame}

-- ---- what a customer sees

-- a round: the commands that were carried out, the replies to them, and the two files that were
-- left, by a stop or by an orderly end
pub record Round : Type 0 where
  pub given : List Command
  pub replies : List Reply
  pub files : Image

-- from this office on, the commands are made of a beginning of each round's commands, one after the
-- other, that holds every one that was replied to, and each round's replies are those of the office
-- at its beginning to its commands, to all or to all but the last
abbrev pub AreKept : Office → List Round → List Command → Type 0
AreKept office [] commands = commands ≡ []
AreKept office (round ∷ rounds) commands =
    let replied = length round.replies in
    (taken : ℕ) × (rest : List Command) × (replied ≤ taken) × (taken ≤ length round.given)
    × (round.replies ≡ (fold (beginning_of replied round.given) office).1)
    × (commands ≡ beginning_of taken round.given ++ rest)
    × (length round.given ≤ replied + 1)
    × AreKept (fold (beginning_of taken round.given) office).0 rounds rest

-- the jobs of an office
abbrev pub jobs_in : Office → List Job
jobs_in office = map (λ (e : Entry). e.job) office

-- from this office on, the replies of all rounds are those of one history, which contains every
-- command that was replied to; and each job that stands at a halt after it has made the cards and
-- lines of one whole run, and no others
abbrev pub IsOneHistory : Office → List Round → Type 0
IsOneHistory office rounds = ∥ ((commands : List Command) × AreKept office rounds commands
    × AllByRecursion RunsWhole (jobs_in (fold commands office).0)) ∥₁

-- ---- what the code establishes

-- what was done with a bureau's files, which left these: a round of work; a migration, whether it
-- came to its end or failed; or an open that failed
pub data Link : Type 0 where
  worked : Round → Link
  migrated : Image → Link
  refused : Image → Link

-- the rounds of work among the links
abbrev pub rounds_of : List Link → List Round
rounds_of [] = []
rounds_of (worked round ∷ links) = round ∷ rounds_of links
rounds_of (migrated files ∷ links) = rounds_of links
rounds_of (refused files ∷ links) = rounds_of links

-- whatever bureau's database the two files hold, it is of this program's version alone
abbrev pub IsOwn : Image → Type 0
IsOwn files = (db : Database) → HoldsDatabase files db.trees → IsDatabase db
    → IsBureaus db.schema → versions_in db ≡ Int (pos own_version) ∷ []

-- from each link's files to the next. Before a round of work the files were found to be of this
-- program's version; if they represent an office, the round's replies are that office's to its
-- commands, to all or to all but the last, and the round's files represent the office after a
-- beginning of its commands that holds every one that was replied to. After a migration the files
-- are of the same office, in the version that they had or in this program's. After an open that
-- failed they hold the database that they held
abbrev pub AreLinks : Image → List Link → Type 0
AreLinks first [] = ⊤
AreLinks first (worked round ∷ links) =
    IsOwn first × (length round.given ≤ length round.replies + 1)
    × LeadsBy round.given round.replies first round.files × AreLinks round.files links
AreLinks first (migrated files ∷ links) = MigratesTo first files × AreLinks files links
AreLinks first (refused files ∷ links) = HoldSame first files × AreLinks files links
