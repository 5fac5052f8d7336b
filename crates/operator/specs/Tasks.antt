-- the tasks that arguments ask for
use Rattle.std.specs.Prelude.{ℕ, ◌≡◌, List, [], codes, map, unwrap_or}
use Rattle.clap.specs.Words.{Row, Text, all_of, first_of}
use Rattle.command_line.specs.Arguments.{HasArgument, MayHaveArgument, ReadsIf, ReadsOr, has_flag}
use Rattle.command_line.specs.Programs.{AsksFor, Wish, for_help, for_subcommand, for_version}
use Rattle.operator.specs.Printed.{page_of, version_text}
use Rattle.operator.specs.Subcommands.{operator}
use Rattle.operator.specs.Values.{IsUpTo}
use Rattle.operator.specs.declared.subcommands.Subcommand.{Subcommand}
use Rattle.operator.specs.declared.subcommands.Subcommand.TheVariants as name
use Rattle.operator.specs.declared.tasks.Task.{Task}
use Rattle.operator.specs.declared.tasks.Task.TheVariants.{Show, Check, Jobs, Copy, Part, Join, Archive, Verify, Restore, Work, Watch, Class}
use Rattle.operator.specs.declared.tasks.Rounds.{Rounds}

-- the task of `check`
abbrev pub WantsCheck : List Row → Task → Type 0
WantsCheck found (Check file) = HasArgument (codes "FILE") found file.now
WantsCheck found other = ⊥

-- the task of `jobs`: of all customers where none is given
abbrev pub WantsJobs : List Row → Task → Type 0
WantsJobs found (Jobs file customer) = HasArgument (codes "FILE") found file.now
    × MayHaveArgument (codes "CUSTOMER") found customer
WantsJobs found other = ⊥

-- the task of `copy`
abbrev pub WantsCopy : List Row → Task → Type 0
WantsCopy found (Copy file new) = HasArgument (codes "FILE") found file.now
    × HasArgument (codes "NEW") found new.now
WantsCopy found other = ⊥

-- the task of `part`: of the customers who are named, or with `--others` of all others
abbrev pub WantsPart : List Row → Task → Type 0
WantsPart found (Part file new customers others) = HasArgument (codes "FILE") found file.now
    × HasArgument (codes "NEW") found new.now
    × (map (λ name. name.now) customers.items ≡ unwrap_or (all_of (codes "CUSTOMER") found) [])
    × (others ≡ has_flag (codes "others") found)
WantsPart found other = ⊥

-- the task of `join`
abbrev pub WantsJoin : List Row → Task → Type 0
WantsJoin found (Join first second new) = HasArgument (codes "FIRST") found first.now
    × HasArgument (codes "SECOND") found second.now
    × HasArgument (codes "NEW") found new.now
WantsJoin found other = ⊥

-- the task of `archive`: with `--pages` the pages too
abbrev pub WantsArchive : List Row → Task → Type 0
WantsArchive found (Archive file folder pages) = HasArgument (codes "FILE") found file.now
    × HasArgument (codes "FOLDER") found folder.now
    × (pages ≡ has_flag (codes "pages") found)
WantsArchive found other = ⊥

-- the task of `verify`
abbrev pub WantsVerify : List Row → Task → Type 0
WantsVerify found (Verify folder) = HasArgument (codes "FOLDER") found folder.now
WantsVerify found other = ⊥

-- the task of `restore`
abbrev pub WantsRestore : List Row → Task → Type 0
WantsRestore found (Restore folder new) = HasArgument (codes "FOLDER") found folder.now
    × HasArgument (codes "NEW") found new.now
WantsRestore found other = ⊥

-- this is the port that is given, 1 to 65535
abbrev pub IsPortIn : List Row → ℕ → Type 0
IsPortIn found port = (text : Text) × HasArgument (codes "PORT") found text
    × IsUpTo 65535 text port

-- the rounds that are asked for: slices of 2,000 instructions and a pause of one second, where no
-- others are given
pub record AreRounds (found : List Row) (rounds : Rounds) : Type 0 where
  pub slice : ReadsOr (IsUpTo 2000) 2000 (first_of (codes "slice") found) rounds.slice
  pub most : ReadsIf (IsUpTo 999999999) (first_of (codes "rounds") found) rounds.most
  pub pause : ReadsOr (IsUpTo 3600) 1 (first_of (codes "pause") found) rounds.pause
  pub keeps : rounds.keeps ≡ has_flag (codes "keep") found

-- the task of `work`
abbrev pub WantsWork : List Row → Task → Type 0
WantsWork found (Work port rounds) = IsPortIn found port × AreRounds found rounds
WantsWork found other = ⊥

-- the task of `watch`: five seconds between two requests for the queue, where no others are given
abbrev pub WantsWatch : List Row → Task → Type 0
WantsWatch found (Watch it) = IsPortIn found it.port
    × ReadsIf (IsUpTo 999999999) (first_of (codes "rounds") found) it.rounds
    × ReadsOr (IsUpTo 3600) 5 (first_of (codes "pause") found) it.pause
WantsWatch found other = ⊥

-- the task of `class`: with `--watch` again and again, five seconds between, where no others are
-- given
abbrev pub WantsClass : List Row → Task → Type 0
WantsClass found (Class it) = IsPortIn found it.port
    × HasArgument (codes "NAMES") found it.names.now
    × MayHaveArgument (codes "PAGE") found it.page
    × (it.watches ≡ has_flag (codes "watch") found)
    × ReadsOr (IsUpTo 3600) 5 (first_of (codes "pause") found) it.pause
WantsClass found other = ⊥

-- the task of a subcommand, by what was found after its name
abbrev pub WantsTask : Subcommand → List Row → Task → Type 0
WantsTask name.Check found task = WantsCheck found task
WantsTask name.Jobs found task = WantsJobs found task
WantsTask name.Copy found task = WantsCopy found task
WantsTask name.Part found task = WantsPart found task
WantsTask name.Join found task = WantsJoin found task
WantsTask name.Archive found task = WantsArchive found task
WantsTask name.Verify found task = WantsVerify found task
WantsTask name.Restore found task = WantsRestore found task
WantsTask name.Work found task = WantsWork found task
WantsTask name.Watch found task = WantsWatch found task
WantsTask name.Class found task = WantsClass found task

-- the task of what arguments can ask for
abbrev pub IsTask : Wish Subcommand → Task → Type 0
IsTask (for_help page) (Show text) = text.now ≡ page_of page
IsTask for_version (Show text) = text.now ≡ version_text
IsTask (for_subcommand subcommand found) task = WantsTask subcommand found task
IsTask _ _ = ⊥

-- the arguments ask for this task
abbrev pub Wants : List Text → Task → Type 0
Wants arguments task = (wish : Wish Subcommand) × AsksFor operator arguments wish × IsTask wish task
