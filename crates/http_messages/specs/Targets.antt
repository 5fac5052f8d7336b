-- what a target asks for, by its path and by the texts in it
use Rattle.std.specs.Prelude.{ℕ, ◌≡◌, List, Some, ⊤, if◌then◌else◌, codes}
use Rattle.std.specs.Str.{bytes_eq}
use Rattle.texts.specs.Numbers.{IsNumberOf}
use Rattle.texts.specs.Switches.{AreSwitchesOf}
use Rattle.units.specs.declared.pockets.Pocket.TheVariants.{Normal, Four, Eight}
use Rattle.office.specs.declared.commands.JobCommand.{JobCommand}
use Rattle.office.specs.declared.commands.JobCommand.TheVariants as on
use Rattle.office.specs.declared.stackers.Stacker.{Stacker}
use Rattle.office.specs.declared.stackers.Stacker.TheVariants.{All, Of, Unknown}
use Rattle.http_messages.specs.Parts.{part}
use Rattle.http_messages.specs.Paths.{route_at}
use Rattle.http_messages.specs.declared.routes.Route.TheVariants as route
use Rattle.http_messages.specs.declared.routes.Verb.{Verb}
use Rattle.http_messages.specs.declared.routes.Verb.TheVariants as verb
use Rattle.http_messages.specs.declared.targets.Target.{Target}
use Rattle.http_messages.specs.declared.targets.Target.TheVariants as target
use Rattle.texts.specs.declared.names.JobName.{JobName}

-- the job whose customer and number are in a target
abbrev pub IsJobOf : List ℕ → JobName → Type 0
IsJobOf text job = (job.customer.now ≡ part 2 text) × IsNumberOf (part 4 text) job.number

-- the cards that the text of a pocket asks for: those of pocket 0, 4 or 8, or of none that there is
unfoldable pub stacker_of : List ℕ → Stacker
stacker_of text =
    if bytes_eq text (codes "0") then Of Normal else
    if bytes_eq text (codes "4") then Of Four else
    if bytes_eq text (codes "8") then Of Eight else
    Unknown

-- the command of a verb with the value in this text: a limit for a slice, switches for a start, a
-- pocket for its cards
abbrev pub IsCommandBy : Verb → List ℕ → JobCommand → Type 0
IsCommandBy verb.Slice text (on.Slice limit) = IsNumberOf text limit
IsCommandBy verb.Start text (on.Start switches) = AreSwitchesOf text switches
IsCommandBy verb.Hold text on.Hold = ⊤
IsCommandBy verb.Release text on.Release = ⊤
IsCommandBy verb.Collect text on.Collect = ⊤
IsCommandBy verb.Standing text on.Standing = ⊤
IsCommandBy verb.Cards text (on.Cards from) = from ≡ All
IsCommandBy verb.Pocket text (on.Cards from) = from ≡ stacker_of text
IsCommandBy verb.Lines text on.Lines = ⊤
IsCommandBy v text other = ⊥

-- a target asks for this command on this job, by a verb and its value
abbrev pub AsksOnJob : List ℕ → JobName → JobCommand → Type 0
AsksOnJob text job command =
    (v : Verb) × (route_at text ≡ Some (route.Job v)) × IsJobOf text job
    × IsCommandBy v (part 6 text) command

-- a target asks for this, by its route and the texts in its path
abbrev pub Asks : List ℕ → Target → Type 0
Asks text (target.Submission job kind size switches) =
    (route_at text ≡ Some (route.Submit kind)) × IsJobOf text job × IsNumberOf (part 6 text) size
    × AreSwitchesOf (part 7 text) switches
Asks text (target.Job job command) = AsksOnJob text job command
Asks text (target.Jobs customer) =
    (route_at text ≡ Some route.Jobs) × (customer.now ≡ part 2 text)
Asks text target.Queue = route_at text ≡ Some route.Queue
