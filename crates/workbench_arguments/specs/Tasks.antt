-- the tasks that arguments ask for
use Rattle.std.specs.Prelude.{ℕ, ◌≡◌, Bool, false, true, List, [], Option, None, codes, decimal, map, unwrap_or}
use Rattle.clap.specs.Words.{Row, Text, all_of, first_of}
use Rattle.core_store.specs.Storage.{positions_of}
use Rattle.units.specs.Switches.{AreSeven}
use Rattle.texts.specs.Switches.{text_of}
use Rattle.card_forms.specs.Forms.{word_of}
use Rattle.card_forms.specs.declared.forms.Form.{Form}
use Rattle.card_texts.specs.declared.Rules.{Rules}
use Rattle.card_texts.specs.declared.Signs.{Signs}
use Rattle.card_texts.specs.declared.Signs.TheVariants.{Bureau}
use Rattle.card_texts.specs.declared.EmptyLine as line
use Rattle.card_texts.specs.declared.EmptyLine.TheVariants as empty
use Rattle.command_line.specs.Arguments.{HasArgument, MayHaveArgument, ReadsIf, ReadsOr, has_flag}
use Rattle.command_line.specs.Programs.{AsksFor, Wish, for_help, for_subcommand, for_version}
use Rattle.workbench_arguments.specs.Printed.{page_of, version_text}
use Rattle.workbench_arguments.specs.Subcommands.{workbench}
use Rattle.workbench_arguments.specs.Values.{AreStops, IsColumn, IsCount, IsNumeral, word_of_empty, word_of_signs, word_of_width}
use Rattle.workbench_arguments.specs.declared.subcommands.Subcommand.{Subcommand}
use Rattle.workbench_arguments.specs.declared.subcommands.Subcommand.TheVariants as name
use Rattle.workbench_arguments.specs.declared.tasks.Ends.{Ends}
use Rattle.workbench_arguments.specs.declared.tasks.Ends.TheVariants.{Places, Numbers}
use Rattle.workbench_arguments.specs.declared.tasks.Setup.{Setup}
use Rattle.workbench_arguments.specs.declared.tasks.Task.{Task}
use Rattle.workbench_arguments.specs.declared.tasks.Task.TheVariants.{Show, Punch, List as ListCards, Compare, Convert, Cut, Number, CheckNumbers, Source, Manifest, Trace, Dump, Profile, Console, Card, Deck, Pages, Page, Film, Code, Intake}

-- these are the columns of `--tabs`, or none where it is not given
abbrev pub HasTabs : List Row → List ℕ → Type 0
HasTabs found tabs = ReadsOr AreStops [] (first_of (codes "tabs") found) tabs

-- this is the table of `--signs`, or that of a deck text where it is not given
abbrev pub HasSigns : List Row → Signs → Type 0
HasSigns found signs =
    ReadsOr (λ argument signs. argument ≡ word_of_signs signs) Bureau (first_of (codes "signs") found) signs

-- this is the table that `--signs` names, if it is given
abbrev pub NamesSigns : List Row → Option Signs → Type 0
NamesSigns found named =
    ReadsIf (λ argument signs. argument ≡ word_of_signs signs) (first_of (codes "signs") found) named

-- this is the column of `--keep`, 1 to 80, if it is given
abbrev pub HasKept : List Row → Option ℕ → Type 0
HasKept found keeps = ReadsIf IsColumn (first_of (codes "keep") found) keeps

-- this is what an empty line is by `--empty`, or a card where it is not given
abbrev pub HasEmpty : List Row → line.EmptyLine → Type 0
HasEmpty found is = ReadsOr (λ argument is. argument ≡ word_of_empty is) empty.Card
    (first_of (codes "empty") found) is

-- the rules of `punch`, by what was found
pub record AreRulesOf (found : List Row) (rules : Rules) : Type 0 where
  pub folds : rules.folds ≡ has_flag (codes "fold") found
  pub tabs : HasTabs found rules.tabs.items
  pub signs : HasSigns found rules.signs
  pub keeps : HasKept found rules.keeps
  pub empty : HasEmpty found rules.empty

-- the task of `punch`, by what was found
abbrev pub WantsPunch : List Row → Task → Type 0
WantsPunch found (Punch it) = HasArgument (codes "IN") found it.text.now
    × HasArgument (codes "OUT") found it.out.now × AreRulesOf found it.rules
    × (it.reports ≡ has_flag (codes "report") found)
WantsPunch found other = ⊥

-- the task of `intake`: the rules of `punch`, and the table that is named, if one is
abbrev pub WantsIntake : List Row → Task → Type 0
WantsIntake found (Intake it) = HasArgument (codes "FOLDER") found it.folder.now
    × HasArgument (codes "OUT") found it.out.now × AreRulesOf found it.rules
    × NamesSigns found it.named
WantsIntake found other = ⊥

-- the task of `list`
abbrev pub WantsList : List Row → Task → Type 0
WantsList found (ListCards it) = HasArgument (codes "DECK") found it.deck.now
    × (it.ruler ≡ has_flag (codes "ruler") found)
    × (it.punches ≡ has_flag (codes "punches") found)
WantsList found other = ⊥

-- the task of `compare`
abbrev pub WantsCompare : List Row → Task → Type 0
WantsCompare found (Compare one other) =
    HasArgument (codes "ONE") found one.now × HasArgument (codes "OTHER") found other.now
WantsCompare found task = ⊥

-- this is the number of an argument
pub record WantsNumber (id : Text) (found : List Row) (number : ℕ) : Type 0 where
  pub text : Text
  pub given : HasArgument id found text
  pub is : IsNumeral text number

-- the task of `sequence`: a numbering where all of its values are given, or with IN alone a check
abbrev pub WantsSequence : List Row → Task → Type 0
WantsSequence found (Number it) = HasArgument (codes "IN") found it.deck.now
    × HasArgument (codes "OUT") found it.out.now × HasArgument (codes "IDENT") found it.ident.now
    × WantsNumber (codes "FIRST") found it.first × WantsNumber (codes "STEP") found it.step
WantsSequence found (CheckNumbers deck) =
    HasArgument (codes "IN") found deck.now × (first_of (codes "OUT") found ≡ None)
WantsSequence found other = ⊥

-- the task of `convert`
abbrev pub WantsConvert : List Row → Task → Type 0
WantsConvert found (Convert deck out reads writes) = HasArgument (codes "IN") found deck.now
    × HasArgument (codes "OUT") found out.now × HasArgument (codes "FROM") found (word_of reads)
    × HasArgument (codes "TO") found (word_of writes)
WantsConvert found other = ⊥

-- these are the first and the last card of a part: their places, or by `--numbers` what stands on
-- them
abbrev pub HasEnds : List Row → Ends → Type 0
HasEnds found (Places first last) = WantsNumber (codes "FIRST") found first
    × WantsNumber (codes "LAST") found last × (has_flag (codes "numbers") found ≡ false)
HasEnds found (Numbers first last) = HasArgument (codes "FIRST") found first.now
    × HasArgument (codes "LAST") found last.now × (has_flag (codes "numbers") found ≡ true)

-- the task of `cut`
abbrev pub WantsCut : List Row → Task → Type 0
WantsCut found (Cut it) = HasArgument (codes "IN") found it.deck.now
    × HasArgument (codes "OUT") found it.out.now × HasEnds found it.ends
WantsCut found other = ⊥

-- this is whether `--width` asks for 80 columns; without it the listing has 120 and more
abbrev pub IsNarrow : List Row → Bool → Type 0
IsNarrow found narrow =
    ReadsOr (λ argument is. argument ≡ word_of_width is) false (first_of (codes "width") found) narrow

-- the task of `source`
abbrev pub WantsSource : List Row → Task → Type 0
WantsSource found (Source source narrow with_data) = HasArgument (codes "IN") found source.now
    × IsNarrow found narrow × (with_data ≡ has_flag (codes "data") found)
WantsSource found other = ⊥

-- this is the form that `--form` names, if it is given
abbrev pub HasForm : List Row → Option Form → Type 0
HasForm found form = ReadsIf (λ argument form. argument ≡ word_of form) (first_of (codes "form") found) form

-- the task of `manifest`
abbrev pub WantsManifest : List Row → Task → Type 0
WantsManifest found (Manifest it) =
    (map (λ deck. deck.now) it.decks.items ≡ unwrap_or (all_of (codes "FILE") found) [])
    × HasForm found it.form × (it.counts ≡ has_flag (codes "cards") found)
    × MayHaveArgument (codes "check") found it.known
WantsManifest found other = ⊥

-- this is what a machine begins with: the file of its deck or source in an argument, and the size
-- and the switches that `bureau run` has
pub record IsSetup (id : Text) (found : List Row) (setup : Setup) : Type 0 where
  pub input : HasArgument id found setup.input.now
  pub size : HasArgument (codes "SIZE") found (decimal (positions_of setup.size))
  pub seven : AreSeven setup.switches
  pub switches : HasArgument (codes "SWITCHES") found (text_of setup.switches)

-- this is the number of an option, or this other one where it is not given
abbrev pub HasNumber : Text → ℕ → List Row → ℕ → Type 0
HasNumber id other found number = ReadsOr IsNumeral other (first_of id found) number

-- the same of one that may be 0
abbrev pub HasCount : Text → ℕ → List Row → ℕ → Type 0
HasCount id other found number = ReadsOr IsCount other (first_of id found) number

-- the task of `trace`: without `--from` and `--count` the instructions 1 to 1,000
abbrev pub WantsTrace : List Row → Task → Type 0
WantsTrace found (Trace it) = IsSetup (codes "DECK") found it.setup
    × HasNumber (codes "from") 1 found it.from × HasCount (codes "count") 1000 found it.count
    × MayHaveArgument (codes "stop") found it.stop × MayHaveArgument (codes "names") found it.names
    × (it.fields ≡ has_flag (codes "fields") found)
WantsTrace found other = ⊥

-- this is the number of an option that may be 0, if it is given
abbrev pub GivesCount : Text → List Row → Option ℕ → Type 0
GivesCount id found count = ReadsIf IsCount (first_of id found) count

-- the same of one that may not be 0
abbrev pub GivesNumber : Text → List Row → Option ℕ → Type 0
GivesNumber id found number = ReadsIf IsNumeral (first_of id found) number

-- the task of `dump`
abbrev pub WantsDump : List Row → Task → Type 0
WantsDump found (Dump it) = IsSetup (codes "DECK") found it.setup
    × GivesCount (codes "after") found it.after
    × MayHaveArgument (codes "stop") found it.stop
    × GivesCount (codes "first") found it.first × GivesNumber (codes "last") found it.last
WantsDump found other = ⊥

-- the task of `profile`
abbrev pub WantsProfile : List Row → Task → Type 0
WantsProfile found (Profile setup names) =
    IsSetup (codes "DECK") found setup × MayHaveArgument (codes "names") found names
WantsProfile found other = ⊥

-- the task of `console`
abbrev pub WantsConsole : List Row → Task → Type 0
WantsConsole found (Console setup names) =
    IsSetup (codes "DECK") found setup × MayHaveArgument (codes "names") found names
WantsConsole found other = ⊥

-- the task of `card`
abbrev pub WantsCard : List Row → Task → Type 0
WantsCard found (Card deck number out) = HasArgument (codes "DECK") found deck.now
    × WantsNumber (codes "N") found number × HasArgument (codes "OUT") found out.now
WantsCard found other = ⊥

-- the task of `deck`
abbrev pub WantsDeck : List Row → Task → Type 0
WantsDeck found (Deck deck out title) =
    HasArgument (codes "DECK") found deck.now × HasArgument (codes "OUT") found out.now
    × MayHaveArgument (codes "title") found title
WantsDeck found other = ⊥

-- the task of `pages`
abbrev pub WantsPages : List Row → Task → Type 0
WantsPages found (Pages listing out title) =
    HasArgument (codes "LISTING") found listing.now × HasArgument (codes "OUT") found out.now
    × MayHaveArgument (codes "title") found title
WantsPages found other = ⊥

-- the task of `page`
abbrev pub WantsPage : List Row → Task → Type 0
WantsPage found (Page setup out title) =
    IsSetup (codes "SOURCE") found setup × HasArgument (codes "OUT") found out.now
    × MayHaveArgument (codes "title") found title
WantsPage found other = ⊥

-- the task of `film`: without `--from` and `--count` the instructions 1 to 2,000
abbrev pub WantsFilm : List Row → Task → Type 0
WantsFilm found (Film it) = IsSetup (codes "DECK") found it.setup
    × HasArgument (codes "OUT") found it.out.now × MayHaveArgument (codes "names") found it.names
    × HasNumber (codes "from") 1 found it.from × GivesNumber (codes "last") found it.last
    × HasCount (codes "count") 2000 found it.count × MayHaveArgument (codes "title") found it.title
WantsFilm found other = ⊥

-- the task of `code`
abbrev pub WantsCode : List Row → Task → Type 0
WantsCode found (Code it) = HasArgument (codes "DECK") found it.deck.now
    × HasArgument (codes "SIZE") found (decimal (positions_of it.size))
    × MayHaveArgument (codes "OUT") found it.out × MayHaveArgument (codes "names") found it.names
    × GivesCount (codes "after") found it.after × (it.runs ≡ has_flag (codes "run") found)
    × (it.numbers ≡ has_flag (codes "numbers") found)
WantsCode found other = ⊥

-- the task of a subcommand, by what was found after its name
abbrev pub WantsTask : Subcommand → List Row → Task → Type 0
WantsTask name.Punch found task = WantsPunch found task
WantsTask name.List found task = WantsList found task
WantsTask name.Compare found task = WantsCompare found task
WantsTask name.Sequence found task = WantsSequence found task
WantsTask name.Source found task = WantsSource found task
WantsTask name.Manifest found task = WantsManifest found task
WantsTask name.Convert found task = WantsConvert found task
WantsTask name.Cut found task = WantsCut found task
WantsTask name.Intake found task = WantsIntake found task
WantsTask name.Trace found task = WantsTrace found task
WantsTask name.Dump found task = WantsDump found task
WantsTask name.Profile found task = WantsProfile found task
WantsTask name.Console found task = WantsConsole found task
WantsTask name.Card found task = WantsCard found task
WantsTask name.Deck found task = WantsDeck found task
WantsTask name.Pages found task = WantsPages found task
WantsTask name.Page found task = WantsPage found task
WantsTask name.Film found task = WantsFilm found task
WantsTask name.Code found task = WantsCode found task

-- the task of what arguments can ask for
abbrev pub IsTask : Wish Subcommand → Task → Type 0
IsTask (for_help page) (Show text) = text.now ≡ page_of page
IsTask for_version (Show text) = text.now ≡ version_text
IsTask (for_subcommand subcommand found) task = WantsTask subcommand found task
IsTask _ _ = ⊥

-- the arguments ask for this task
abbrev pub Wants : List Text → Task → Type 0
Wants arguments task = (wish : Wish Subcommand) × AsksFor workbench arguments wish × IsTask wish task
