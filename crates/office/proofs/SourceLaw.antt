-- jobs whose deck is a source
use Rattle.std.proofs.Common.{◌≡◌, ℕ, ◌≤◌, List, [], ◌∷◌, ◌++◌, sym, subst, arith}
use Rattle.std.proofs.Math.Logic.{◌↔◌}
use Rattle.std.specs.List.{AllByRecursion}
use Rattle.cards.specs.declared.decks.Card.{Card}
use Rattle.core_store.specs.Storage.{positions_of}
use Rattle.core_store.specs.declared.sizes.Size.{Size}
use Rattle.autocoder_layout.specs.declared.cells.Cell.{Cell}
use Rattle.autocoder.specs.Loadable.{IsLoadable}
use Rattle.loader.specs.Cards.{loading_cards}
use Rattle.loader.specs.Loading.{at_the_start}
use Rattle.machine.specs.Run.{loaded, lines_of}
use Rattle.units.specs.declared.printer.Line.{Line}
use Rattle.units.specs.declared.profiles.Profile.{Profile}
use Rattle.units.specs.declared.punch.Punched.{Punched}
use Rattle.units.specs.declared.switches.Switches.{Switches}
use Rattle.autocoder_layout.specs.Source.{source_of}
use Rattle.autocoder.specs.Programs.{IsFaultless, size_for}
use Rattle.office.specs.declared.commands.Kind.{Kind}
use Rattle.office.specs.declared.commands.Kind.TheVariants.{Autocoder}
use Rattle.autocoder.specs.Programs.{image_for, start_for}
use Rattle.loader.specs.Decks.{data_of, runnable_deck}
use Rattle.office.specs.Jobs.{Job, loaded_of, deck_begun, program_begun, picture, switches_of, HaltsBetween, IsAtHalt, HasRunWhole, CanRunItsSource, RunsWhole}
use Rattle.office.specs.Whole.{Whole}

-- what a machine of the program's size can take a larger one can
wider : (size larger : ℕ) (image : List Cell) (start : ℕ) → size ≤ larger → IsLoadable size image start → IsLoadable larger image start
wider size larger image start fits loadable =
    record { free = loadable.free; inside = λ k d lt. omega (arith, loadable.inside k d lt); start = omega (arith, loadable.start) }

-- what is known of programs and of sources
abbrev pub RunFromTheirStart : Type 0
RunFromTheirStart = (size : Size) (image : List Cell) (start : ℕ) (data_cards : List Card) (profile : Profile) (starts : List Switches) (cards : List Punched) (lines : List Line) → IsLoadable (positions_of size) image start →
    Whole (λ switches. loaded (loading_cards image start ++ data_cards) size switches profile) starts cards lines
    ↔ Whole (λ switches. at_the_start image start data_cards size switches profile) starts cards lines

abbrev pub CanBeLoaded : Type 0
CanBeLoaded = (source : List Card) → IsFaultless source → IsLoadable (size_for source) (image_for source) (start_for source)

-- whole runs from the load button and from the start of the program
source_alike : RunFromTheirStart → CanBeLoaded → (kind : Kind) (deck : List Card) (size : Size) (profile : Profile) (starts : List Switches) (cards : List Punched) (lines : List Line) →
    kind ≡ Autocoder → IsFaultless (source_of deck) → size_for (source_of deck) ≤ positions_of size →
    Whole (λ switches. loaded (loaded_of kind deck) size switches profile) starts cards lines ↔ Whole (program_begun deck size profile) starts cards lines
unfolding runnable_deck
source_alike from_start loadable kind deck size profile starts cards lines is faultless fits =
    let source : List Card = source_of deck in
    let large : IsLoadable (positions_of size) (image_for source) (start_for source) = wider (size_for source) (positions_of size) (image_for source) (start_for source) fits (loadable source faultless) in
    subst (λ k. Whole (λ switches. loaded (loaded_of k deck) size switches profile) starts cards lines ↔ Whole (program_begun deck size profile) starts cards lines) (sym is)
    (from_start size (image_for source) (start_for source) (data_of deck) profile starts cards lines large)

pub source_run_whole : RunFromTheirStart → CanBeLoaded → (job : Job) → CanRunItsSource job → HasRunWhole (deck_begun job) job → HasRunWhole (program_begun job.deck job.size job.profile) job
source_run_whole from_start loadable job can run =
    let alike = λ (cards : List Punched) (lines : List Line). source_alike from_start loadable job.kind job.deck job.size job.profile (switches_of job) cards lines can.kind can.faultless can.large in
    record {
      holds = (alike (picture job).works.units.punch.cards (lines_of (picture job))).0 run.holds;
      only = λ cards lines whole. run.only cards lines ((alike cards lines).1 whole);
    }

-- ---- all jobs of an office

each_runs_whole : ((job : Job) → HaltsBetween job → RunsWhole job) → (jobs : List Job) → AllByRecursion HaltsBetween jobs → AllByRecursion RunsWhole jobs
each_runs_whole one [] all = all
each_runs_whole one (job ∷ jobs) all = (one job all.0, each_runs_whole one jobs all.1)

pub all_run_whole : ((job : Job) → HaltsBetween job → IsAtHalt job → HasRunWhole (deck_begun job) job) →
    ((job : Job) → CanRunItsSource job → HaltsBetween job → IsAtHalt job → HasRunWhole (program_begun job.deck job.size job.profile) job) →
    (jobs : List Job) → AllByRecursion HaltsBetween jobs → AllByRecursion RunsWhole jobs
all_run_whole whole by_source = each_runs_whole (λ job between halted. (whole job between halted, λ can. by_source job can between halted))
