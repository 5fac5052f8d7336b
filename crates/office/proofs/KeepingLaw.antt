-- what stays a job
use Rattle.std.proofs.Common.{◌≡◌, ℕ, ◌<◌, List, [], ◌∷◌, length, Option, None, Some, Ok, refl, sym, ap, subst, ◌∙◌, arith}
use Rattle.cards.specs.declared.decks.Card.{Card}
use Rattle.cards.specs.Decks.{IsDeck}
use Rattle.core_store.specs.declared.sizes.Size.{Size}
use Rattle.autocoder_layout.specs.declared.card_faults.CardFault.{CardFault}
use Rattle.loader.specs.Cards.{loading_cards}
use Rattle.loader.specs.Decks.{runnable_deck}
use Rattle.machine.specs.Ranges.{IsInRange}
use Rattle.machine.specs.Run.{State, after, started, loaded}
use Rattle.units.specs.Switches.{seven}
use Rattle.units.specs.declared.profiles.Profile.{Profile}
use Rattle.units.specs.declared.switches.Switches.{Switches}
use Rattle.office.specs.Jobs.{Job, loaded_of, loaded_deck, resumed, all_off, beginning, IsJob}
use Rattle.office.specs.Kept.{kept_of, loaded_kept, summary_of, job_refusal, changed_job, job_unless, job_after, IsJobInRange}
use Rattle.core_store.specs.Storage.{size_numbered}
use Rattle.office.specs.New.{faults_in, refusal_for, deck_refusal, new_job, job_unless_refused, job_of_size, job_or_refusal}
use Rattle.office.specs.declared.commands.Contents.{Contents}
use Rattle.office.specs.declared.commands.Kind.{Kind}
use Rattle.office.specs.declared.commands.Kind.TheVariants.{Object, Autocoder}
use Rattle.office.specs.declared.commands.JobCommand.{JobCommand}
use Rattle.office.specs.declared.commands.JobCommand.TheVariants.{Slice, Start}
use Rattle.office.specs.declared.refusals.Refusal.{Refusal}
use Rattle.office.specs.declared.stretches.Stretch.{Stretch}
use Rattle.office.proofs.CommandLaw.{more_fits_by, halted_by}
use Rattle.office.proofs.GrantLaw.{new_between, sliced, started_between}
use Rattle.office.proofs.StretchLemmas.{seven_are, first_fits, more_fits, one_more_fits}

-- ---- new jobs

no_faults : (faults : List CardFault) (rest : Option Refusal) → refusal_for faults rest ≡ None → faults ≡ []
no_faults [] rest none = refl
no_faults (fault ∷ faults) rest none = absurd (let e = none in cc)

-- a deck that isn't refused has a card, and its source no fault
pub deck_is_good : (kind : Kind) (deck : List Card) → deck_refusal kind deck ≡ None → (0 < length deck) × (faults_in kind deck ≡ [])
deck_is_good kind [] none = absurd (let e = none in cc)
deck_is_good kind (card ∷ cards) none = (omega arith, no_faults (faults_in kind (card ∷ cards)) _ none)

new_is : (size : Size) (contents : Contents) → deck_refusal contents.kind contents.deck ≡ None → IsDeck contents.deck → IsDeck (loaded_of contents.kind contents.deck) → IsJob (new_job size contents)
new_is size contents none deck loaded =
    let good = deck_is_good contents.kind contents.deck none in
    record {
      deck = deck;
      card = good.0;
      faultless = λ is. subst (λ (k : Kind). faults_in k contents.deck ≡ []) is good.1;
      loaded = loaded;
      stretches = first_fits (seven contents.switches) (seven_are contents.switches);
      halts = new_between (new_job size contents) (seven contents.switches);
    }

by_refusal : (size : Size) (contents : Contents) (job : Job) (o : Option Refusal) → deck_refusal contents.kind contents.deck ≡ o → job_unless_refused size contents o ≡ Ok job
    → IsDeck contents.deck → IsDeck (loaded_deck job) → IsJob job
by_refusal size contents job (Some reason) at is deck loaded = absurd (let e = is in cc)
by_refusal size contents job None at is deck loaded =
    let same : new_job size contents ≡ job = cc in
    subst IsJob same (new_is size contents at deck (subst (λ (j : Job). IsDeck (loaded_deck j)) (sym same) loaded))

by_size : (contents : Contents) (job : Job) (o : Option Size) → job_of_size contents o ≡ Ok job → IsDeck contents.deck → IsDeck (loaded_deck job) → IsJob job
by_size contents job None is deck loaded = absurd (let e = is in cc)
by_size contents job (Some size) is deck loaded = by_refusal size contents job (deck_refusal contents.kind contents.deck) refl is deck loaded

pub new_jobs_are : (contents : Contents) (job : Job) → job_or_refusal contents ≡ Ok job → IsDeck contents.deck → IsDeck (loaded_deck job) → IsJob job
new_jobs_are contents job is deck loaded = by_size contents job (size_numbered contents.size) is deck loaded

-- what is handed in and not refused is taken as this job
pub taken_as : (size : Size) (contents : Contents) → size_numbered contents.size ≡ Some size → deck_refusal contents.kind contents.deck ≡ None → job_or_refusal contents ≡ Ok (new_job size contents)
taken_as size contents sized none = ap (job_of_size contents) sized ∙ ap (job_unless_refused size contents) none

-- its machine has loaded the deck and done nothing
pub kept_as : (size : Size) (contents : Contents) (deck : List Card) → deck ≡ loaded_of contents.kind contents.deck
    → loaded_kept deck size contents.switches ≡ kept_of (new_job size contents)
unfolding resumed after
kept_as size contents deck is = ap (λ (d : List Card). loaded_kept d size contents.switches) is

-- ---- after a command

stays : (c : JobCommand) (job : Job) → job_refusal c (summary_of (kept_of job)) ≡ None → IsJob job → IsJob (changed_job c job)
stays (Slice limit) job none it = record {
  deck = it.deck;
  card = it.card;
  faultless = it.faultless;
  loaded = it.loaded;
  stretches = more_fits limit job.stretches it.stretches (more_fits_by limit (summary_of (kept_of job)) none);
  halts = sliced job limit it.halts;
}
stays (Start switches) job none it = record {
  deck = it.deck;
  card = it.card;
  faultless = it.faultless;
  loaded = it.loaded;
  stretches = one_more_fits (seven switches) job.stretches (seven_are switches) it.stretches;
  halts = started_between job (seven switches) it.halts (halted_by switches (kept_of job) none);
}
stays other job none it = record { deck = it.deck; card = it.card; faultless = it.faultless; loaded = it.loaded; stretches = it.stretches; halts = it.halts }

pub jobs_stay : (c : JobCommand) (job : Job) → IsJob job → IsJob (job_after c job)
jobs_stay c job it = go (job_refusal c (summary_of (kept_of job))) refl
  where
    go : (o : Option Refusal) → job_refusal c (summary_of (kept_of job)) ≡ o → IsJob (job_unless c job o)
    go (Some reason) at = it
    go None at = stays c job at it

-- ---- what may be kept

abbrev pub StaysInRange : Type 0
StaysInRange = (m : State) (count : ℕ) → IsInRange m → IsInRange (after m count)

abbrev pub StartsInRange : Type 0
StartsInRange = (m : State) (switches : Switches) → IsInRange m → IsInRange (started m switches)

abbrev pub LoadsInRange : Type 0
LoadsInRange = (deck : List Card) (size : Size) (switches : Switches) (profile : Profile) → 0 < length deck → IsInRange (loaded deck size switches profile)

pub some_loaded : (kind : Kind) (deck : List Card) → 0 < length deck → 0 < length (loaded_of kind deck)
unfolding runnable_deck loading_cards
some_loaded Object deck some = some
some_loaded Autocoder deck some = omega arith

resumed_in_range : StaysInRange → StartsInRange → (m : State) (stretches : List Stretch) → IsInRange m → IsInRange (resumed m stretches)
unfolding resumed
resumed_in_range runs starts m [] it = it
resumed_in_range runs starts m (s ∷ stretches) it =
    resumed_in_range runs starts (after (started m s.switches) s.granted) stretches (runs (started m s.switches) s.granted (starts m s.switches it))

pub jobs_in_range : LoadsInRange → StaysInRange → StartsInRange → (job : Job) → IsJob job → IsJobInRange (kept_of job)
jobs_in_range loads runs starts job it = record {
  stretches = it.stretches;
  machine = resumed_in_range runs starts (beginning job) job.stretches (loads (loaded_deck job) job.size all_off job.profile (some_loaded job.kind job.deck it.card));
}
