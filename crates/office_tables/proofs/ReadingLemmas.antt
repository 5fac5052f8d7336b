-- What is read back of a job.
use Rattle.std.proofs.Common.{◌≡◌, ◌<◌, ◌-◌, ◌%◌, ℕ, zero, suc, List, [], ◌∷◌, length, get_or, Option, Some, Result, Ok, IfOk, refl, sym, ap, subst, ◌∙◌, arith}
use Rattle.std.specs.List.{All, AllByRecursion}
use Rattle.std.proofs.lemmas.List.Elements.{recursion_from_All}
use Rattle.cards.specs.Decks.{IsDeck}
use Rattle.machine.specs.Run.{State, first_card, started, after}
use Rattle.core_store.specs.Storage.{positions_of}
use Rattle.machine.proofs.Steps.{length-loaded, stems_after, stems_same}
use Rattle.office.specs.Jobs.{Job, resumed, beginning, picture, loaded_deck, HasSwitches, IsJob}
use Rattle.office.specs.New.{job_or_refusal}
use Rattle.office.specs.declared.commands.Contents.{Contents}
use Rattle.office.specs.declared.stretches.Stretch.{Stretch}
use Rattle.ledger_rows.proofs.FromCellsRows.{AreTold}
use Rattle.ledger_tables.specs.declared.rows.StretchRow.{StretchRow}
use Rattle.units.specs.Stacked.{IsPlain}
use Rattle.units.specs.Switches.{seven, AreSeven}
use Rattle.units.specs.Units.{nothing_made}
use Rattle.units.specs.declared.profiles.Profile.TheVariants.{Plain}
use Rattle.units.specs.declared.switches.Switches.{Switches}
use Rattle.office_tables.specs.Standing.{stretch_row}

-- what is known of new jobs
abbrev pub NewAreJobs : Type 0
NewAreJobs = (contents : Contents) (job : Job) → job_or_refusal contents ≡ Ok job → IsDeck contents.deck → IsDeck (loaded_deck job) → IsJob job

-- rows of stretches tell one stretch from another
pub stretches_told : AreTold stretch_row HasSwitches
stretches_told s t is_s is_t same = ap (λ (r : StretchRow). let x : Stretch = record { switches = record { 0 = r.switches }; granted = r.granted } in x) same

-- a set of the seven is as it is
seven_same : (s : Switches) → AreSeven s → seven s ≡ s
seven_same s are =
    let same : s.0 % 128 ≡ s.0 = omega arith in
    ap (λ n. let t : Switches = record { 0 = n } in t) same

-- a machine keeps its deck through all its stretches
module _ (law : (m : State) (count : ℕ) → (after m count).works.units.hopper.deck ≡ m.works.units.hopper.deck) where
  resumed_deck : (m : State) (stretches : List Stretch) → (resumed m stretches).works.units.hopper.deck ≡ m.works.units.hopper.deck
  unfolding resumed
  resumed_deck m [] = refl
  resumed_deck m (s ∷ stretches) = resumed_deck (after (started m s.switches) s.granted) stretches ∙ law (started m s.switches) s.granted

  pub picture_deck : (job : Job) → (picture job).works.units.hopper.deck ≡ loaded_deck job
  picture_deck job = resumed_deck _ job.stretches

-- and its size
module _ (law : (m : State) (count : ℕ) → length (after m count).works.storage ≡ length m.works.storage) where
  resumed_size : (m : State) (stretches : List Stretch) → length (resumed m stretches).works.storage ≡ length m.works.storage
  unfolding resumed
  resumed_size m [] = refl
  resumed_size m (s ∷ stretches) = resumed_size (after (started m s.switches) s.granted) stretches ∙ law (started m s.switches) s.granted

  pub picture_size : (job : Job) → length (picture job).works.storage ≡ positions_of job.size
  picture_size job = resumed_size (beginning job) job.stretches ∙ length-loaded _ job.size (first_card (loaded_deck job)) refl

-- and its switches are those of the last one
module _ (law : (m : State) (count : ℕ) → (after m count).works.units.switches ≡ m.works.units.switches) where
  resumed_switches : (m : State) (stretches : List Stretch) (n : ℕ) (last : Stretch) → AllByRecursion HasSwitches stretches → suc n ≡ length stretches → last ≡ get_or stretches n last → (resumed m stretches).works.units.switches ≡ last.switches
  unfolding resumed
  resumed_switches m [] n last all some is = absurd (omega (arith, some))
  resumed_switches m (s ∷ []) zero last all some is = law (started m s.switches) s.granted ∙ seven_same s.switches all.0 ∙ ap (λ (x : Stretch). x.switches) (sym is)
  resumed_switches m (s ∷ []) (suc n) last all some is = absurd (omega (arith, some))
  resumed_switches m (s ∷ t ∷ rest) zero last all some is = absurd (omega (arith, some))
  resumed_switches m (s ∷ t ∷ rest) (suc n) last all some is = resumed_switches (after (started m s.switches) s.granted) (t ∷ rest) n last all.1 (omega (arith, some)) is

  pub picture_switches : (job : Job) (last : Stretch) → All HasSwitches job.stretches → 0 < length job.stretches → last ≡ get_or job.stretches (length job.stretches - 1) last → (picture job).works.units.switches ≡ last.switches
  picture_switches job last all some is = resumed_switches _ job.stretches (length job.stretches - 1) last (recursion_from_All HasSwitches job.stretches all) (omega (arith, some)) is

-- and it has all that it has made itself
resumed_before : (m : State) (stretches : List Stretch) → (resumed m stretches).works.units.before ≡ m.works.units.before
unfolding resumed
resumed_before m [] = refl
resumed_before m (s ∷ stretches) =
    let now = started m s.switches in
    resumed_before (after now s.granted) stretches ∙ (stems_after now now s.granted (stems_same now)).before

pub picture_before : (job : Job) → (picture job).works.units.before ≡ nothing_made
picture_before job = resumed_before (beginning job) job.stretches

-- and it has the job's profile
resumed_profile : (m : State) (stretches : List Stretch) → (resumed m stretches).works.units.punch.profile ≡ m.works.units.punch.profile
unfolding resumed
resumed_profile m [] = refl
resumed_profile m (s ∷ stretches) =
    let now = started m s.switches in
    resumed_profile (after now s.granted) stretches ∙ (stems_after now now s.granted (stems_same now)).punch.profile

pub picture_profile : (job : Job) → (picture job).works.units.punch.profile ≡ job.profile
picture_profile job = resumed_profile (beginning job) job.stretches

-- and without stacker selection it has chosen no pocket
resumed_plain : (m : State) (stretches : List Stretch) → IsPlain m.works.units.punch → IsPlain (resumed m stretches).works.units.punch
unfolding resumed
resumed_plain m [] it = it
resumed_plain m (s ∷ stretches) it =
    let now = started m s.switches in
    resumed_plain (after now s.granted) stretches ((stems_after now now s.granted (stems_same now)).punch.plain it)

pub picture_plain : (job : Job) → job.profile ≡ Plain → IsPlain (picture job).works.units.punch
picture_plain job is = resumed_plain (beginning job) job.stretches (record { profile = is; chosen = refl; cards = λ k d less. absurd (omega (arith, less)) })

pub some_is : {X : Type 0} {x y : X} → ◌≡◌ {A = Option X} (Some x) (Some y) → x ≡ y
some_is e = cc

-- what holds of what was read holds of what was told
pub ok_is : {X E : Type 0} (P : X → Type 0) (x : X) (r : Result X E) → r ≡ Ok x → IfOk r P → P x
ok_is P x r is h = subst (λ q. IfOk q P) is h
