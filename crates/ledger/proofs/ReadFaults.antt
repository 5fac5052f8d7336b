-- Why a read of an office's tables fails: its rows can be read, so the database failed.
use Rattle.std.proofs.Common.{◌≡◌, ◌⊎◌, inl, inr, ◌+◌, ◌<◌, ◌^◌, ℕ, nat_lt, Bool, true, false, if◌then◌else◌, List, [], ◌∷◌, length, map, slice_get, All, Option, Some, None, IsSome, IsTrue, Result, Err, IfErr, refl, sym, subst, ◌∙◌, arith}
use Rattle.std.specs.List.{AllByRecursion}
use Rattle.std.specs.Option.{option_map, option_to_list}
use Rattle.std.proofs.lemmas.Bool.{cases_Bool}
use Rattle.std.proofs.lemmas.Bool.Decides.{nat_tests}
use Rattle.std.proofs.lemmas.Option.{slice_get_cases}
use Rattle.std.proofs.lemmas.List.Elements.{recursion_from_All}
use Rattle.std.proofs.lemmas.List.Sums.{sum_by-cons}
use Rattle.cards.specs.Decks.{IsDeck}
use Rattle.core_store.specs.Pages.{page_count}
use Rattle.core_store.specs.Storage.{Storage, positions_of}
use Rattle.core_store.specs.declared.registers.Compared.{Compared}
use Rattle.core_store.specs.declared.registers.Compared.TheVariants.{Equal, Low, High}
use Rattle.core_store.specs.declared.checks.Check.TheVariants.{Address, Instruction, Data, Overlap, ReaderEmpty, PunchFull, PrinterFull}
use Rattle.core_store.specs.declared.sizes.Size.{Size}
use Rattle.core_store.proofs.SizeLemmas.{within}
use Rattle.machine.specs.Ranges.{HasSize, IsInRange}
use Rattle.machine.specs.Run.{State as Machine}
use Rattle.machine.specs.declared.standings.Standing.{Standing}
use Rattle.machine.specs.declared.standings.Standing.TheVariants.{Running, Halted, Checked}
use Rattle.units.specs.Pockets.{pocket_number}
use Rattle.units.specs.Ranges.{AreRising, IsOnForm, carriage_place, line_place, places_then, the_top}
use Rattle.units.specs.declared.carriage.Carriage.{Carriage}
use Rattle.units.specs.declared.carriage.Motion.{Motion}
use Rattle.units.specs.declared.carriage.Motion.TheVariants.{Space, DoubleSpace, TripleSpace, SkipToChannel1}
use Rattle.units.specs.declared.pockets.Pocket.{Pocket}
use Rattle.units.specs.declared.pockets.Pocket.TheVariants.{Normal, Four, Eight}
use Rattle.units.specs.declared.printer.Line.{Line}
use Rattle.units.specs.declared.profiles.Profile.{Profile}
use Rattle.units.specs.declared.profiles.Profile.TheVariants.{Plain, Selecting}
use Rattle.office.specs.Jobs.{Job, HasSwitches, granted, picture}
use Rattle.office.specs.Office.{Office, job_of}
use Rattle.office.specs.declared.commands.Kind.{Kind}
use Rattle.office.specs.declared.commands.Kind.TheVariants.{Object, Autocoder}
use Rattle.office.specs.declared.stretches.Stretch.{Stretch}
use Rattle.sqlite.specs.Order.{Row}
use Rattle.sqlite.specs.State.{State, HasCleanDisk, Survives}
use Rattle.sqlite_disk.specs.Disk.{MoreFaults}
use Rattle.machine.specs.Numbers.{compare_number, standing_number, waiting_number}
use Rattle.ledger_rows.specs.Columns.{profile_number, state_row, truth}
use Rattle.ledger_rows.specs.Pages.{page_bytes, rows_of}
use Rattle.ledger_tables.specs.Cells.{JobCells, LoadedCells, unless_blank}
use Rattle.ledger_tables.specs.Listed.{loaded_row}
use Rattle.ledger_tables.specs.Named.{HaveNumbers}
use Rattle.ledger_tables.specs.Reading.{AreReadable, CanRead}
use Rattle.ledger_tables.specs.Shown.{shown_job, shown_loaded, shown_profile, shown_state, shown_stretch}
use Rattle.ledger_tables.specs.Steps.{HasFailed}
use Rattle.ledger_tables.specs.Tables.{NamedJob, job_named}
use Rattle.office_tables.specs.Standing.{CanBeKept, named, pages_of, profile_of, state_of, stretch_row, stretches_of}
use Rattle.office.specs.Numbers.{kind_number}
use Rattle.ledger.proofs.Offices.{job_is, part_found, row_found}

-- ---- where the database failed

-- where it did not fail while open, it was shut
pub failed_unless : (old new : State) → (IsTrue old.is_open → HasFailed old new) → HasFailed old new
failed_unless old new failed = elim (cases_Bool old.is_open) [
  | inl opened ↦ failed opened
  | inr shut ↦ inr (inl shut)
]

-- what failed after a step that did not, failed over both
pub failed_later : (old mid new : State) → Survives old mid (λ _. ⊥) → Survives mid new (λ _. ⊥) → HasCleanDisk mid → IsTrue old.is_open → HasFailed mid new → HasFailed old new
failed_later old mid new one two clean opened (inl more) = inl (omega (arith, more, one.counts))
failed_later old mid new one two clean opened (inr (inl shut)) = go (one.closes clean opened)
  where
    go : IsTrue mid.is_open ⊎ MoreFaults old.faults mid.faults → HasFailed old new
    go (inl still) = absurd (let no = rw shut at still in cc)
    go (inr more) = inl (omega (arith, more, two.counts))
failed_later old mid new one two clean opened (inr (inr limited)) = inr (inr (subst IsSome one.limit limited))

-- ---- numbers of 32 bits

-- the number of a flag is one of 32 bits
pub truth_fits : (b : Bool) → truth b < 2 ^ 32
truth_fits false = omega arith
truth_fits true = omega arith

-- .. of a kind
pub kind_fits : (kind : Kind) → kind_number kind < 2 ^ 32
kind_fits Object = omega arith
kind_fits Autocoder = omega arith

-- .. of a size
pub size_fits : (size : Size) → positions_of size < 2 ^ 32
size_fits size = omega (arith, (within size).1)

-- .. of a profile
profile_fits : (profile : Profile) → profile_number profile < 2 ^ 32
profile_fits Plain = omega arith
profile_fits Selecting = omega arith

-- .. of a pocket
pocket_fits : (pocket : Pocket) → pocket_number pocket < 2 ^ 32
pocket_fits Normal = omega arith
pocket_fits Four = omega arith
pocket_fits Eight = omega arith

-- .. of a comparison
compare_fits : (compared : Compared) → compare_number compared < 2 ^ 32
compare_fits Equal = omega arith
compare_fits Low = omega arith
compare_fits High = omega arith

-- .. of a motion that waits
waiting_fits : (motion : Option Motion) → waiting_number motion < 2 ^ 32
waiting_fits None = omega arith
waiting_fits (Some Space) = omega arith
waiting_fits (Some DoubleSpace) = omega arith
waiting_fits (Some TripleSpace) = omega arith
waiting_fits (Some SkipToChannel1) = omega arith

-- .. of a standing
pub standing_fits : (standing : Standing) → standing_number standing < 2 ^ 32
standing_fits Running = omega arith
standing_fits Halted = omega arith
standing_fits (Checked Address) = omega arith
standing_fits (Checked Instruction) = omega arith
standing_fits (Checked Data) = omega arith
standing_fits (Checked Overlap) = omega arith
standing_fits (Checked ReaderEmpty) = omega arith
standing_fits (Checked PunchFull) = omega arith
standing_fits (Checked PrinterFull) = omega arith

-- ---- the rows of an office can be read

-- what is found by a look-up can be read, if it can where it is there
pub found_read : {X : Type 0} (shown : X → Row) (found : Option X) → ((x : X) → found ≡ Some x → AreReadable (shown x)) → CanRead shown (option_to_list found)
found_read shown None read = tt
found_read shown (Some x) read = (read x refl, tt)

-- .. the row of a job
pub job_read : (customer : List ℕ) (number : ℕ) (office : Office) → CanRead shown_job (option_to_list (option_map (λ (j : NamedJob). j.cells) (job_named customer number (map named office))))
job_read customer number office = found_read shown_job _ (λ row is.
    let it = row_found customer number office _ row refl is in
    subst (λ (cells : JobCells). AreReadable (shown_job cells)) (sym it.2) (kind_fits it.0.kind, (size_fits it.0.size, (tt, (tt, (truth_fits it.0.held, (truth_fits it.0.collected, tt)))))))

-- .. what a machine needs of it
pub loaded_read : (customer : List ℕ) (number : ℕ) (office : Office) → CanRead shown_loaded (option_to_list (option_map loaded_row (option_map (λ (j : NamedJob). j.cells) (job_named customer number (map named office)))))
loaded_read customer number office = found_read shown_loaded _ (λ row is.
    let it = part_found loaded_row customer number office _ row refl is in
    subst (λ (cells : LoadedCells). AreReadable (shown_loaded cells)) (sym it.2) (size_fits it.0.size, (tt, (truth_fits it.0.held, (truth_fits it.0.collected, tt)))))

-- .. the rows of stretches
rows_read : (stretches : List Stretch) → AllByRecursion HasSwitches stretches → granted stretches < 2 ^ 32 → CanRead shown_stretch (map stretch_row stretches)
rows_read [] all most = tt
rows_read (s ∷ stretches) all most =
    let sum : granted (s ∷ stretches) ≡ s.granted + granted stretches = sum_by-cons (λ (x : Stretch). x.granted) s stretches in
    ((omega (arith, all.0), (omega (arith, sum, most), tt)), rows_read stretches all.1 (omega (arith, sum, most)))

-- .. the rows of a job's stretches
pub stretches_read : (customer : List ℕ) (number : ℕ) (office : Office) → AllByRecursion (λ e. CanBeKept e.job) office → CanRead shown_stretch (stretches_of (job_of customer number office))
stretches_read customer number office all = go (job_of customer number office) refl
  where
    go : (o : Option Job) → job_of customer number office ≡ o → CanRead shown_stretch (stretches_of o)
    go None is = tt
    go (Some job) is =
        let kept = job_is customer number office job all is in
        rows_read job.stretches (recursion_from_All HasSwitches job.stretches kept.job.stretches.switches) (omega (arith, kept.job.stretches.most))

-- .. the row of a profile
pub profile_read : (o : Option Job) → CanRead shown_profile (option_to_list (profile_of o))
profile_read None = tt
profile_read (Some job) =
    let p = (picture job).works.units.punch in
    ((profile_fits p.profile, (pocket_fits p.chosen, tt)), tt)

-- a carriage below lines that rise is at a line of a form
on_form_below : (c : Carriage) (l : Line) (lines : List Line) → AreRising (line_place l) (places_then (carriage_place c) lines) → IsOnForm (carriage_place c)
on_form_below c l [] rising = rising.0.0
on_form_below c l (next ∷ lines) rising = on_form_below c next lines rising.1

-- .. and so is that of a printer in range
carriage_on_form : (c : Carriage) (lines : List Line) → AreRising the_top (places_then (carriage_place c) lines) → IsOnForm (carriage_place c)
carriage_on_form c [] rising = rising.0.0
carriage_on_form c (l ∷ lines) rising = on_form_below c l lines rising.1

-- the columns of a state can be read
columns_read : (m : Machine) → IsInRange m → IsDeck m.works.units.hopper.deck → AreReadable (shown_state (state_row m))
columns_read m range deck =
    let u = m.works.units in
    let carriage = u.printer.carriage in
    let place = carriage_on_form carriage u.printer.lines range.units.printer.places in (
      omega (arith, range.registers.i),
      (
        omega (arith, range.registers.a),
        (
          omega (arith, range.registers.b),
          (
            compare_fits m.works.registers.compare,
            (
              truth_fits m.works.registers.overflow,
              (
                truth_fits carriage.channel_12,
                (
                  waiting_fits carriage.waiting,
                  (
                    omega (arith, place.1),
                    (
                      omega (arith, place.3),
                      (
                        omega (arith, range.units.reader.most, deck.0),
                        (omega (arith, range.units.punch), (omega (arith, range.units.printer.most), (standing_fits m.standing, tt))),
                      ),
                    ),
                  ),
                ),
              ),
            ),
          ),
        ),
      ),
    )

-- .. the row of a job's state
pub state_read : (o : Option Job) (job : Job) → o ≡ Some job → IsInRange (picture job) → IsDeck (picture job).works.units.hopper.deck → CanRead shown_state (option_to_list (state_of o))
state_read o job is range deck = subst (λ (it : Option Job). CanRead shown_state (option_to_list (state_of it))) (sym is) (columns_read (picture job) range deck, tt)

-- the numbers of a storage's pages are ones of 32 bits
numbers_fit : (s : Storage) → HasSize s → HaveNumbers (rows_of s)
numbers_fit s size page bytes is = go (nat_lt page (page_count s)) refl is
  where
    go : (b : Bool) → nat_lt page (page_count s) ≡ b → unless_blank (if b then Some (page_bytes s page) else None) ≡ Some bytes → page < 2 ^ 32
    go false over there = absurd (let e : None ≡ Some bytes = there in cc)
    go true less there =
        let below : page < page_count s = grind (arith, nat_tests) in
        omega (arith, below, size.1, size_fits size.0)

-- .. and so are those of a job's pages
pub pages_read : (o : Option Job) (job : Job) → o ≡ Some job → IsInRange (picture job) → HaveNumbers (pages_of o)
pages_read o job is range = subst (λ (it : Option Job). HaveNumbers (pages_of it)) (sym is) (numbers_fit (picture job).works.storage range.size)

-- ---- what is there can be told

-- the stretches of a job, none if there is no job
pub stretches_there : (customer : List ℕ) (number : ℕ) (office : Office) → AllByRecursion (λ e. CanBeKept e.job) office → (stretches : List Stretch) × All HasSwitches stretches × (stretches_of (job_of customer number office) ≡ map stretch_row stretches)
stretches_there customer number office all = go (job_of customer number office) refl
  where
    go : (o : Option Job) → job_of customer number office ≡ o → (stretches : List Stretch) × All HasSwitches stretches × (stretches_of o ≡ map stretch_row stretches)
    go None is = ([], (λ k d less. absurd (omega (arith, less))), refl)
    go (Some job) is = (job.stretches, (job_is customer number office job all is).job.stretches.switches, refl)

-- what holds of each error holds of this one
pub err_is : {X E : Type 0} (P : E → Type 0) (e : E) (r : Result X E) → r ≡ Err e → IfErr r P → P e
err_is P e r is h = subst (λ q. IfErr q P) is h

-- nothing is not something
pub not_there : {X : Type 0} {x : X} {o : Option X} → o ≡ None → o ≡ Some x → ⊥
not_there none some = let no = sym none ∙ some in cc

-- a list has an element at each place below its length
pub is_there : {X : Type 0} (xs : List X) (k : ℕ) → k < length xs → slice_get xs k ≡ None → ⊥
is_there xs k less none = elim (slice_get_cases xs k).1 [
  | inl it ↦ not_there none it.2
  | inr past ↦ omega (arith, less, past.0)
]
