-- Why a part of a job or a list of jobs is not told: its rows can be read, so the database failed.
use Rattle.std.proofs.Common.{◌≡◌, ◌==◌, ◌+◌, ◌<◌, ◌≤◌, ◌^◌, ℕ, Bool, true, false, bytes_eq, IsUtf8, List, [], ◌∷◌, length, map, Option, Some, IsTrue, refl, sym, ap, subst, arith}
use Rattle.std.specs.List.{AllByRecursion}
use Rattle.std.specs.Option.{option_map, option_to_list}
use Rattle.std.proofs.lemmas.Bool.Decides.{nat_tests}
use Rattle.cards.specs.Decks.{IsDeck}
use Rattle.machine.proofs.Steps.{stems_after, stems_same}
use Rattle.machine.specs.Ranges.{IsInRange}
use Rattle.machine.specs.Run.{State as Machine, lines_of as printed_by}
use Rattle.units.specs.Ranges.{AreRising, HasPrinted, IsOnForm, carriage_place, line_place, places_then, the_top}
use Rattle.units.specs.declared.carriage.Carriage.{Carriage}
use Rattle.units.specs.declared.pockets.Pocket.{Pocket}
use Rattle.units.specs.declared.pockets.Pocket.TheVariants.{Normal, Four, Eight}
use Rattle.units.specs.declared.printer.Line.{Line}
use Rattle.units.specs.declared.punch.Punched.{Punched}
use Rattle.units.specs.declared.units.Counts.{Counts}
use Rattle.office.specs.Jobs.{Job, picture, IsJob}
use Rattle.office.specs.Office.{Entry, Office, by_number, own, runs}
use Rattle.bcd.specs.Orders.{in_order}
use Rattle.sqlite.specs.Order.{Row}
use Rattle.sqlite.specs.State.{State, HasCleanDisk, Survives}
use Rattle.sqlite.proofs.StateLemmas.{survives_then}
use Rattle.ledger_rows.specs.Columns.{line_cells, state_row}
use Rattle.ledger_rows.specs.Pockets.{pocket_cell, pocket_rows_from}
use Rattle.ledger_rows.specs.Progress.{progress_of}
use Rattle.ledger_tables.specs.Listed.{HaveNames, name_row, names_of, progress_row}
use Rattle.ledger_tables.specs.Named.{HavePocketNumbers}
use Rattle.ledger_tables.specs.Reading.{AreReadable, CanRead}
use Rattle.ledger_tables.specs.Shown.{shown_line, shown_name, shown_progress}
use Rattle.ledger_tables.specs.Steps.{HasFailed}
use Rattle.ledger.specs.Listed.{AreListable, CanBeListed}
use Rattle.office_tables.specs.Standing.{lines_of, named, pockets_of, state_of, tables_of}
use Rattle.bcd.proofs.Orders.{all_ordered, all_weaker}
use Rattle.ledger.proofs.ListLemmas.{all_filtered, each_running, names_told}
use Rattle.ledger.proofs.ReadFaults.{failed_later, failed_unless, standing_fits, truth_fits}
use Rattle.office_tables.proofs.ReadingLemmas.{picture_before, picture_deck}

-- ---- one step after another

-- what failed after a step over which the disk stayed clean, failed over both
pub failed_second : (old mid new : State) → Survives old mid (λ _. ⊥) → Survives mid new (λ _. ⊥) → HasCleanDisk new → (HasCleanDisk mid → IsTrue old.is_open → HasFailed mid new) → HasFailed old new
failed_second old mid new one two clean fails = failed_unless old new (λ opened.
    let early : HasCleanDisk mid = omega (arith, clean, two.clean) in
    failed_later old mid new one two early opened (fails early opened))

-- .. and after two
pub failed_third : (old first mid new : State) → Survives old first (λ _. ⊥) → Survives first mid (λ _. ⊥) → Survives mid new (λ _. ⊥) → HasCleanDisk new → (HasCleanDisk mid → HasCleanDisk first → IsTrue old.is_open → HasFailed mid new) → HasFailed old new
failed_third old first mid new one two three clean fails =
    let both = survives_then first mid new (λ _. ⊥) (λ _. ⊥) (λ _. ⊥) (λ _ db none. none) (λ _ db none. none) two three in
    failed_second old first new one both clean (λ earlier opened. failed_second first mid new two three clean (λ early _. fails early earlier opened))

-- ---- the deck

-- a job's machine reads a deck
pub reads_deck : (job : Job) → IsJob job → IsDeck (picture job).works.units.hopper.deck
reads_deck job it = subst IsDeck (sym (picture_deck (λ m count. (stems_after m m count (stems_same m)).deck) job)) it.loaded

-- ---- the progress of a job

-- the numbers of the row of a progress have 32 bits
progress_fits : (m : Machine) → IsInRange m → AreReadable (shown_progress (progress_row (state_row m)))
progress_fits m range =
    let i : m.works.registers.i < 2 ^ 32 = omega (arith, range.registers.i) in
    let cards : m.works.units.before.cards + length m.works.units.punch.cards < 2 ^ 32 = omega (arith, range.units.punch) in
    let lines : m.works.units.before.lines + length m.works.units.printer.lines < 2 ^ 32 = omega (arith, range.units.printer.most) in
    (i, (cards, (lines, (standing_fits m.standing, tt))))

-- the row of a job's progress can be read
pub progress_read : (job : Job) → IsInRange (picture job) → (here : Option Job) → here ≡ Some job → CanRead shown_progress (option_to_list (option_map progress_row (state_of here)))
progress_read job range here is = subst (λ o. CanRead shown_progress (option_to_list (option_map progress_row (state_of o)))) (sym is) (progress_fits (picture job) range, tt)

-- ---- the lines of a job

-- .. those of the row of a line on a form
line_fits : (l : Line) → IsOnForm (line_place l) → AreReadable (shown_line (line_cells l))
line_fits l on =
    let form : l.form < 2 ^ 32 = omega (arith, on.1) in
    let line : l.line < 2 ^ 32 = omega (arith, on.3) in
    (form, (line, (tt, tt)))

-- .. those of the rows of the lines below one
later_fit : (above : Line) (carriage : Carriage) (lines : List Line) → AreRising (line_place above) (places_then (carriage_place carriage) lines) → CanRead shown_line (map line_cells lines)
later_fit above carriage [] rising = tt
later_fit above carriage (l ∷ lines) rising = (line_fits l rising.0.0, later_fit l carriage lines rising.1)

-- .. those of the rows of all lines of a printer
lines_fit : (carriage : Carriage) (lines : List Line) → AreRising the_top (places_then (carriage_place carriage) lines) → CanRead shown_line (map line_cells lines)
lines_fit carriage [] rising = tt
lines_fit carriage (l ∷ lines) rising = (line_fits l rising.0.0, later_fit l carriage lines rising.1)

-- the rows of a job's lines can be read
pub lines_read : (job : Job) → IsInRange (picture job) → (here : Option Job) → here ≡ Some job → CanRead shown_line (lines_of here)
lines_read job range here is = subst (λ o. CanRead shown_line (lines_of o)) (sym is) (lines_fit (picture job).works.units.printer.carriage (printed_by (picture job)) range.units.printer.places)

-- a job's printer has printed all of its lines itself
pub printed_alone : (job : Job) → IsInRange (picture job) → HasPrinted 0 (picture job).works.units.printer
printed_alone job range = subst (λ (made : Counts). HasPrinted made.lines (picture job).works.units.printer) (picture_before job) range.units.printer

-- the state of its machine counts all of its cards
pub counts_cards : (job : Job) → length (picture job).works.units.punch.cards ≡ (progress_of (picture job)).cards
counts_cards job = let none = ap (λ (made : Counts). made.cards) (picture_before job) in omega (arith, none)

-- .. and all of its lines
pub counts_lines : (job : Job) → length (printed_by (picture job)) ≡ (progress_of (picture job)).lines
counts_lines job = let none = ap (λ (made : Counts). made.lines) (picture_before job) in omega (arith, none)

-- ---- the pockets of a job's cards

-- the number of a pocket has 32 bits
cell_fits : (pocket : Pocket) (number : ℕ) → pocket_cell pocket ≡ Some number → number < 2 ^ 32
cell_fits Normal number is = absurd (let e = is in cc)
cell_fits Four number is = let four : 4 ≡ number = cc in omega (arith, four)
cell_fits Eight number is = let eight : 8 ≡ number = cc in omega (arith, eight)

-- the numbers of the rows of the pockets of so many cards have 32 bits
pockets_fit : (first : ℕ) (cards : List Punched) → first + length cards ≤ 2 ^ 32 → HavePocketNumbers (pocket_rows_from first cards)
pockets_fit first [] fits place pocket is = absurd (let e = is in cc)
pockets_fit first (c ∷ cards) fits place pocket is = go (first == place) refl (pockets_fit (first + 1) cards (omega (arith, fits)) place pocket)
  where
    go : (b : Bool) → (first == place) ≡ b → (pocket_rows_from (first + 1) cards place ≡ Some pocket → (place < 2 ^ 32) × (pocket < 2 ^ 32)) → (place < 2 ^ 32) × (pocket < 2 ^ 32)
    go true at later =
        let same : first ≡ place = grind (arith, nat_tests, at) in
        (omega (arith, fits, same), cell_fits c.pocket pocket (rw at at is))
    go false at later = later (rw at at is)

-- the rows of the pockets of a job's cards can be read
pub pockets_read : (job : Job) → IsInRange (picture job) → (here : Option Job) → here ≡ Some job → HavePocketNumbers (pockets_of here)
pockets_read job range here is = subst (λ o. HavePocketNumbers (pockets_of o)) (sym is) (pockets_fit 1 (picture job).works.units.punch.cards (omega (arith, range.units.punch)))

-- ---- the lists

-- rows can be read where each thing of theirs has one that can
each_read : {X Y : Type 0} (shown : Y → Row) (f : X → Y) (P : X → Type 0) (xs : List X) → ((x : X) → P x → AreReadable (shown (f x))) → AllByRecursion P xs → CanRead shown (map f xs)
each_read shown f P [] so all = tt
each_read shown f P (x ∷ xs) so all = (so x all.0, each_read shown f P xs so all.1)

-- the rows of a customer's jobs can be read
pub names_read : (customer : List ℕ) (office : Office) → AreListable office → CanRead shown_name (names_of customer (map named office))
names_read customer office all =
    let his = all_filtered CanBeListed CanBeListed (λ e. bytes_eq e.customer customer) (λ e can _. can) office all in
    subst (CanRead shown_name) (sym (names_told customer office))
    (each_read shown_name (λ (e : Entry). name_row (named e)) CanBeListed (in_order by_number (own customer office)) (λ e can. (can.1, (truth_fits e.job.held, (truth_fits e.job.collected, tt)))) (all_ordered by_number CanBeListed (own customer office) his))

-- the names of the jobs that run can be read
pub running_read : (office : Office) → AreListable office → HaveNames (tables_of office)
running_read office all =
    each_running (λ customer number. IsUtf8 customer × (number < 2 ^ 32)) office (all_weaker CanBeListed (λ (e : Entry). runs e ≡ true → IsUtf8 e.customer × (e.number < 2 ^ 32)) (λ e can _. can) office all)
