-- What a job that is handed in adds to the office and to the tables
use Rattle.std.proofs.Common.{true≢false, inl, inr, ◌≡◌, ℕ, List, [], ◌∷◌, ◌++◌, map, Bool, true, false, if◌then◌else◌, Option, None, Some, Ok, refl, sym, ap, subst, ◌∙◌, arith}
use Rattle.std.proofs.Math.Path.{fun_ext}
use Rattle.std.proofs.lemmas.Bool.{cases_Bool}
use Rattle.std.proofs.lemmas.List.{map-append}
use Rattle.std.specs.List.{All, AllByRecursion}
use Rattle.sqlite.specs.Effect.{Database}
use Rattle.ledger_tables.specs.Cells.{JobCells}
use Rattle.ledger_tables.specs.Tables.{Holds, job_named, at_job, with_stretches, with_state, with_pages, with_profile}
use Rattle.ledger_tables.specs.Tables as tables
use Rattle.cards.specs.declared.decks.Card.{Card}
use Rattle.cards.specs.Decks.{deck_bytes, IsDeck}
use Rattle.core_store.specs.Storage.{positions_of}
use Rattle.core_store.specs.declared.sizes.Size.{Size}
use Rattle.core_store.proofs.SizeLemmas.{numbered}
use Rattle.machine.specs.Run.{State, after, lines_of}
use Rattle.office.specs.Jobs.{Job, loaded_deck, picture, resumed, IsJob}
use Rattle.office.specs.Kept.{Kept, kept_of}
use Rattle.core_store.specs.Storage.{size_numbered}
use Rattle.office.specs.New.{deck_refusal, new_job, job_unless_refused, job_of_size, job_or_refusal}
use Rattle.office.specs.Office.{Entry, Office, is_entry, job_of, and_job}
use Rattle.office.specs.declared.commands.Contents.{Contents}
use Rattle.office.specs.declared.refusals.Refusal.{Refusal}
use Rattle.ledger_rows.specs.Columns.{state_row, profile_row, line_cells, truth, HoldsCharacters, IsLine}
use Rattle.ledger_rows.specs.Pages.{rows_of}
use Rattle.ledger_rows.specs.Pockets.{pocket_rows_of, punched_bytes, IsPunched}
use Rattle.ledger.specs.Saving.{new_cells}
use Rattle.office_tables.specs.Standing.{named, job_cells, stretch_row, stretches_of, state_of, pages_of, cards_of, profile_of, pockets_of, tables_of, CanBeKept, Rows}
use Rattle.office.specs.Numbers.{kind_number}
use Rattle.office_tables.specs.Standing as standing
use Rattle.units.specs.Switches.{seven}
use Rattle.ledger_tables.proofs.InsertLast.{name_is, name_yes, all_push}
use Rattle.office_tables.proofs.ReadingLemmas.{picture_deck, NewAreJobs}
use Rattle.ledger.proofs.SavingLemmas.{at_job_same, told_of, same_tables}

-- no row has the name of a job that there is not
pub none_named : (customer : List ℕ) (number : ℕ) (office : Office) → job_of customer number office ≡ None → job_named customer number (map named office) ≡ None
none_named customer number [] none = refl
none_named customer number (e ∷ office) none = elim (cases_Bool (is_entry customer number e)) [
  | inl this ↦ absurd (let found = rw this at none in cc)
  | inr other ↦ rw other (none_named customer number office (rw other at none))
]

-- the job of each name after one more for this one
job_behind : (e : Entry) (office : Office) → job_of e.customer e.number office ≡ None → (c : List ℕ) (n : ℕ) → job_of c n (office ++ e ∷ []) ≡ (if is_entry c n e then Some e.job else job_of c n office)
job_behind e [] none c n = go (is_entry c n e) refl
  where
    go : (b : Bool) → is_entry c n e ≡ b → job_of c n (e ∷ []) ≡ (if is_entry c n e then Some e.job else None)
    go true this = rw this
    go false other = rw other
job_behind e (first ∷ office) none c n = elim (cases_Bool (is_entry e.customer e.number first)) [
  | inl this ↦ absurd (let found = rw this at none in cc)
  | inr other ↦ go other (is_entry c n first) refl (is_entry c n e) refl (job_behind e office (rw other at none) c n)
]
  where
    go : is_entry e.customer e.number first ≡ false → (b : Bool) → is_entry c n first ≡ b → (d : Bool) → is_entry c n e ≡ d → job_of c n (office ++ e ∷ []) ≡ (if is_entry c n e then Some e.job else job_of c n office)
        → job_of c n (first ∷ office ++ e ∷ []) ≡ (if is_entry c n e then Some e.job else job_of c n (first ∷ office))
    go other true this true that rest =
        let one = name_is first.customer c first.number n this in
        let two = name_is e.customer c e.number n that in
        absurd (true≢false (sym (name_yes first.customer e.customer first.number e.number (one.0 ∙ sym two.0) (one.1 ∙ sym two.1)) ∙ other))
    go other true this false that rest = rw (this, that)
    go other false this d that rest = rw this rest

-- what is told of each job, after one more
pub told_behind : {X : Type 0} (tell : Option Job → X) (e : Entry) (office : Office) → job_of e.customer e.number office ≡ None
    → told_of tell (office ++ e ∷ []) ≡ at_job e.customer e.number (tell (Some e.job)) (told_of tell office)
told_behind tell e office none = fun_ext (λ c. fun_ext (λ n. ap tell (job_behind e office none c n) ∙ go c n (is_entry c n e)))
  where
    go : (c : List ℕ) (n : ℕ) (b : Bool) → tell (if b then Some e.job else job_of c n office) ≡ (if b then tell (Some e.job) else tell (job_of c n office))
    go c n true = refl
    go c n false = refl

-- nothing more is told
told_still : {X : Type 0} (tell : Option Job → X) (e : Entry) (office : Office) → job_of e.customer e.number office ≡ None → tell (Some e.job) ≡ tell None
    → told_of tell (office ++ e ∷ []) ≡ told_of tell office
told_still tell e office none same =
    told_behind tell e office none ∙ at_job_same e.customer e.number (tell (Some e.job)) (told_of tell office) (ap tell none ∙ sym same)

-- what the tables hold with a job that has made nothing
tables_behind : (e : Entry) (office : Office) → job_of e.customer e.number office ≡ None → (picture e.job).works.units.punch.cards ≡ [] → lines_of (picture e.job) ≡ []
    → tables_of (office ++ e ∷ []) ≡ with_profile e.customer e.number (profile_row (picture e.job).works.units.punch) (with_state e.customer e.number (state_row (picture e.job)) (with_pages e.customer e.number (rows_of (picture e.job).works.storage) (with_stretches e.customer e.number (map stretch_row e.job.stretches) (tables.with_job e.customer e.number (job_cells e.job) (tables_of office)))))
tables_behind e office none cards lines =
    same_tables _ _ (map-append named office (e ∷ []))
    (told_behind stretches_of e office none)
    (told_behind state_of e office none)
    (told_behind pages_of e office none)
    (told_still cards_of e office none (ap (map punched_bytes) cards))
    (told_still standing.lines_of e office none (ap (map line_cells) lines))
    (told_behind profile_of e office none)
    (told_still pockets_of e office none (ap pocket_rows_of cards))

-- ---- the job of what is handed in

as_new : (size : Size) (contents : Contents) (job : Job) (o : Option Refusal) → job_unless_refused size contents o ≡ Ok job → job ≡ new_job size contents
as_new size contents job (Some reason) is = absurd (let e = is in cc)
as_new size contents job None is = let same : new_job size contents ≡ job = cc in sym same

new_of : (contents : Contents) (job : Job) → job_or_refusal contents ≡ Ok job → (size : Size) × (size_numbered contents.size ≡ Some size) × (job ≡ new_job size contents)
new_of contents job is = go (size_numbered contents.size) refl is
  where
    go : (o : Option Size) → size_numbered contents.size ≡ o → job_of_size contents o ≡ Ok job → (size : Size) × (size_numbered contents.size ≡ Some size) × (job ≡ new_job size contents)
    go None at is = absurd (let e = is in cc)
    go (Some size) at is = (size, at, as_new size contents job (deck_refusal contents.kind contents.deck) is)

-- the columns are those of the job
row_of_new : (contents : Contents) (size : Size) (loaded : List Card) → size_numbered contents.size ≡ Some size → loaded ≡ loaded_deck (new_job size contents) → new_cells contents loaded ≡ job_cells (new_job size contents)
row_of_new contents size loaded sized is =
    ap (λ (n : ℕ). let row : JobCells = record { kind = kind_number contents.kind; size = n; deck = deck_bytes contents.deck; loaded = deck_bytes loaded; held = truth false; collected = truth false } in row) (sym (numbered contents.size size sized))
    ∙ ap (λ (d : List Card). let row : JobCells = record { kind = kind_number contents.kind; size = positions_of size; deck = deck_bytes contents.deck; loaded = deck_bytes d; held = truth false; collected = truth false } in row) is

new_row : (contents : Contents) (job : Job) (loaded : List Card) → job_or_refusal contents ≡ Ok job → loaded ≡ loaded_deck job → new_cells contents loaded ≡ job_cells job
new_row contents job loaded taken is =
    let it = new_of contents job taken in
    subst (λ (j : Job). loaded ≡ loaded_deck j → new_cells contents loaded ≡ job_cells j) (sym it.2) (row_of_new contents it.0 loaded it.1) is

-- a job that was handed in has made nothing
new_has_made : (size : Size) (contents : Contents) → ((picture (new_job size contents)).works.units.punch.cards ≡ []) × (lines_of (picture (new_job size contents)) ≡ [])
unfolding resumed after
new_has_made size contents = (refl, refl)

has_made_nothing : (contents : Contents) (job : Job) → job_or_refusal contents ≡ Ok job → ((picture job).works.units.punch.cards ≡ []) × (lines_of (picture job) ≡ [])
has_made_nothing contents job taken =
    let it = new_of contents job taken in
    subst (λ (j : Job). ((picture j).works.units.punch.cards ≡ []) × (lines_of (picture j) ≡ [])) (sym it.2) (new_has_made it.0 contents)

-- .. and has one stretch
pub one_stretch : (contents : Contents) (job : Job) → job_or_refusal contents ≡ Ok job → job.stretches ≡ [] ++ (record { switches = seven contents.switches; granted = 0 }) ∷ []
one_stretch contents job taken = let it = new_of contents job taken in ap (λ (j : Job). j.stretches) it.2

new_can_be_kept : (contents : Contents) (job : Job) (k : Kept) → job_or_refusal contents ≡ Ok job → k ≡ kept_of job → IsJob job → HoldsCharacters k.machine.works.storage → CanBeKept job
new_can_be_kept contents job k taken is it storage =
    let none = has_made_nothing contents job taken in
    record {
      job = it;
      storage = subst (λ (x : Kept). HoldsCharacters x.machine.works.storage) is storage;
      cards = subst (All IsPunched) (sym none.0) (λ k d less. absurd (omega (arith, less)));
      lines = subst (All IsLine) (sym none.1) (λ k d less. absurd (omega (arith, less)));
    }

abbrev pub KeepsDeck : Type 0
KeepsDeck = (m : State) (count : ℕ) → (after m count).works.units.hopper.deck ≡ m.works.units.hopper.deck

pub new_saved : KeepsDeck → NewAreJobs → (db : Database) (office : Office) (customer : List ℕ) (number : ℕ) (contents : Contents) (job : Job) (k : Kept) → AllByRecursion (λ (e : Entry). CanBeKept e.job) office
    → job_of customer number office ≡ None → job_or_refusal contents ≡ Ok job → k ≡ kept_of job → IsDeck contents.deck → IsDeck k.machine.works.units.hopper.deck → HoldsCharacters k.machine.works.storage
    → Holds db (with_profile customer number (profile_row k.machine.works.units.punch) (with_state customer number (state_row k.machine) (with_pages customer number (rows_of k.machine.works.storage) (with_stretches customer number (map stretch_row k.stretches) (tables.with_job customer number (new_cells contents k.machine.works.units.hopper.deck) (tables_of office))))))
    → Rows db (and_job customer number job office)
new_saved keeps new_are db office customer number contents job k jobs none taken is deck loaded storage holds =
    let e : Entry = record { customer = customer; number = number; job = job } in
    let nothing = has_made_nothing contents job taken in
    let loads : k.machine.works.units.hopper.deck ≡ loaded_deck job = ap (λ (x : Kept). x.machine.works.units.hopper.deck) is ∙ picture_deck keeps job in
    let cells : new_cells contents k.machine.works.units.hopper.deck ≡ job_cells job = new_row contents job k.machine.works.units.hopper.deck taken loads in
    let it : IsJob job = new_are contents job taken deck (subst IsDeck loads loaded) in
    let row = subst (λ (row : JobCells). Holds db (with_profile customer number (profile_row k.machine.works.units.punch) (with_state customer number (state_row k.machine) (with_pages customer number (rows_of k.machine.works.storage) (with_stretches customer number (map stretch_row k.stretches) (tables.with_job customer number row (tables_of office))))))) cells holds in
    let all = subst (λ (x : Kept). Holds db (with_profile customer number (profile_row x.machine.works.units.punch) (with_state customer number (state_row x.machine) (with_pages customer number (rows_of x.machine.works.storage) (with_stretches customer number (map stretch_row x.stretches) (tables.with_job customer number (job_cells job) (tables_of office))))))) is row in
    record {
      tables = subst (Holds db) (sym (tables_behind e office none nothing.0 nothing.1)) all;
      jobs = all_push (λ (e : Entry). CanBeKept e.job) office e jobs (new_can_be_kept contents job k taken is it storage);
    }
