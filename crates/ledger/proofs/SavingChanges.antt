-- What a command changes of a job, in the office and in the tables
use Rattle.std.proofs.Common.{true≢false, inl, inr, ◌≡◌, ℕ, List, [], ◌∷◌, ◌++◌, map, Bool, true, false, ◌&&◌, ◌==◌, bytes_eq, if◌then◌else◌, Option, Some, refl, sym, ap, subst, ◌∙◌}
use Rattle.std.specs.List.{All, AllByRecursion}
use Rattle.std.specs.Option.{option_map}
use Rattle.std.proofs.Math.Path.{fun_ext}
use Rattle.std.proofs.lemmas.Bool.{cases_Bool}
use Rattle.std.proofs.lemmas.List.{append-nil}
use Rattle.std.proofs.lemmas.List.Elements.{All-append}
use Rattle.core_store.specs.Storage.{Storage}
use Rattle.machine.specs.Run.{State, lines_of}
use Rattle.office.specs.Jobs.{Job, picture, IsJob}
use Rattle.office.specs.Kept.{Kept, kept_of, changed, changed_job}
use Rattle.office.specs.Office.{Entry, Office, is_entry, job_of, with_job}
use Rattle.office.specs.declared.commands.JobCommand.{JobCommand}
use Rattle.office.specs.declared.commands.JobCommand.TheVariants.{Slice, Start}
use Rattle.ledger_rows.specs.Columns.{state_row, profile_number, profile_row, line_cells, HoldsCharacters, IsLine}
use Rattle.ledger_rows.specs.Pages.{rows_of}
use Rattle.ledger_rows.specs.Pockets.{pocket_rows_of, punched_bytes, IsPunched}
use Rattle.sqlite.specs.Effect.{Database}
use Rattle.sqlite.specs.State as store
use Rattle.ledger_tables.specs.Tables.{ByJob, NamedJob, Tables, Holds, AreDistinct, is_job, at_job, with_cards, with_lines, with_stretches, with_state, with_pages, with_profile, with_chosen, with_pockets}
use Rattle.ledger_tables.specs.declared.rows.ProfileRow.{ProfileRow}
use Rattle.ledger_tables.specs.declared.rows.StateRow.{StateRow}
use Rattle.ledger_tables.proofs.InsertLast.{name_is, name_yes}
use Rattle.units.specs.Pockets.{pocket_number}
use Rattle.units.specs.Stacked.{Stacked}
use Rattle.units.specs.declared.profiles.Profile.{Profile}
use Rattle.units.specs.declared.punch.Punched.{Punched}
use Rattle.units.specs.declared.switches.Switches.{Switches}
use Rattle.ledger.specs.Earlier.{kept_alone, with_outputs_of, HasCounted}
use Rattle.office_tables.specs.Standing.{named, job_cells, stretch_row, stretches_of, state_of, pages_of, cards_of, profile_of, pockets_of, tables_of, CanBeKept, Rows, StandsIn}
use Rattle.office_tables.specs.Standing as standing
use Rattle.ledger.proofs.Offices.{job_is}
use Rattle.ledger.proofs.StateRows.{row_behind}
use Rattle.ledger.proofs.SavingLemmas.{at_job_same, told_of, same_tables, is_other}

-- ---- another job in the place of one

job_here : (customer : List ℕ) (number : ℕ) (job old : Job) (office : Office) → job_of customer number office ≡ Some old → job_of customer number (with_job customer number job office) ≡ Some job
job_here customer number job old [] is = absurd (let e = is in cc)
job_here customer number job old (e ∷ office) is = elim (cases_Bool (is_entry customer number e)) [
  | inl this ↦ rw (this, this)
  | inr other ↦ rw (other, other) (job_here customer number job old office (rw other at is))
]

job_other : (customer c : List ℕ) (number n : ℕ) (job : Job) (office : Office) → bytes_eq customer c && (number == n) ≡ false → job_of c n (with_job customer number job office) ≡ job_of c n office
job_other customer c number n job [] apart = refl
job_other customer c number n job (e ∷ office) apart = go (is_entry customer number e) refl (is_entry c n e) refl (job_other customer c number n job office apart)
  where
    go : (b : Bool) → is_entry customer number e ≡ b → (d : Bool) → is_entry c n e ≡ d → job_of c n (with_job customer number job office) ≡ job_of c n office
        → job_of c n (with_job customer number job (e ∷ office)) ≡ job_of c n (e ∷ office)
    go true this true that rest = let name = is_other customer c number n e this that in absurd (true≢false (sym (name_yes customer c number n name.0 name.1) ∙ apart))
    go true this false that rest = rw (this, that) rest
    go false other true that rest = rw (other, that)
    go false other false that rest = rw (other, that) rest

-- what is told of each job, with another job in the place of one
told_with : {X : Type 0} (tell : Option Job → X) (customer : List ℕ) (number : ℕ) (job old : Job) (office : Office) → job_of customer number office ≡ Some old
    → told_of tell (with_job customer number job office) ≡ at_job customer number (tell (Some job)) (told_of tell office)
told_with tell customer number job old office is = fun_ext (λ c. fun_ext (λ n. go c n (bytes_eq customer c && (number == n)) refl))
  where
    go : (c : List ℕ) (n : ℕ) (b : Bool) → bytes_eq customer c && (number == n) ≡ b
        → tell (job_of c n (with_job customer number job office)) ≡ (if b then tell (Some job) else tell (job_of c n office))
    go c n true same =
        let name = name_is customer c number n same in
        ap (λ x. tell (job_of x n (with_job customer number job office))) (sym name.0) ∙ ap (λ x. tell (job_of customer x (with_job customer number job office))) (sym name.1) ∙ ap tell (job_here customer number job old office is)
    go c n false apart = ap tell (job_other customer c number n job office apart)

none_with : (customer : List ℕ) (number : ℕ) (job : Job) (office : Office) → AllByRecursion (λ b. is_job customer number b ≡ false) (map named office) → map named (with_job customer number job office) ≡ map named office
none_with customer number job [] others = refl
none_with customer number job (e ∷ office) others =
    let other : is_entry customer number e ≡ false = others.0 in
    rw other (ap (λ xs. named e ∷ xs) (none_with customer number job office others.1))

-- the jobs' rows stay where the new job was handed in as the old one
named_with : (customer : List ℕ) (number : ℕ) (job old : Job) (office : Office) → AreDistinct (map named office) → job_of customer number office ≡ Some old → job_cells job ≡ job_cells old
    → map named (with_job customer number job office) ≡ map named office
named_with customer number job old [] distinct is cells = refl
named_with customer number job old (e ∷ office) distinct is cells = elim (cases_Bool (is_entry customer number e)) [
  | inl this ↦
      let name = name_is e.customer customer e.number number this in
      let found : Some e.job ≡ Some old = rw this at is in
      let same : e.job ≡ old = cc in
      let others : AllByRecursion (λ b. is_job customer number b ≡ false) (map named office) = subst (λ n. AllByRecursion (λ b. is_job customer n b ≡ false) (map named office)) name.1 (subst (λ c. AllByRecursion (λ b. is_job c e.number b ≡ false) (map named office)) name.0 distinct.0) in
      rw this (ap (λ x. let y : List NamedJob = (record { customer = e.customer; number = e.number; cells = x }) ∷ map named (with_job customer number job office) in y) (cells ∙ ap job_cells (sym same)) ∙ ap (λ xs. named e ∷ xs) (none_with customer number job office others))
  | inr other ↦ rw other (ap (λ xs. named e ∷ xs) (named_with customer number job old office distinct.1 (rw other at is) cells))
]

pub all_with : (customer : List ℕ) (number : ℕ) (job : Job) (office : Office) → AllByRecursion (λ (e : Entry). CanBeKept e.job) office → CanBeKept job → AllByRecursion (λ (e : Entry). CanBeKept e.job) (with_job customer number job office)
all_with customer number job [] all it = tt
all_with customer number job (e ∷ office) all it = (go (is_entry customer number e), all_with customer number job office all.1 it)
  where
    go : (b : Bool) → CanBeKept (if b then record e { job = job } else e).job
    go true = it
    go false = all.0

-- ---- the job that was there in its own place

none_same : (customer : List ℕ) (number : ℕ) (job : Job) (office : Office) → AllByRecursion (λ b. is_job customer number b ≡ false) (map named office) → with_job customer number job office ≡ office
none_same customer number job [] others = refl
none_same customer number job (e ∷ office) others =
    let other : is_entry customer number e ≡ false = others.0 in
    rw other (ap (λ (xs : Office). let ys : Office = e ∷ xs in ys) (none_same customer number job office others.1))

pub same_job : (customer : List ℕ) (number : ℕ) (old : Job) (office : Office) → AreDistinct (map named office) → job_of customer number office ≡ Some old → with_job customer number old office ≡ office
same_job customer number old [] distinct is = refl
same_job customer number old (e ∷ office) distinct is = elim (cases_Bool (is_entry customer number e)) [
  | inl this ↦
      let name = name_is e.customer customer e.number number this in
      let found : Some e.job ≡ Some old = rw this at is in
      let same : e.job ≡ old = cc in
      let others : AllByRecursion (λ b. is_job customer number b ≡ false) (map named office) = subst (λ n. AllByRecursion (λ b. is_job customer n b ≡ false) (map named office)) name.1 (subst (λ c. AllByRecursion (λ b. is_job c e.number b ≡ false) (map named office)) name.0 distinct.0) in
      rw this (ap (λ (x : Job). let y : Office = (record { customer = e.customer; number = e.number; job = x }) ∷ with_job customer number old office in y) (sym same) ∙ ap (λ (xs : Office). let ys : Office = e ∷ xs in ys) (none_same customer number old office others))
  | inr other ↦ rw other (ap (λ (xs : Office). let ys : Office = e ∷ xs in ys) (same_job customer number old office distinct.1 (rw other at is)))
]

-- ---- the tables of the changed office

-- the tables with this machine's state, pages, lines, cards, pockets and profile as the job's
abbrev with_all : List ℕ → ℕ → State → Tables → Tables
with_all customer number m t =
    with_profile customer number (profile_row m.works.units.punch) (with_state customer number (state_row m) (with_pages customer number (rows_of m.works.storage) (with_lines customer number (map line_cells (lines_of m))
    (with_pockets customer number (pocket_rows_of m.works.units.punch.cards) (with_cards customer number (map punched_bytes m.works.units.punch.cards) t)))))

module _ (customer : List ℕ) (number : ℕ) (job old : Job) (office : Office) (found : job_of customer number office ≡ Some old) where
  tables_with : AreDistinct (map named office) → job_cells job ≡ job_cells old
      → tables_of (with_job customer number job office) ≡ with_stretches customer number (map stretch_row job.stretches) (with_all customer number (picture job) (tables_of office))
  tables_with distinct cells =
      same_tables _ _ (named_with customer number job old office distinct found cells)
      (told_with stretches_of customer number job old office found)
      (told_with state_of customer number job old office found)
      (told_with pages_of customer number job old office found)
      (told_with cards_of customer number job old office found)
      (told_with standing.lines_of customer number job old office found)
      (told_with profile_of customer number job old office found)
      (told_with pockets_of customer number job old office found)

  after_saved : (db0 db : Database) (k : Kept) → Rows db0 office → job_cells job ≡ job_cells old → k ≡ kept_of job → CanBeKept job
      → Holds db (with_stretches customer number (map stretch_row k.stretches) (with_all customer number k.machine (tables_of office)))
      → Rows db (with_job customer number job office)
  after_saved db0 db k stands cells is it holds = record {
    tables = subst (Holds db) (sym (tables_with stands.tables.shared.distinct cells))
        (subst (λ (x : Kept). Holds db (with_stretches customer number (map stretch_row x.stretches) (with_all customer number x.machine (tables_of office)))) is holds);
    jobs = all_with customer number job office stands.jobs it;
  }

-- what was kept of a job is that job, and the tables can hold it
kept_so : (job : Job) (k : Kept) → k ≡ kept_of job → IsJob job → HoldsCharacters k.machine.works.storage → All IsPunched k.machine.works.units.punch.cards → All IsLine (lines_of k.machine) → CanBeKept job
kept_so job k is it storage cards lines = record {
  job = it;
  storage = subst (λ (x : Kept). HoldsCharacters x.machine.works.storage) is storage;
  cards = subst (λ (x : Kept). All IsPunched x.machine.works.units.punch.cards) is cards;
  lines = subst (λ (x : Kept). All IsLine (lines_of x.machine)) is lines;
}

-- ---- a slice

-- the profile row of a job, with another choice, is that of its machine later on, whose profile is the same
choice_told : (customer : List ℕ) (number : ℕ) (old : Job) (office : Office) (p : Stacked) → job_of customer number office ≡ Some old → p.profile ≡ (picture old).works.units.punch.profile
    → with_chosen customer number (pocket_number p.chosen) (tables_of office) ≡ with_profile customer number (profile_row p) (tables_of office)
choice_told customer number old office p found same =
    ap (λ (o : Option ProfileRow). let t : Tables = record (tables_of office) { profiles = at_job customer number o (told_of profile_of office) } in t)
    (ap (λ (o : Option Job). option_map (λ (r : ProfileRow). let x : ProfileRow = record r { chosen = pocket_number p.chosen } in x) (profile_of o)) found
    ∙ ap (λ (q : Profile). let x : Option ProfileRow = Some (record { profile = profile_number q; chosen = pocket_number p.chosen }) in x) (sym same))

pub slice_saved : (db0 db : Database) (office : Office) (customer : List ℕ) (number limit : ℕ) (old : Job) (k : Kept) → Rows db0 office → job_of customer number office ≡ Some old → HasCounted old k → with_outputs_of old k ≡ kept_of (changed_job (Slice limit) old) → IsJob (changed_job (Slice limit) old)
    → k.machine.works.units.punch.profile ≡ (picture old).works.units.punch.profile
    → HoldsCharacters k.machine.works.storage → All IsPunched k.machine.works.units.punch.cards → All IsLine (lines_of k.machine)
    → Holds db (with_stretches customer number (map stretch_row k.stretches) (with_chosen customer number (pocket_number k.machine.works.units.punch.chosen) (with_state customer number (state_row k.machine) (with_pages customer number (rows_of k.machine.works.storage) (with_lines customer number (map line_cells (lines_of (picture old) ++ lines_of k.machine))
    (with_pockets customer number (pocket_rows_of ((picture old).works.units.punch.cards ++ k.machine.works.units.punch.cards)) (with_cards customer number (map punched_bytes ((picture old).works.units.punch.cards ++ k.machine.works.units.punch.cards)) (tables_of office))))))))
    → Rows db (with_job customer number (changed_job (Slice limit) old) office)
slice_saved db0 db office customer number limit old k stands found counted is job same storage cards lines holds =
    let it = job_is customer number office old stands.jobs found in
    let all = with_outputs_of old k in
    let can = kept_so (changed_job (Slice limit) old) all is job storage (All-append IsPunched (picture old).works.units.punch.cards k.machine.works.units.punch.cards it.cards cards) (All-append IsLine (lines_of (picture old)) (lines_of k.machine) it.lines lines) in
    let row : state_row all.machine ≡ state_row k.machine = row_behind (picture old).works.units.punch.cards (lines_of (picture old)) k.machine counted in
    let told : (with_chosen customer number (pocket_number k.machine.works.units.punch.chosen) (tables_of office)).profiles ≡ (with_profile customer number (profile_row k.machine.works.units.punch) (tables_of office)).profiles =
    ap (λ (t : Tables). t.profiles) (choice_told customer number old office k.machine.works.units.punch found same) in
    let whole = subst (λ (r : StateRow). Holds db (with_stretches customer number (map stretch_row k.stretches) (with_chosen customer number (pocket_number k.machine.works.units.punch.chosen) (with_state customer number r (with_pages customer number (rows_of all.machine.works.storage) (with_lines customer number (map line_cells (lines_of all.machine))
    (with_pockets customer number (pocket_rows_of all.machine.works.units.punch.cards) (with_cards customer number (map punched_bytes all.machine.works.units.punch.cards) (tables_of office))))))))) (sym row) holds in
    after_saved customer number (changed_job (Slice limit) old) old office found db0 db all stands refl is can
    (subst (λ (profiles : ByJob (Option ProfileRow)). Holds db (record (with_stretches customer number (map stretch_row k.stretches) (with_all customer number all.machine (tables_of office))) { profiles = profiles })) told whole)

-- ---- a start

-- the pages, cards, pockets, lines and the profile that stand are those of the machine
rest_stays : (customer : List ℕ) (number : ℕ) (old : Job) (office : Office) (m : State) → job_of customer number office ≡ Some old → m.works.storage ≡ (picture old).works.storage → m.works.units.punch ≡ (picture old).works.units.punch → lines_of m ≡ lines_of (picture old)
    → with_state customer number (state_row m) (tables_of office) ≡ with_all customer number m (tables_of office)
rest_stays customer number old office m found storage punch lines =
    same_tables _ _ refl refl refl
    (sym (at_job_same customer number (rows_of m.works.storage) (told_of pages_of office) (ap pages_of found ∙ ap (λ (s : Storage). rows_of s) (sym storage))))
    (sym (at_job_same customer number (map punched_bytes m.works.units.punch.cards) (told_of cards_of office) (ap cards_of found ∙ ap (λ (p : Stacked). map punched_bytes p.cards) (sym punch))))
    (sym (at_job_same customer number (map line_cells (lines_of m)) (told_of standing.lines_of office) (ap standing.lines_of found ∙ ap (map line_cells) (sym lines))))
    (sym (at_job_same customer number (Some (profile_row m.works.units.punch)) (told_of profile_of office) (ap profile_of found ∙ ap (λ (p : Stacked). Some (profile_row p)) (sym punch))))
    (sym (at_job_same customer number (pocket_rows_of m.works.units.punch.cards) (told_of pockets_of office) (ap pockets_of found ∙ ap (λ (p : Stacked). pocket_rows_of p.cards) (sym punch))))

pub start_saved : (db0 db : Database) (office : Office) (customer : List ℕ) (number : ℕ) (switches : Switches) (old : Job) (k : Kept) → Rows db0 office → job_of customer number office ≡ Some old → k ≡ changed (Start switches) (kept_alone old) → HasCounted old k → with_outputs_of old k ≡ kept_of (changed_job (Start switches) old)
    → IsJob (changed_job (Start switches) old) → HoldsCharacters k.machine.works.storage
    → Holds db (with_stretches customer number (map stretch_row k.stretches) (with_state customer number (state_row k.machine) (tables_of office)))
    → Rows db (with_job customer number (changed_job (Start switches) old) office)
start_saved db0 db office customer number switches old k stands found made counted is job storage holds =
    let it = job_is customer number office old stands.jobs found in
    let all = with_outputs_of old k in
    let p = (picture old).works.units.punch in
    let punch : all.machine.works.units.punch ≡ p =
    ap (λ (x : Kept). let q : Stacked = record x.machine.works.units.punch { cards = p.cards ++ x.machine.works.units.punch.cards } in q) made
    ∙ ap (λ (cards : List Punched). let q : Stacked = record p { cards = cards } in q) (append-nil p.cards) in
    let lines : lines_of all.machine ≡ lines_of (picture old) = ap (λ (x : Kept). lines_of (picture old) ++ lines_of x.machine) made ∙ append-nil (lines_of (picture old)) in
    let can = kept_so (changed_job (Start switches) old) all is job storage (subst (λ (q : Stacked). All IsPunched q.cards) (sym punch) it.cards) (subst (All IsLine) (sym lines) it.lines) in
    let row : state_row all.machine ≡ state_row k.machine = row_behind p.cards (lines_of (picture old)) k.machine counted in
    let rows = subst (λ (r : StateRow). Holds db (with_stretches customer number (map stretch_row k.stretches) (with_state customer number r (tables_of office)))) (sym row) holds in
    let same : all.machine.works.storage ≡ (picture old).works.storage = ap (λ (x : Kept). x.machine.works.storage) made in
    after_saved customer number (changed_job (Start switches) old) old office found db0 db all stands refl is can
    (subst (λ t. Holds db (with_stretches customer number (map stretch_row k.stretches) t)) (rest_stays customer number old office all.machine found same punch lines) rows)

-- ---- a query

pub unchanged_saved : (s : store.State) (customer : List ℕ) (number : ℕ) (c : JobCommand) (old : Job) (office : Office) → changed_job c old ≡ old → job_of customer number office ≡ Some old → StandsIn s office → StandsIn s (with_job customer number (changed_job c old) office)
unchanged_saved s customer number c old office stays found stands =
    subst (StandsIn s) (sym (ap (λ (j : Job). with_job customer number j office) stays ∙ same_job customer number old office stands.tables.shared.distinct found)) stands
