-- The tables stand for the office.
use Rattle.std.proofs.Common.{◌≡◌, ◌<◌, ◌≤◌, ◌+◌, ℕ, zero, suc, pos, List, [], ◌∷◌, map, filter, drop, Bool, true, false, cond, ◌==◌, nat_lt, Option, Some, None, refl, sym, ap, subst, ◌∙◌, arith, true≢false}
use Rattle.std.specs.List.{AllByRecursion}
use Rattle.std.specs.List.Sorted.{IsPermutation}
use Rattle.std.specs.Option.{option_to_list}
use Rattle.std.proofs.lemmas.Bool.{and_parts}
use Rattle.std.proofs.lemmas.Bool.Decides.{nat_tests}
use Rattle.std.proofs.lemmas.List.Sorted.{IsPermutation-sym}
use Rattle.core_store.specs.Pages.{page_count}
use Rattle.core_store.specs.Storage.{Storage}
use Rattle.units.specs.declared.punch.Punched.{Punched}
use Rattle.office.specs.Jobs.{picture}
use Rattle.office.specs.Office.{Entry, Office, IsFree, is_entry}
use Rattle.office.specs.Office as office
use Rattle.ledger_rows.specs.Pages.{page_bytes, rows_of as page_rows_of}
use Rattle.ledger_rows.specs.Pockets.{pocket_cell, pocket_rows_from}
use Rattle.sqlite.proofs.Callers.{one_permutation}
use Rattle.sqlite.specs.Effect.{Database}
use Rattle.sqlite.specs.Order.{Row}
use Rattle.sqlite.specs.declared.types.Value.{Value}
use Rattle.sqlite.specs.declared.types.Value.TheVariants.{Null, Int, Real, Text, Blob}
use Rattle.sqlite_sql.specs.Ops.{is_null}
use Rattle.sqlite_schema.specs.Rules.{are_typed}
use Rattle.ledger_tables.specs.Cells.{unless_blank}
use Rattle.ledger_tables.specs.Schema as schema
use Rattle.ledger_tables.specs.Tables as row
use Rattle.ledger_tables.specs.Tables.{cells, is_row_at, is_row_of, job_row, placed, state_rows, profile_rows, version_rows, AreDistinct, IsOf, IsOfEach, IsOne, NamedJob, HoldsShared}
use Rattle.office_tables.specs.Standing.{named, stretches_of, state_of, pages_of, cards_of, lines_of, profile_of, pockets_of, CanBeKept, Rows}
use Rattle.sqlite_keyed.proofs.ListLemmas.{all_weaker}
use Rattle.job_checks.specs.Checks.{KeepsTold}
use Rattle.job_checks.specs.Kept.{AreKept, IsKept, IsOwned, version_row}
use Rattle.job_checks.specs.Reports.{StandsFor}
use Rattle.job_checks.specs.Tables.{AreRowsOf, IsBureaus, pages_from, rows_of, version_columns, WholeTables}
use Rattle.job_checks.specs.declared.reports.Report.{Report}
use Rattle.job_checks.proofs.AmongLemmas.{filter_within}
use Rattle.job_checks.proofs.OfficeLemmas.{row_in_jobs}
use Rattle.job_checks.proofs.PlacedLemmas.{page_cell}
use Rattle.job_checks.proofs.StandingLemmas.{is_of, is_of_each, at_is_of, at_places, are_ones, same_bytes, same_number, thing_at}
use Rattle.job_checks.proofs.TableReads.{bureau_typed}

-- ---- the version

is_null_of : (v : Value) → is_null v ≡ true → v ≡ Null
is_null_of Null is = refl
is_null_of (Int n) is = absurd (true≢false (sym is))
is_null_of (Real x) is = absurd (true≢false (sym is))
is_null_of (Text t) is = absurd (true≢false (sym is))
is_null_of (Blob b) is = absurd (true≢false (sym is))

version_form : (r : Row) → version_columns r ≡ Int (pos 1) ∷ Int (pos 4) ∷ [] → are_typed (Some 0) 0 schema.bureau.columns (drop 1 r) ≡ true → r ≡ Int (pos 1) ∷ Null ∷ Int (pos 4) ∷ []
version_form [] is typed = absurd (let e = is in cc)
version_form (a ∷ []) is typed = absurd (let e = is in cc)
version_form (a ∷ b ∷ []) is typed = absurd (let e = is in cc)
version_form (a ∷ b ∷ c ∷ []) is typed =
    let first : a ≡ Int (pos 1) = cc in
    let third : c ≡ Int (pos 4) = cc in
    let second : b ≡ Null = is_null_of b (and_parts (is_null b) _ typed).0 in
    ap (λ x. x ∷ b ∷ c ∷ []) first ∙ ap (λ x. Int (pos 1) ∷ x ∷ c ∷ []) second ∙ ap (λ x. Int (pos 1) ∷ Null ∷ x ∷ []) third
version_form (a ∷ b ∷ c ∷ d ∷ rest) is typed = absurd (let one = and_parts (is_null b) _ typed in let two = and_parts _ false one.1 in true≢false (sym two.1))

pub version_rows_are : (rows : List Row) → map version_columns rows ≡ version_row → AllByRecursion (λ r. are_typed (Some 0) 0 schema.bureau.columns (drop 1 r) ≡ true) rows → rows ≡ version_rows 4
version_rows_are [] is typed = absurd (let e = is in cc)
version_rows_are (r ∷ s ∷ rows) is typed = absurd (let e = is in cc)
version_rows_are (r ∷ []) is typed =
    let one : version_columns r ≡ Int (pos 1) ∷ Int (pos 4) ∷ [] = cc in
    ap (λ x. x ∷ []) (version_form r one typed.0)

-- ---- the names

map_jobs : (office : Office) → map row_in_jobs office ≡ map job_row (map named office)
map_jobs [] = refl
map_jobs (e ∷ office) = ap (λ l. row_in_jobs e ∷ l) (map_jobs office)

free_named : (customer : List ℕ) (number : ℕ) (office : Office) → IsFree customer number office → AllByRecursion (λ b. row.is_job customer number b ≡ false) (map named office)
free_named customer number [] free = tt
free_named customer number (e ∷ office) free = (free.0, free_named customer number office free.1)

distinct_named : (jobs : Office) → office.AreDistinct jobs → AreDistinct (map named jobs)
distinct_named [] distinct = tt
distinct_named (e ∷ jobs) distinct = (free_named e.customer e.number jobs distinct.0, distinct_named jobs distinct.1)

-- ---- pages and pockets

below : (p n : ℕ) → p < n → nat_lt p n ≡ true
below p n less = grind (arith, nat_tests, less)

not_below : (p n : ℕ) → n ≤ p → nat_lt p n ≡ false
not_below p n most = grind (arith, nat_tests, most)

pages_at : (s : Storage) (first count place : ℕ) → first ≤ place → thing_at page_cell first (pages_from s first count) place ≡ unless_blank (cond (nat_lt place (first + count)) (Some (page_bytes s place)) None)
pages_at s first zero place from =
    let past : first + zero ≤ place = omega (arith, from) in
    sym (ap (λ b. unless_blank (cond b (Some (page_bytes s place)) None)) (not_below place (first + zero) past))
pages_at s first (suc count) place from = go (first == place) refl (pages_at s (first + 1) count place)
  where
    go : (b : Bool) → (first == place) ≡ b → (first + 1 ≤ place → thing_at page_cell (first + 1) (pages_from s (first + 1) count) place ≡ unless_blank (cond (nat_lt place (first + 1 + count)) (Some (page_bytes s place)) None))
        → cond (first == place) (page_cell (page_bytes s first)) (thing_at page_cell (first + 1) (pages_from s (first + 1) count) place) ≡ unless_blank (cond (nat_lt place (first + suc count)) (Some (page_bytes s place)) None)
    go true is others =
        let same : first ≡ place = grind (arith, nat_tests, is) in
        let less : place < first + suc count = omega (arith, same) in
        ap (λ b. cond b (page_cell (page_bytes s first)) (thing_at page_cell (first + 1) (pages_from s (first + 1) count) place)) is
        ∙ ap (λ k. page_cell (page_bytes s k)) same
        ∙ sym (ap (λ b. unless_blank (cond b (Some (page_bytes s place)) None)) (below place (first + suc count) less))
    go false is others =
        let apart : first + 1 ≤ place = grind (arith, nat_tests, is, from) in
        let same : first + 1 + count ≡ first + suc count = omega arith in
        ap (λ b. cond b (page_cell (page_bytes s first)) (thing_at page_cell (first + 1) (pages_from s (first + 1) count) place)) is
        ∙ others apart ∙ ap (λ n. unless_blank (cond (nat_lt place n) (Some (page_bytes s place)) None)) same

pub pages_all : (s : Storage) (place : ℕ) → thing_at page_cell 0 (pages_from s 0 (page_count s)) place ≡ page_rows_of s place
pages_all s place =
    let none : 0 + page_count s ≡ page_count s = omega arith in
    pages_at s 0 (page_count s) place (omega arith) ∙ ap (λ n. unless_blank (cond (nat_lt place n) (Some (page_bytes s place)) None)) none

abbrev pub card_pocket : Punched → Option ℕ
card_pocket c = pocket_cell c.pocket

pub pockets_at : (first : ℕ) (cards : List Punched) (place : ℕ) → thing_at card_pocket first cards place ≡ pocket_rows_from first cards place
pockets_at first [] place = refl
pockets_at first (c ∷ cards) place = ap (λ o. cond (first == place) (pocket_cell c.pocket) o) (pockets_at (first + 1) cards place)

pub page_keyed : (customer : List ℕ) (number place k : ℕ) (bytes : List ℕ) → is_row_at customer number place (row.page_row customer number k bytes) ≡ (k == place)
page_keyed customer number place k bytes = rw (same_bytes customer, same_number number) refl

pub pocket_keyed : (customer : List ℕ) (number place k pocket : ℕ) → is_row_at customer number place (row.pocket_row customer number k pocket) ≡ (k == place)
pocket_keyed customer number place k pocket = rw (same_bytes customer, same_number number) refl

-- ---- all tables

module _ (db : Database) (all : WholeTables) (jobs : Office) (bureaus : IsBureaus db) (read : AreRowsOf db.trees all) (kept : AreKept all jobs) where
  abbrev each : (P : Entry → Type 0) → ((e : Entry) → IsKept all.rows e → P e) → AllByRecursion P jobs
  each P so = all_weaker (IsKept all.rows) P so jobs kept.kept

  owned_in : (found rows : List Row) → found ≡ rows → AllByRecursion (IsOwned all.jobs) found → AllByRecursion (IsOwned all.jobs) rows
  owned_in found rows is owned = subst (AllByRecursion (IsOwned all.jobs)) is owned

  stretches : IsOf (db.trees 3) (λ customer number. placed (row.stretch_row customer number) 0 (stretches_of (office.job_of customer number jobs)))
  stretches = is_of jobs all.jobs kept.jobs (db.trees 3) (λ customer number o. placed (row.stretch_row customer number) 0 (stretches_of o)) (λ customer number. refl)
      (owned_in _ _ read.stretches kept.owned.stretches)
      (each _ (λ e k. ap (rows_of e.customer e.number) (sym read.stretches) ∙ k.stretches)) bureaus.in_order.stretches

  cards : IsOf (db.trees 7) (λ customer number. placed (row.card_row customer number) 1 (cards_of (office.job_of customer number jobs)))
  cards = is_of jobs all.jobs kept.jobs (db.trees 7) (λ customer number o. placed (row.card_row customer number) 1 (cards_of o)) (λ customer number. refl)
      (owned_in _ _ read.cards kept.owned.cards)
      (each _ (λ e k. ap (rows_of e.customer e.number) (sym read.cards) ∙ k.machine.cards)) bureaus.in_order.cards

  lines : IsOf (db.trees 9) (λ customer number. placed (row.line_row customer number) 1 (lines_of (office.job_of customer number jobs)))
  lines = is_of jobs all.jobs kept.jobs (db.trees 9) (λ customer number o. placed (row.line_row customer number) 1 (lines_of o)) (λ customer number. refl)
      (owned_in _ _ read.lines kept.owned.lines)
      (each _ (λ e k. ap (rows_of e.customer e.number) (sym read.lines) ∙ k.machine.lines)) bureaus.in_order.lines

  states : IsOf (db.trees 11) (λ customer number. state_rows customer number (state_of (office.job_of customer number jobs)))
  states = is_of jobs all.jobs kept.jobs (db.trees 11) (λ customer number o. state_rows customer number (state_of o)) (λ customer number. refl)
      (owned_in _ _ read.states kept.owned.states)
      (each _ (λ e k. ap (rows_of e.customer e.number) (sym read.states) ∙ k.machine.states)) bureaus.in_order.states

  profiles : IsOf (db.trees 15) (λ customer number. profile_rows customer number (profile_of (office.job_of customer number jobs)))
  profiles = is_of jobs all.jobs kept.jobs (db.trees 15) (λ customer number o. profile_rows customer number (profile_of o)) (λ customer number. refl)
      (owned_in _ _ read.profiles kept.owned.profiles)
      (each _ (λ e k. ap (rows_of e.customer e.number) (sym read.profiles) ∙ k.machine.profiles)) bureaus.in_order.profiles

  pages : IsOfEach row.page_row (db.trees 13) (λ customer number. pages_of (office.job_of customer number jobs))
  pages = is_of_each jobs all.jobs kept.jobs row.page_row (db.trees 13) all.rows.pages read.pages pages_of (λ place. refl) kept.owned.pages
      (each _ (λ e k place.
      let s = (picture e.job).works.storage in
      filter_within (is_row_at e.customer e.number place) (is_row_of e.customer e.number) (at_is_of e.customer e.number place) all.rows.pages
      ∙ ap (filter (is_row_at e.customer e.number place)) k.machine.pages
      ∙ at_places page_cell row.page_row e.customer e.number (page_keyed e.customer e.number) place 0 (pages_from s 0 (page_count s))
      ∙ ap (λ o. map (row.page_row e.customer e.number place) (option_to_list o)) (pages_all s place)))
      (each _ (λ e k.
      let s = (picture e.job).works.storage in
      subst (AllByRecursion (IsOne row.page_row)) (sym k.machine.pages) (are_ones page_cell row.page_row e.customer e.number (page_keyed e.customer e.number) 0 (pages_from s 0 (page_count s)))))
      bureaus.in_order.pages

  pockets : IsOfEach row.pocket_row (db.trees 17) (λ customer number. pockets_of (office.job_of customer number jobs))
  pockets = is_of_each jobs all.jobs kept.jobs row.pocket_row (db.trees 17) all.rows.pockets read.pockets pockets_of (λ place. refl) kept.owned.pockets
      (each _ (λ e k place.
      let punched = (picture e.job).works.units.punch.cards in
      filter_within (is_row_at e.customer e.number place) (is_row_of e.customer e.number) (at_is_of e.customer e.number place) all.rows.pockets
      ∙ ap (filter (is_row_at e.customer e.number place)) k.machine.pockets
      ∙ at_places card_pocket row.pocket_row e.customer e.number (pocket_keyed e.customer e.number) place 1 punched
      ∙ ap (λ o. map (row.pocket_row e.customer e.number place) (option_to_list o)) (pockets_at 1 punched place)))
      (each _ (λ e k.
      let punched = (picture e.job).works.units.punch.cards in
      subst (AllByRecursion (IsOne row.pocket_row)) (sym k.machine.pockets) (are_ones card_pocket row.pocket_row e.customer e.number (pocket_keyed e.customer e.number) 1 punched)))
      bureaus.in_order.pockets

  version : db.trees 0 ≡ version_rows 4
  version =
      let one : IsPermutation version_row (map version_columns (db.trees 0)) = IsPermutation-sym _ _ (subst (IsPermutation (map version_columns (db.trees 0))) kept.version read.version) in
      version_rows_are (db.trees 0) (one_permutation _ _ one) (bureau_typed db bureaus)

  pub rows_stand : Rows db jobs
  rows_stand = record {
    tables = record {
      schema = bureaus.schema;
      sound = bureaus.sound;
      version = version;
      shared = record {
        jobs = sym read.jobs ∙ kept.jobs ∙ map_jobs jobs;
        jobs_rise = bureaus.in_order.jobs;
        distinct = distinct_named jobs kept.distinct;
        stretches = stretches;
        cards = cards;
        lines = lines;
      };
      states = states;
      pages = pages;
      beside = record { profiles_are = profiles; pockets_are = pockets };
    };
    jobs = each (λ e. CanBeKept e.job) (λ e k. k.can);
  }

pub stands_for : (db : Database) (all : WholeTables) (report : Report) → IsBureaus db → AreRowsOf db.trees all → KeepsTold all report → StandsFor db report
stands_for db all report bureaus read told = record { office = told.office; named = told.named; rows = rows_stand db all told.office bureaus read told.kept; tells = told.tells }
