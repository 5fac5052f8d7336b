-- The rows of tables that stand for an office are those of the office.
use Rattle.std.proofs.Common.{◌≡◌, ℕ, List, map, Option, Some, refl, ap, subst, ◌∙◌}
use Rattle.std.specs.List.Sorted.{IsPermutation}
use Rattle.core_store.specs.Pages.{page_count}
use Rattle.machine.specs.Run.{State}
use Rattle.units.specs.declared.punch.Punched.{Punched}
use Rattle.office.specs.Jobs.{Job, picture}
use Rattle.office.specs.Office.{Entry, Office, AreDistinct, entry_of}
use Rattle.ledger_rows.specs.Pockets.{pocket_cell}
use Rattle.sqlite.proofs.Callers.{one_permutation}
use Rattle.sqlite.specs.Effect.{Database}
use Rattle.sqlite.specs.Order.{Row}
use Rattle.sqlite_keyed.proofs.ListLemmas.{map-map}
use Rattle.ledger_tables.specs.Tables as row
use Rattle.ledger_tables.specs.Tables.{job_row, placed, state_rows, profile_rows}
use Rattle.office_tables.specs.Standing.{named, stretches_of, state_of, pages_of, cards_of, lines_of, profile_of, pockets_of, CanBeKept, Rows}
use Rattle.job_checks.specs.Kept.{rows_of_stretches, version_row, AreKept, AreOwned, HasMachine, IsKept}
use Rattle.job_checks.specs.Tables.{pages_from, rows_of, version_columns, HasRows, WholeTables}
use Rattle.job_checks.proofs.AmongLemmas.{IsAmong, all_among, from_among}
use Rattle.job_checks.proofs.KeptLemmas.{all_owned, all_things_owned, distinct_jobs, found_itself, has_rows, has_things, BeginsAs}
use Rattle.job_checks.proofs.OfficeLemmas.{row_in_jobs}
use Rattle.job_checks.proofs.PlacedLemmas.{page_cell}
use Rattle.job_checks.proofs.StandingRows.{pages_all, pockets_at}

-- rows of pages and of pockets begin with their job's name and their place
pub pages_begin : BeginsAs row.page_row
pages_begin = record { customer = λ customer number place y. refl; number = λ customer number place y. refl; place = λ customer number place y. refl }

pub pockets_begin : BeginsAs row.pocket_row
pockets_begin = record { customer = λ customer number place y. refl; number = λ customer number place y. refl; place = λ customer number place y. refl }

-- the rows of a job, or of none, in each table whose rows are in order
abbrev stretches_for : List ℕ → ℕ → Option Job → List Row
stretches_for customer number o = placed (row.stretch_row customer number) 0 (stretches_of o)

abbrev state_for : List ℕ → ℕ → Option Job → List Row
state_for customer number o = state_rows customer number (state_of o)

abbrev cards_for : List ℕ → ℕ → Option Job → List Row
cards_for customer number o = placed (row.card_row customer number) 1 (cards_of o)

abbrev lines_for : List ℕ → ℕ → Option Job → List Row
lines_for customer number o = placed (row.line_row customer number) 1 (lines_of o)

abbrev profile_for : List ℕ → ℕ → Option Job → List Row
profile_for customer number o = profile_rows customer number (profile_of o)

module _ (db : Database) (all : WholeTables) (jobs : Office) (has : HasRows db all) (rows : Rows db jobs) where
  -- the rows of `jobs` are those of the office's jobs
  jobs_are : all.jobs ≡ map row_in_jobs jobs
  jobs_are = has.rows.jobs ∙ rows.tables.shared.jobs ∙ map-map job_row named jobs

  -- no two jobs have the same name
  distinct : AreDistinct jobs
  distinct = distinct_jobs jobs rows.tables.shared.distinct

  -- the version is this program's
  version : all.version ≡ version_row
  version = one_permutation _ _ (subst (λ xs. IsPermutation xs all.version) (ap (map version_columns) rows.tables.version) has.rows.version)

  -- each row of the other tables names a job
  owned : AreOwned all
  owned = record {
    stretches = all_owned jobs all.jobs jobs_are (db.trees 3) stretches_for (λ customer number. refl) rows.tables.shared.stretches all.rows.stretches has.rows.stretches;
    states = all_owned jobs all.jobs jobs_are (db.trees 11) state_for (λ customer number. refl) rows.tables.states all.rows.states has.rows.states;
    pages = all_things_owned jobs all.jobs jobs_are row.page_row pages_begin (db.trees 13) all.rows.pages has.rows.pages pages_of (λ place. refl) rows.tables.pages;
    cards = all_owned jobs all.jobs jobs_are (db.trees 7) cards_for (λ customer number. refl) rows.tables.shared.cards all.rows.cards has.rows.cards;
    lines = all_owned jobs all.jobs jobs_are (db.trees 9) lines_for (λ customer number. refl) rows.tables.shared.lines all.rows.lines has.rows.lines;
    profiles = all_owned jobs all.jobs jobs_are (db.trees 15) profile_for (λ customer number. refl) rows.tables.beside.profiles_are all.rows.profiles has.rows.profiles;
    pockets = all_things_owned jobs all.jobs jobs_are row.pocket_row pockets_begin (db.trees 17) all.rows.pockets has.rows.pockets pockets_of (λ place. refl) rows.tables.beside.pockets_are;
  }

  module _ (e : Entry) (there : entry_of e.customer e.number jobs ≡ Some e) where
    abbrev m : State
    m = picture e.job

    -- the tables have the rows of the job's machine, and no others of it
    machine : HasMachine e.customer e.number all.rows m
    machine = record {
      states = has_rows jobs all.jobs jobs_are (db.trees 11) state_for (λ customer number. refl) rows.tables.states all.rows.states has.rows.states e there;
      pages = has_things jobs all.jobs jobs_are row.page_row pages_begin (db.trees 13) all.rows.pages has.rows.pages pages_of (λ place. refl) rows.tables.pages has.rows.pages_rise
          page_cell 0 (pages_from m.works.storage 0 (page_count m.works.storage)) e there (pages_all m.works.storage);
      cards = has_rows jobs all.jobs jobs_are (db.trees 7) cards_for (λ customer number. refl) rows.tables.shared.cards all.rows.cards has.rows.cards e there;
      lines = has_rows jobs all.jobs jobs_are (db.trees 9) lines_for (λ customer number. refl) rows.tables.shared.lines all.rows.lines has.rows.lines e there;
      profiles = has_rows jobs all.jobs jobs_are (db.trees 15) profile_for (λ customer number. refl) rows.tables.beside.profiles_are all.rows.profiles has.rows.profiles e there;
      pockets = has_things jobs all.jobs jobs_are row.pocket_row pockets_begin (db.trees 17) all.rows.pockets has.rows.pockets pockets_of (λ place. refl) rows.tables.beside.pockets_are has.rows.pockets_rise
          (λ (c : Punched). pocket_cell c.pocket) 1 m.works.units.punch.cards e there (pockets_at 1 m.works.units.punch.cards);
    }

    -- and those of its stretches
    stretches : rows_of e.customer e.number all.rows.stretches ≡ rows_of_stretches e.customer e.number e.job.stretches
    stretches = has_rows jobs all.jobs jobs_are (db.trees 3) stretches_for (λ customer number. refl) rows.tables.shared.stretches all.rows.stretches has.rows.stretches e there

  -- the rows of each entry's job are kept
  kept_one : (e : Entry) → IsAmong e jobs → IsKept all.rows e
  kept_one e among =
      let there = found_itself jobs distinct e among in
      record { can = all_among (λ (e : Entry). CanBeKept e.job) e jobs rows.jobs among; stretches = stretches e there; machine = machine e there }

  -- the rows of all tables are those of the office
  pub kept_by : AreKept all jobs
  kept_by = record { version = version; jobs = jobs_are; distinct = distinct; kept = from_among (IsKept all.rows) jobs kept_one; owned = owned }
