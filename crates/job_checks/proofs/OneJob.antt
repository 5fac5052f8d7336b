-- The rows of one job among those of all.
use Rattle.std.proofs.Common.{◌≡◌, ◌==◌, ℕ, List, map, filter, Option, sym, ap, subst, ◌∙◌}
use Rattle.std.specs.List.{AllByRecursion}
use Rattle.std.specs.List.Sorted.{IsPermutation}
use Rattle.std.specs.Option.{option_to_list}
use Rattle.std.proofs.lemmas.List.Sorted.{IsPermutation-sym, IsPermutation-trans}
use Rattle.sqlite_keyed.proofs.ListLemmas.{ascending-filter, filter-filter, IsPermutation-filter}
use Rattle.core_store.specs.Pages.{page_count}
use Rattle.office.specs.Jobs.{picture}
use Rattle.office.specs.Office.{Entry}
use Rattle.sqlite.specs.Order.{Row}
use Rattle.sqlite.specs.Tree.{Trees}
use Rattle.ledger_tables.specs.Tables as row
use Rattle.ledger_tables.specs.Tables.{cells, is_row_at, is_row_of, IsOne}
use Rattle.ledger_tables.proofs.LookupKeys.{at_most_one}
use Rattle.job_checks.specs.Kept.{IsKept}
use Rattle.job_checks.specs.Tables.{pages_from, placed_some, rows_of, AreRowsOf, AreRowsOfJob, RiseByPlace, TableRows, WholeTables}
use Rattle.job_checks.proofs.KeptLemmas.{are_made, BeginsAs}
use Rattle.job_checks.proofs.KeptRows.{pages_begin, pockets_begin}
use Rattle.job_checks.proofs.PlacedLemmas.{page_cell}
use Rattle.job_checks.proofs.StandingLemmas.{are_ones, at_places, permuted_all, thing_at}
use Rattle.job_checks.proofs.StandingRows.{card_pocket, page_keyed, pocket_keyed}

-- a test that is made twice
twice : (customer : List ℕ) (number : ℕ) (rows : List Row) → rows_of customer number (rows_of customer number rows) ≡ rows_of customer number rows
twice customer number rows = filter-filter (is_row_of customer number) (is_row_of customer number) (λ r is. is) rows

-- the rows of one job among these
abbrev one_of : List ℕ → ℕ → TableRows → TableRows
one_of customer number rows = record {
  stretches = rows_of customer number rows.stretches;
  states = rows_of customer number rows.states;
  pages = rows_of customer number rows.pages;
  cards = rows_of customer number rows.cards;
  lines = rows_of customer number rows.lines;
  profiles = rows_of customer number rows.profiles;
  pockets = rows_of customer number rows.pockets;
}

are_of_job : (db : Trees) (all : WholeTables) → AreRowsOf db all → (customer : List ℕ) (number : ℕ) → AreRowsOfJob db customer number (one_of customer number all.rows)
are_of_job db all read customer number = record {
  stretches = ap (rows_of customer number) read.stretches;
  cards = ap (rows_of customer number) read.cards;
  lines = ap (rows_of customer number) read.lines;
  states = ap (rows_of customer number) read.states;
  pages = IsPermutation-filter (is_row_of customer number) _ _ read.pages;
  pages_rise = ascending-filter _ (is_row_of customer number) _ read.pages_rise;
  profiles = ap (rows_of customer number) read.profiles;
  pockets = IsPermutation-filter (is_row_of customer number) _ _ read.pockets;
  pockets_rise = ascending-filter _ (is_row_of customer number) _ read.pockets_rise;
}

-- a job that is kept among its own rows is so among all
kept_among : (rows : TableRows) (e : Entry) → IsKept (one_of e.customer e.number rows) e → IsKept rows e
kept_among rows e kept =
    let all : (xs : List Row) → rows_of e.customer e.number xs ≡ rows_of e.customer e.number (rows_of e.customer e.number xs) = λ xs. sym (twice e.customer e.number xs) in
    record {
      can = kept.can;
      stretches = all rows.stretches ∙ kept.stretches;
      machine = record {
        states = all rows.states ∙ kept.machine.states;
        pages = all rows.pages ∙ kept.machine.pages;
        cards = all rows.cards ∙ kept.machine.cards;
        lines = all rows.lines ∙ kept.machine.lines;
        profiles = all rows.profiles ∙ kept.machine.profiles;
        pockets = all rows.pockets ∙ kept.machine.pockets;
      };
    }

-- what is kept among each reading of a job's rows is so among all rows
pub kept_in_all : (db : Trees) (all : WholeTables) → AreRowsOf db all → (e : Entry) → ((rows : TableRows) → AreRowsOfJob db e.customer e.number rows → IsKept rows e) → IsKept all.rows e
kept_in_all db all read e each = kept_among all.rows e (each (one_of e.customer e.number all.rows) (are_of_job db all read e.customer e.number))

-- ---- rows that were sorted

-- rows of things at places that rise are those of the things, whatever their order was
module _ {X Y : Type 0} (row : List ℕ → ℕ → ℕ → Y → Row) (begins : BeginsAs row) (cell : X → Option Y) (first : ℕ) (xs : List X) (customer : List ℕ) (number : ℕ)
    (keyed : (place k : ℕ) (y : Y) → is_row_at customer number place (row customer number k y) ≡ (k == place)) (found : List Row)
    (same : IsPermutation (placed_some cell (row customer number) first xs) found) (up : RiseByPlace found) where
  ones : AllByRecursion (IsOne row) found
  ones = permuted_all (IsOne row) _ found same (are_ones cell row customer number keyed first xs)

  each : (place : ℕ) → filter (is_row_at customer number place) found ≡ map (row customer number place) (option_to_list (thing_at cell first xs place))
  each place =
      at_most_one (row customer number place) (thing_at cell first xs place) _
      (subst (λ rows. IsPermutation rows (filter (is_row_at customer number place) found)) (at_places cell row customer number keyed place first xs) (IsPermutation-filter (is_row_at customer number place) _ _ same))

  pub sorted_made : rows_of customer number found ≡ placed_some cell (row customer number) first xs
  sorted_made = are_made row begins cell first xs customer number found ones up each

module _ (db : Trees) (e : Entry) (one two : TableRows) (first : AreRowsOfJob db e.customer e.number one) (second : AreRowsOfJob db e.customer e.number two) (kept : IsKept one e) where
  -- rows that are the same in both readings
  again : (wanted : List Row) (xs ys rows : List Row) → xs ≡ rows_of e.customer e.number rows → ys ≡ rows_of e.customer e.number rows → rows_of e.customer e.number xs ≡ wanted → rows_of e.customer e.number ys ≡ wanted
  again wanted xs ys rows a b is = ap (rows_of e.customer e.number) (b ∙ sym a) ∙ is

  -- rows that were sorted are those of the job
  moved : (wanted : List Row) (xs ys rows : List Row) → IsPermutation (rows_of e.customer e.number rows) xs → IsPermutation (rows_of e.customer e.number rows) ys → rows_of e.customer e.number xs ≡ wanted → IsPermutation wanted ys
  moved wanted xs ys rows a b is =
      let itself : rows_of e.customer e.number (rows_of e.customer e.number rows) ≡ rows_of e.customer e.number rows = twice e.customer e.number rows in
      let there : IsPermutation (rows_of e.customer e.number rows) wanted = subst (λ l. IsPermutation l wanted) itself (subst (λ l. IsPermutation (rows_of e.customer e.number (rows_of e.customer e.number rows)) l) is (IsPermutation-filter (is_row_of e.customer e.number) _ _ a)) in
      IsPermutation-trans _ _ _ (IsPermutation-sym _ _ there) b

  -- a job that is kept among one reading of its rows is so among another
  pub kept_again : IsKept two e
  kept_again =
      let m = picture e.job in
      let s = m.works.storage in
      let punched = m.works.units.punch.cards in
      record {
        can = kept.can;
        stretches = again _ _ _ (cells (db 3)) first.stretches second.stretches kept.stretches;
        machine = record {
          states = again _ _ _ (cells (db 11)) first.states second.states kept.machine.states;
          pages = sorted_made row.page_row pages_begin page_cell 0 (pages_from s 0 (page_count s)) e.customer e.number (page_keyed e.customer e.number) two.pages (moved _ _ _ (cells (db 13)) first.pages second.pages kept.machine.pages) second.pages_rise;
          cards = again _ _ _ (cells (db 7)) first.cards second.cards kept.machine.cards;
          lines = again _ _ _ (cells (db 9)) first.lines second.lines kept.machine.lines;
          profiles = again _ _ _ (cells (db 15)) first.profiles second.profiles kept.machine.profiles;
          pockets = sorted_made row.pocket_row pockets_begin card_pocket 1 punched e.customer e.number (pocket_keyed e.customer e.number) two.pockets (moved _ _ _ (cells (db 17)) first.pockets second.pockets kept.machine.pockets) second.pockets_rise;
        };
      }

-- what is kept among all rows is so among each reading of the job's own
pub kept_in_one : (db : Trees) (all : WholeTables) → AreRowsOf db all → (e : Entry) → IsKept all.rows e → (rows : TableRows) → AreRowsOfJob db e.customer e.number rows → IsKept rows e
kept_in_one db all read e kept rows are =
    let c = e.customer in
    let n = e.number in
    let back : (xs : List Row) → rows_of c n (rows_of c n xs) ≡ rows_of c n xs = twice c n in
    let own : IsKept (one_of c n all.rows) e = record {
      can = kept.can;
      stretches = back all.rows.stretches ∙ kept.stretches;
      machine = record {
        states = back all.rows.states ∙ kept.machine.states;
        pages = back all.rows.pages ∙ kept.machine.pages;
        cards = back all.rows.cards ∙ kept.machine.cards;
        lines = back all.rows.lines ∙ kept.machine.lines;
        profiles = back all.rows.profiles ∙ kept.machine.profiles;
        pockets = back all.rows.pockets ∙ kept.machine.pockets;
      };
    } in
    kept_again db e (one_of c n all.rows) rows (are_of_job db all read c n) are own
