-- rows of tables, as they were read
use Rattle.std.specs.Prelude.{◌≡◌, ℕ, ◌+◌, ◌++◌, zero, suc, List, [], ◌∷◌, map, filter, Option, Result, IfOk, OnOk, IsPermutation, IsTrue, ⊤}
use Rattle.std.specs.Option.{option_to_list}
use Rattle.std.specs.declared.cmp.Ordering.TheVariants.{Greater}
use Rattle.core_store.specs.Storage.{Storage}
use Rattle.sqlite.specs.Effect.{Database, IsDatabase}
use Rattle.sqlite.specs.Order.{Row, column, value_cmp}
use Rattle.sqlite.specs.Tree.{IsAscending, Trees}
use Rattle.sqlite.specs.Held.{Held, state}
use Rattle.sqlite.specs.State.{HasCleanDisk, IsUnchanged, State}
use Rattle.sqlite.specs.View.{IsClean, IsShaped}
use Rattle.sqlite_trees.specs.declared.store.Shape.TheVariants.{Table}
use Rattle.sqlite_trees.specs.declared.store.Store.{Ghosts}
use Rattle.texts.specs.declared.names.JobName.{JobName}
use Rattle.ledger_rows.specs.Pages.{page_bytes}
use Rattle.ledger_tables.specs.Schema.{bureau_schema}
use Rattle.ledger_tables.specs.Tables.{cells, is_row_of}
use Rattle.ledger_tables.specs.declared.faults.Fault.{Fault}
use Rattle.job_checks.specs.declared.job_rows.JobRows.{JobRows}

-- rows of each table other than `bureau` and `jobs`: of one job, or of all
pub record TableRows : Type 0 where
  pub stretches : List Row
  pub states : List Row
  pub pages : List Row
  pub cards : List Row
  pub lines : List Row
  pub profiles : List Row
  pub pockets : List Row

-- the rows of all tables
pub record WholeTables : Type 0 where
  pub version : List Row
  pub jobs : List Row
  pub rows : TableRows

-- the rows that were read of one job
abbrev pub tables_of : JobRows → TableRows
tables_of rows = record {
  stretches = rows.stretches.items;
  states = rows.states.items;
  pages = rows.pages.items;
  cards = rows.cards.items;
  lines = rows.lines.items;
  profiles = rows.profiles.items;
  pockets = rows.pockets.items;
}

-- each table's rows are in the order of their rowids, as a store keeps them
pub record AreInOrder (db : Trees) : Type 0 where
  pub jobs : IsShaped Table (db 1)
  pub stretches : IsShaped Table (db 3)
  pub cards : IsShaped Table (db 7)
  pub lines : IsShaped Table (db 9)
  pub states : IsShaped Table (db 11)
  pub pages : IsShaped Table (db 13)
  pub profiles : IsShaped Table (db 15)
  pub pockets : IsShaped Table (db 17)

-- a bureau's database by its schema, with each table in order
pub record IsBureaus (db : Database) : Type 0 where
  pub schema : db.schema ≡ bureau_schema
  pub sound : IsDatabase db
  pub in_order : AreInOrder db.trees

-- the columns of a row of the table `bureau`: its number, which is its rowid, and the version
abbrev pub version_columns : Row → Row
version_columns row = column row 0 ∷ column row 2 ∷ []

-- these rows rise by the number of a page or of a place in their third column
abbrev pub RiseByPlace : List Row → Type 0
RiseByPlace = IsAscending (λ a b. ¬ (value_cmp (column a 2) (column b 2) ≡ Greater))

-- the rows read are those of the tables without their rowids, each table's in its order, and those
-- of pages and of pockets in the order of their pages and places
pub record AreRowsOf (db : Trees) (t : WholeTables) : Type 0 where
  pub version : IsPermutation (map version_columns (db 0)) t.version
  pub jobs : t.jobs ≡ cells (db 1)
  pub stretches : t.rows.stretches ≡ cells (db 3)
  pub cards : t.rows.cards ≡ cells (db 7)
  pub lines : t.rows.lines ≡ cells (db 9)
  pub states : t.rows.states ≡ cells (db 11)
  pub pages : IsPermutation (cells (db 13)) t.rows.pages
  pub pages_rise : RiseByPlace t.rows.pages
  pub profiles : t.rows.profiles ≡ cells (db 15)
  pub pockets : IsPermutation (cells (db 17)) t.rows.pockets
  pub pockets_rise : RiseByPlace t.rows.pockets

-- the rows of the job with this customer and this number among these
abbrev pub rows_of : List ℕ → ℕ → List Row → List Row
rows_of customer number = filter (is_row_of customer number)

-- these are the rows of one job in the tables, each table's in its order, and those of pages and of
-- pockets in the order of their pages and places
pub record AreRowsOfJob (db : Trees) (customer : List ℕ) (number : ℕ) (t : TableRows) : Type 0 where
  pub stretches : t.stretches ≡ rows_of customer number (cells (db 3))
  pub cards : t.cards ≡ rows_of customer number (cells (db 7))
  pub lines : t.lines ≡ rows_of customer number (cells (db 9))
  pub states : t.states ≡ rows_of customer number (cells (db 11))
  pub pages : IsPermutation (rows_of customer number (cells (db 13))) t.pages
  pub pages_rise : RiseByPlace t.pages
  pub profiles : t.profiles ≡ rows_of customer number (cells (db 15))
  pub pockets : IsPermutation (rows_of customer number (cells (db 17))) t.pockets
  pub pockets_rise : RiseByPlace t.pockets

-- the rows of a job among these
abbrev pub rows_of_job : JobName → List Row → List Row
rows_of_job name rows = rows_of name.customer.now name.number rows

-- the rows of those of these things that have one, with places that rise by one from the first
abbrev pub placed_some : {X Y : Type 0} → (X → Option Y) → (ℕ → Y → Row) → ℕ → List X → List Row
placed_some cell row first [] = []
placed_some cell row first (x ∷ xs) =
    map (row first) (option_to_list (cell x)) ++ placed_some cell row (first + 1) xs

-- the bytes of so many pages of a storage from this one on
abbrev pub pages_from : Storage → ℕ → ℕ → List (List ℕ)
pages_from s first zero = []
pages_from s first (suc count) = page_bytes s first ∷ pages_from s (first + 1) count

-- the database is a bureau's, and these are its rows
pub record HasRows (db : Database) (all : WholeTables) : Type 0 where
  pub bureaus : IsBureaus db
  pub rows : AreRowsOf db.trees all

-- ---- reading

-- the disk was as clean before, and a crash leaves nothing now that it might not have left before
abbrev pub LeavesLess : State → State → Type 0
LeavesLess old new = HasCleanDisk new
    → HasCleanDisk old × ((db : Trees) → new.may_leave db → old.may_leave db)

module _ {S : Type 0} (g : Ghosts S) (old new : Held S) where
  -- on Ok, if the database has a bureau's schema, it is unchanged, and if it is a bureau's, this
  -- holds of its trees and of what was read
  abbrev pub Reads : {X : Type 0} → Result X Fault → (Trees → X → Type 0) → Type 0
  Reads result Are = HasCleanDisk (state g new) → IfOk result (λ read.
      (state g old).now.schema ≡ bureau_schema → IsUnchanged (state g old) (state g new)
      × (IsBureaus (state g old).now → Are (state g old).now.trees read))

  -- the same of a connection that was open
  abbrev pub ReadsOn : {X : Type 0} → Result X Fault → (Trees → X → Type 0) → Type 0
  ReadsOn result Are = HasCleanDisk (state g new) → IsTrue (state g old).is_open
      → IfOk result (λ read. (state g old).now.schema ≡ bureau_schema
      → IsUnchanged (state g old) (state g new)
      × (IsBureaus (state g old).now → Are (state g old).now.trees read))

  -- on Ok, if the database has a bureau's schema, it is what is committed still, its trees obey its
  -- schema, and if it is a bureau's, this holds of its trees and of what was read
  abbrev pub ReadsSettled : {X : Type 0} → Result X Fault → (Trees → X → Type 0) → Type 0
  ReadsSettled result Are = HasCleanDisk (state g new) → IfOk result (λ read.
      (state g old).now.schema ≡ bureau_schema
      → (IsTrue (state g new).is_open → (state g new).committed ≡ (state g old).now)
      × IsDatabase (state g old).now
      × (IsBureaus (state g old).now → Are (state g old).now.trees read))

module _ {S : Type 0} (g : Ghosts S) where
  -- on Ok, if the connection saw a bureau's schema, it saw a bureau's database, and this holds of
  -- its trees and of what was read
  abbrev pub ReadsAlone : {X : Type 0} → Held S → S → Result X Fault → (Trees → X → Type 0)
      → Type 0
  ReadsAlone conn store result Are = IsClean (g.view store) → IfOk result (λ read.
      (state g conn).now.schema ≡ bureau_schema → IsBureaus (state g conn).now
      × Are (state g conn).now.trees read)

  -- on Ok, if the store is clean, the disk was so, and what had a bureau's schema, obeyed it and
  -- was committed is a bureau's database
  abbrev pub HandsBack : Held S → S → Result ⊤ Fault → Type 0
  HandsBack conn store result = IsClean (g.view store) → OnOk result
      (HasCleanDisk (state g conn) × ((db : Database) → db.schema ≡ bureau_schema → IsDatabase db
      → (IsTrue (state g conn).is_open → (state g conn).committed ≡ db) → IsBureaus db))

  -- a crash leaves nothing of the store that it might not have left of the connection
  abbrev pub LeavesNoMore : Held S → S → Type 0
  LeavesNoMore conn store = IsClean (g.view store) → (db : Trees) → g.recovers store db
      → (state g conn).may_leave db
