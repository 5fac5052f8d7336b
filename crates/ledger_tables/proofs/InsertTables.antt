-- What each INSERT makes of the tables.
use Rattle.std.proofs.Common.{◌≡◌, ℕ, pos, List, [], ◌∷◌, ◌++◌, ◌+◌, length, Ok, None, refl, sym, ap, subst, ◌∙◌, arith}
use Rattle.std.proofs.lemmas.List.{map-append}
use Rattle.sqlite.specs.declared.types.Value.TheVariants.{Null, Int, Blob}
use Rattle.sqlite.specs.Order.{Row}
use Rattle.sqlite.specs.Term.{lit, col}
use Rattle.sqlite.specs.Tree.{put_row}
use Rattle.sqlite.specs.Edit.{next_rowid}
use Rattle.sqlite.specs.View.{IsShaped}
use Rattle.sqlite.specs.State.{State, ExecutesInside}
use Rattle.sqlite_trees.specs.declared.store.Shape.TheVariants.{Table}
use Rattle.ledger_tables.specs.Cells.{JobCells, LineCells}
use Rattle.ledger_tables.specs.declared.rows.StateRow.{StateRow}
use Rattle.ledger_tables.specs.declared.rows.StretchRow.{StretchRow}
use Rattle.ledger_tables.specs.Schema.{jobs, stretches, states, cards, lines, bureau_schema}
use Rattle.ledger_tables.specs.Tables.{NamedJob, Tables, Holds, job_named, with_job, with_stretches, with_state, with_cards, with_lines, job_row, stretch_row, state_row, state_columns, card_row, line_row, cells}
use Rattle.ledger_tables.proofs.Texts.{insert_jobs, insert_jobs_is, insert_stretches, insert_stretches_is, insert_states, insert_states_is, insert_cards, insert_cards_is, insert_lines, insert_lines_is}
use Rattle.ledger_tables.proofs.InsertStatement.{adds, apart, cast_int, cast_null}
use Rattle.ledger_tables.proofs.InsertPlaces.{next_cells, next_shaped}
use Rattle.ledger_tables.proofs.InsertLast.{still, still_each, still_profiles, still_shared, shared_with, distinct_with, placed_behind, one_behind, row_behind}

abbrev pub named : List ℕ → ℕ → JobCells → NamedJob
named customer number job = record { customer = customer; number = number; cells = job }

pub job_added : (old new : State) (customer : List ℕ) (number : ℕ) (job : JobCells) (count : ℕ) → ExecutesInside 0 insert_jobs (job_row (named customer number job)) old new (Ok count)
    → (t : Tables) → Holds old.now t → job_named customer number t.jobs ≡ None → Holds new.now (with_job customer number job t)
job_added old new customer number job count h t holds free =
    let row : Row = job_row (named customer number job) in
    let did = adds bureau_schema insert_jobs 1 (record jobs { tree = 1 }) (lit Null ∷ col 0 0 ∷ col 0 1 ∷ col 0 2 ∷ col 0 3 ∷ col 0 4 ∷ col 0 5 ∷ col 0 6 ∷ col 0 7 ∷ []) 9 insert_jobs_is refl old new row count holds.schema h.0 in
    let now : new.now.trees 1 ≡ put_row (Int (next_rowid (old.now.trees 1)) ∷ row) (old.now.trees 1) = did.1 ∙ simp (cast_null, cast_int) in
    record {
      schema = did.0;
      sound = did.3;
      version = did.2.0 (apart refl) ∙ holds.version;
      shared = record {
        jobs = ap cells now ∙ next_cells row (old.now.trees 1) holds.shared.jobs_rise ∙ ap (λ xs. xs ++ row ∷ []) holds.shared.jobs ∙ sym (map-append job_row t.jobs (named customer number job ∷ []));
        jobs_rise = subst (IsShaped Table) (sym now) (next_shaped row (old.now.trees 1) holds.shared.jobs_rise);
        distinct = distinct_with (named customer number job) t.jobs holds.shared.distinct free;
        stretches = still (did.2.1.1.0 (apart refl)) holds.shared.stretches;
        cards = still (did.2.1.1.1.0 (apart refl)) holds.shared.cards;
        lines = still (did.2.1.1.1.1.0 (apart refl)) holds.shared.lines;
      };
      states = still (did.2.1.1.1.1.1.0 (apart refl)) holds.states;
      pages = still_each (did.2.1.1.1.1.1.1.0 (apart refl)) holds.pages;
      beside = still_profiles holds.beside (did.2.1.1.1.1.1.1.1.0 (apart refl)) (did.2.1.1.1.1.1.1.1.1.0 (apart refl));
    }

pub stretch_added : (old new : State) (customer : List ℕ) (number place : ℕ) (stretch : StretchRow) (count : ℕ) → ExecutesInside 0 insert_stretches (stretch_row customer number place stretch) old new (Ok count)
    → (t : Tables) → Holds old.now t → place ≡ length (t.stretches customer number) → Holds new.now (with_stretches customer number (t.stretches customer number ++ stretch ∷ []) t)
stretch_added old new customer number place stretch count h t holds at =
    let row : Row = stretch_row customer number place stretch in
    let did = adds bureau_schema insert_stretches 2 (record stretches { tree = 3 }) (lit Null ∷ col 0 0 ∷ col 0 1 ∷ col 0 2 ∷ col 0 3 ∷ col 0 4 ∷ []) 6 insert_stretches_is refl old new row count holds.schema h.0 in
    let now : new.now.trees 3 ≡ put_row (Int (next_rowid (old.now.trees 3)) ∷ row) (old.now.trees 3) = did.1 ∙ simp (cast_null, cast_int) in
    record {
      schema = did.0;
      sound = did.3;
      version = did.2.0 (apart refl) ∙ holds.version;
      shared = record {
        jobs = ap cells (did.2.1.0 (apart refl)) ∙ holds.shared.jobs;
        jobs_rise = subst (IsShaped Table) (sym (did.2.1.0 (apart refl))) holds.shared.jobs_rise;
        distinct = holds.shared.distinct;
        stretches = still now (row_behind customer number (Int (pos place) ∷ Int (pos stretch.switches) ∷ Int (pos stretch.granted) ∷ []) (old.now.trees 3) _ _ holds.shared.stretches (placed_behind stretch_row 0 customer number place stretch t.stretches (omega (arith, at))));
        cards = still (did.2.1.1.1.0 (apart refl)) holds.shared.cards;
        lines = still (did.2.1.1.1.1.0 (apart refl)) holds.shared.lines;
      };
      states = still (did.2.1.1.1.1.1.0 (apart refl)) holds.states;
      pages = still_each (did.2.1.1.1.1.1.1.0 (apart refl)) holds.pages;
      beside = still_profiles holds.beside (did.2.1.1.1.1.1.1.1.0 (apart refl)) (did.2.1.1.1.1.1.1.1.1.0 (apart refl));
    }

pub state_added : (old new : State) (customer : List ℕ) (number : ℕ) (state : StateRow) (count : ℕ) → ExecutesInside 0 insert_states (state_row customer number state) old new (Ok count)
    → (t : Tables) → Holds old.now t → t.states customer number ≡ None → Holds new.now (with_state customer number state t)
state_added old new customer number state count h t holds at =
    let row : Row = state_row customer number state in
    let did = adds bureau_schema insert_states 5 (record states { tree = 11 }) (lit Null ∷ col 0 0 ∷ col 0 1 ∷ col 0 2 ∷ col 0 3 ∷ col 0 4 ∷ col 0 5 ∷ col 0 6 ∷ col 0 7 ∷ col 0 8 ∷ col 0 9 ∷ col 0 10 ∷ col 0 11 ∷ col 0 12 ∷ col 0 13 ∷ col 0 14 ∷ []) 16 insert_states_is refl old new row count holds.schema h.0 in
    let now : new.now.trees 11 ≡ put_row (Int (next_rowid (old.now.trees 11)) ∷ row) (old.now.trees 11) = did.1 ∙ simp (cast_null, cast_int) in
    record {
      schema = did.0;
      sound = did.3;
      version = did.2.0 (apart refl) ∙ holds.version;
      shared = shared_with _ _ _ _ (still_shared holds.shared (did.2.1.0 (apart refl)) (did.2.1.1.0 (apart refl)) (did.2.1.1.1.0 (apart refl)) (did.2.1.1.1.1.0 (apart refl)));
      states = still now (row_behind customer number (state_columns state) (old.now.trees 11) _ _ holds.states (one_behind state_row customer number state t.states at));
      pages = still_each (did.2.1.1.1.1.1.1.0 (apart refl)) holds.pages;
      beside = still_profiles holds.beside (did.2.1.1.1.1.1.1.1.0 (apart refl)) (did.2.1.1.1.1.1.1.1.1.0 (apart refl));
    }

pub card_added : (old new : State) (customer : List ℕ) (number place : ℕ) (card : List ℕ) (count : ℕ) → ExecutesInside 0 insert_cards (card_row customer number place card) old new (Ok count)
    → (t : Tables) → Holds old.now t → place ≡ length (t.cards customer number) + 1 → Holds new.now (with_cards customer number (t.cards customer number ++ card ∷ []) t)
card_added old new customer number place card count h t holds at =
    let row : Row = card_row customer number place card in
    let did = adds bureau_schema insert_cards 3 (record cards { tree = 7 }) (lit Null ∷ col 0 0 ∷ col 0 1 ∷ col 0 2 ∷ col 0 3 ∷ []) 5 insert_cards_is refl old new row count holds.schema h.0 in
    let now : new.now.trees 7 ≡ put_row (Int (next_rowid (old.now.trees 7)) ∷ row) (old.now.trees 7) = did.1 ∙ simp (cast_null, cast_int) in
    record {
      schema = did.0;
      sound = did.3;
      version = did.2.0 (apart refl) ∙ holds.version;
      shared = record {
        jobs = ap cells (did.2.1.0 (apart refl)) ∙ holds.shared.jobs;
        jobs_rise = subst (IsShaped Table) (sym (did.2.1.0 (apart refl))) holds.shared.jobs_rise;
        distinct = holds.shared.distinct;
        stretches = still (did.2.1.1.0 (apart refl)) holds.shared.stretches;
        cards = still now (row_behind customer number (Int (pos place) ∷ Blob card ∷ []) (old.now.trees 7) _ _ holds.shared.cards (placed_behind card_row 1 customer number place card t.cards (omega (arith, at))));
        lines = still (did.2.1.1.1.1.0 (apart refl)) holds.shared.lines;
      };
      states = still (did.2.1.1.1.1.1.0 (apart refl)) holds.states;
      pages = still_each (did.2.1.1.1.1.1.1.0 (apart refl)) holds.pages;
      beside = still_profiles holds.beside (did.2.1.1.1.1.1.1.1.0 (apart refl)) (did.2.1.1.1.1.1.1.1.1.0 (apart refl));
    }

pub line_added : (old new : State) (customer : List ℕ) (number place : ℕ) (line : LineCells) (count : ℕ) → ExecutesInside 0 insert_lines (line_row customer number place line) old new (Ok count)
    → (t : Tables) → Holds old.now t → place ≡ length (t.lines customer number) + 1 → Holds new.now (with_lines customer number (t.lines customer number ++ line ∷ []) t)
line_added old new customer number place line count h t holds at =
    let row : Row = line_row customer number place line in
    let did = adds bureau_schema insert_lines 4 (record lines { tree = 9 }) (lit Null ∷ col 0 0 ∷ col 0 1 ∷ col 0 2 ∷ col 0 3 ∷ col 0 4 ∷ col 0 5 ∷ []) 7 insert_lines_is refl old new row count holds.schema h.0 in
    let now : new.now.trees 9 ≡ put_row (Int (next_rowid (old.now.trees 9)) ∷ row) (old.now.trees 9) = did.1 ∙ simp (cast_null, cast_int) in
    record {
      schema = did.0;
      sound = did.3;
      version = did.2.0 (apart refl) ∙ holds.version;
      shared = record {
        jobs = ap cells (did.2.1.0 (apart refl)) ∙ holds.shared.jobs;
        jobs_rise = subst (IsShaped Table) (sym (did.2.1.0 (apart refl))) holds.shared.jobs_rise;
        distinct = holds.shared.distinct;
        stretches = still (did.2.1.1.0 (apart refl)) holds.shared.stretches;
        cards = still (did.2.1.1.1.0 (apart refl)) holds.shared.cards;
        lines = still now (row_behind customer number (Int (pos place) ∷ Int (pos line.form) ∷ Int (pos line.line) ∷ Blob line.image ∷ []) (old.now.trees 9) _ _ holds.shared.lines (placed_behind line_row 1 customer number place line t.lines (omega (arith, at))));
      };
      states = still (did.2.1.1.1.1.1.0 (apart refl)) holds.states;
      pages = still_each (did.2.1.1.1.1.1.1.0 (apart refl)) holds.pages;
      beside = still_profiles holds.beside (did.2.1.1.1.1.1.1.1.0 (apart refl)) (did.2.1.1.1.1.1.1.1.1.0 (apart refl));
    }
