-- What the texts mean that read the tables or change a row.
use Rattle.std.proofs.Common.{◌≡◌, ℕ, pos, List, [], ◌∷◌, codes, refl, false}
use Rattle.sqlite.specs.declared.types.Value.TheVariants.{Int}
use Rattle.sqlite.specs.Query.{Query}
use Rattle.sqlite.specs.Schema.{Schema}
use Rattle.sqlite.specs.Term.{Term, col, op2, lit}
use Rattle.sqlite_sql.specs.declared.ops.BinaryOp.TheVariants.{Compare}
use Rattle.sqlite_sql.specs.declared.ops.CompareOp.TheVariants.{Eq}
use Rattle.sqlite.specs.Collation.TheVariants.{Binary}
use Rattle.sqlite.specs.Command.TheVariants.{Update, Delete, Select}
use Rattle.sqlite_tied.specs.Compute.{everything}
use Rattle.sqlite.specs.Listing.{understood, reads_listing}
use Rattle.sqlite_value.specs.Keys.{ascending}
use Rattle.sqlite_value.specs.declared.keys.Key.{Key}
use Rattle.ledger_tables.specs.Schema.{bureau_schema, first_schema, paged_schema}
use Rattle.ledger_tables.specs.Tables.{Beside, schema_beside, pictured, paged, profiled, complete}
use Rattle.ledger_tables.specs.Versions.{select_version}
use Rattle.ledger_tables.proofs.InsertStatement.{Means}
use Rattle.ledger_tables.proofs.LookupStatement.{plain_query, ordered_query}
use Rattle.ledger_tables.proofs.LookupOrder.{sorting_query}
use Rattle.ledger_tables.proofs.Texts.{place_of_pages}

-- the text means this query under a schema, and does not read the listing of tables
abbrev pub SelectsIn : Schema → List ℕ → Query → List (List ℕ) → Type 0
SelectsIn schema sql query names = Means schema sql (Select (record { lets = []; body = query }) names) × (reads_listing schema sql ≡ false)

-- .. under that of a bureau
abbrev pub Selects : List ℕ → Query → List (List ℕ) → Type 0
Selects = SelectsIn bureau_schema

-- the row's customer is the first parameter
abbrev pub is_customer : List Term
is_customer = op2 (Compare Eq Binary) (col 1 1) (col 0 0) ∷ []

-- .. and its number the second
abbrev pub is_key : List Term
is_key = op2 (Compare Eq Binary) (col 1 1) (col 0 0) ∷ op2 (Compare Eq Binary) (col 1 2) (col 0 1) ∷ []

-- .. and its place the third
abbrev pub is_place : List Term
is_place = op2 (Compare Eq Binary) (col 1 1) (col 0 0) ∷ op2 (Compare Eq Binary) (col 1 2) (col 0 1) ∷ op2 (Compare Eq Binary) (col 1 3) (col 0 2) ∷ []

-- ---- the version

abbrev pub version_terms : List Term
version_terms = col 1 2 ∷ []

pub select_version_is : Selects select_version (plain_query 0 [] version_terms) (codes "version" ∷ [])
unfolding understood everything
select_version_is = ((refl, (refl, refl)), refl)

pub select_version_paged : SelectsIn paged_schema select_version (plain_query 0 [] version_terms) (codes "version" ∷ [])
unfolding understood everything
select_version_paged = ((refl, (refl, refl)), refl)

pub select_version_first : SelectsIn first_schema select_version (plain_query 0 [] version_terms) (codes "version" ∷ [])
unfolding understood everything
select_version_first = ((refl, (refl, refl)), refl)

-- ---- jobs

abbrev pub select_job : List ℕ
select_job = codes "SELECT kind, size, deck, loaded, held, collected FROM jobs WHERE customer = ?1 AND number = ?2"

abbrev pub job_terms : List Term
job_terms = col 1 3 ∷ col 1 4 ∷ col 1 5 ∷ col 1 6 ∷ col 1 7 ∷ col 1 8 ∷ []

pub select_job_is : Selects select_job (plain_query 1 is_key job_terms) (codes "kind" ∷ codes "size" ∷ codes "deck" ∷ codes "loaded" ∷ codes "held" ∷ codes "collected" ∷ [])
unfolding understood everything
select_job_is = ((refl, (refl, refl)), refl)

abbrev pub select_loaded : List ℕ
select_loaded = codes "SELECT size, loaded, held, collected FROM jobs WHERE customer = ?1 AND number = ?2"

abbrev pub loaded_terms : List Term
loaded_terms = col 1 4 ∷ col 1 6 ∷ col 1 7 ∷ col 1 8 ∷ []

pub select_loaded_is : Selects select_loaded (plain_query 1 is_key loaded_terms) (codes "size" ∷ codes "loaded" ∷ codes "held" ∷ codes "collected" ∷ [])
unfolding understood everything
select_loaded_is = ((refl, (refl, refl)), refl)

abbrev pub select_numbers : List ℕ
select_numbers = codes "SELECT number FROM jobs WHERE customer = ?1"

abbrev pub number_terms : List Term
number_terms = col 1 2 ∷ []

pub select_numbers_is : Selects select_numbers (plain_query 1 is_customer number_terms) (codes "number" ∷ [])
unfolding understood everything
select_numbers_is = ((refl, (refl, refl)), refl)

abbrev pub select_names : List ℕ
select_names = codes "SELECT number, held, collected FROM jobs WHERE customer = ?1 ORDER BY number"

abbrev pub name_terms : List Term
name_terms = col 1 2 ∷ col 1 7 ∷ col 1 8 ∷ []

abbrev pub by_number : List (Term × Key)
by_number = (col 1 2, ascending Binary) ∷ []

pub select_names_is : Selects select_names (sorting_query 1 is_customer name_terms by_number) (codes "number" ∷ codes "held" ∷ codes "collected" ∷ [])
unfolding understood everything
select_names_is = ((refl, (refl, refl)), refl)

abbrev pub update_flags : List ℕ
update_flags = codes "UPDATE jobs SET held = ?3, collected = ?4 WHERE customer = ?1 AND number = ?2"

abbrev pub flag_terms : List Term
flag_terms = col 1 0 ∷ col 1 0 ∷ col 1 1 ∷ col 1 2 ∷ col 1 3 ∷ col 1 4 ∷ col 1 5 ∷ col 1 6 ∷ col 0 2 ∷ col 0 3 ∷ []

pub update_flags_is : Means bureau_schema update_flags (Update 1 (record { lets = []; body = plain_query 1 is_key flag_terms }))
unfolding understood everything
update_flags_is = (refl, (refl, refl))

-- ---- stretches

abbrev pub select_stretches : List ℕ
select_stretches = codes "SELECT switches, granted FROM stretches WHERE customer = ?1 AND number = ?2 ORDER BY place"

abbrev pub stretch_terms : List Term
stretch_terms = col 1 4 ∷ col 1 5 ∷ []

pub select_stretches_is : Selects select_stretches (ordered_query 3 is_key stretch_terms (col 1 3)) (codes "switches" ∷ codes "granted" ∷ [])
unfolding understood everything
select_stretches_is = ((refl, (refl, refl)), refl)

abbrev pub update_granted : List ℕ
update_granted = codes "UPDATE stretches SET granted = ?4 WHERE customer = ?1 AND number = ?2 AND place = ?3"

abbrev pub granted_terms : List Term
granted_terms = col 1 0 ∷ col 1 0 ∷ col 1 1 ∷ col 1 2 ∷ col 1 3 ∷ col 1 4 ∷ col 0 3 ∷ []

pub update_granted_is : Means bureau_schema update_granted (Update 2 (record { lets = []; body = plain_query 3 is_place granted_terms }))
unfolding understood everything
update_granted_is = (refl, (refl, refl))

-- ---- states

abbrev pub select_state : List ℕ
select_state = codes "SELECT i, a, b, compare, overflow, channel, waiting, form, line, taken, cards, lines, standing FROM states WHERE customer = ?1 AND number = ?2"

abbrev pub state_terms : List Term
state_terms = col 1 3 ∷ col 1 4 ∷ col 1 5 ∷ col 1 6 ∷ col 1 7 ∷ col 1 8 ∷ col 1 9 ∷ col 1 10 ∷ col 1 11 ∷ col 1 12 ∷ col 1 13 ∷ col 1 14 ∷ col 1 15 ∷ []

pub select_state_is : Selects select_state (plain_query 11 is_key state_terms)
    (codes "i" ∷ codes "a" ∷ codes "b" ∷ codes "compare" ∷ codes "overflow" ∷ codes "channel" ∷ codes "waiting" ∷ codes "form" ∷ codes "line" ∷ codes "taken" ∷ codes "cards" ∷ codes "lines" ∷ codes "standing" ∷ [])
unfolding understood everything
select_state_is = ((refl, (refl, refl)), refl)

abbrev pub select_progress : List ℕ
select_progress = codes "SELECT i, cards, lines, standing FROM states WHERE customer = ?1 AND number = ?2"

abbrev pub progress_terms : List Term
progress_terms = col 1 3 ∷ col 1 13 ∷ col 1 14 ∷ col 1 15 ∷ []

pub select_progress_is : Selects select_progress (plain_query 11 is_key progress_terms) (codes "i" ∷ codes "cards" ∷ codes "lines" ∷ codes "standing" ∷ [])
unfolding understood everything
select_progress_is = ((refl, (refl, refl)), refl)

abbrev pub select_running : List ℕ
select_running = codes "SELECT customer, number FROM states WHERE standing = 0 ORDER BY customer, number"

-- the row's machine is running
abbrev pub is_running : List Term
is_running = op2 (Compare Eq Binary) (col 1 15) (lit (Int (pos 0))) ∷ []

abbrev pub queued_terms : List Term
queued_terms = col 1 1 ∷ col 1 2 ∷ []

abbrev pub by_name : List (Term × Key)
by_name = (col 1 1, ascending Binary) ∷ (col 1 2, ascending Binary) ∷ []

pub select_running_is : Selects select_running (sorting_query 11 is_running queued_terms by_name) (codes "customer" ∷ codes "number" ∷ [])
unfolding understood everything
select_running_is = ((refl, (refl, refl)), refl)

abbrev pub update_state : List ℕ
update_state = codes "UPDATE states SET i = ?3, a = ?4, b = ?5, compare = ?6, overflow = ?7, channel = ?8, waiting = ?9, form = ?10, line = ?11, taken = ?12, cards = ?13, lines = ?14, standing = ?15 WHERE customer = ?1 AND number = ?2"

abbrev pub new_state_terms : List Term
new_state_terms = col 1 0 ∷ col 1 0 ∷ col 1 1 ∷ col 1 2 ∷ col 0 2 ∷ col 0 3 ∷ col 0 4 ∷ col 0 5 ∷ col 0 6 ∷ col 0 7 ∷ col 0 8 ∷ col 0 9 ∷ col 0 10 ∷ col 0 11 ∷ col 0 12 ∷ col 0 13 ∷ col 0 14 ∷ []

pub update_state_is : Means bureau_schema update_state (Update 5 (record { lets = []; body = plain_query 11 is_key new_state_terms }))
unfolding understood everything
update_state_is = (refl, (refl, refl))

-- ---- pages

abbrev pub select_pages : List ℕ
select_pages = codes "SELECT page, storage FROM pages WHERE customer = ?1 AND number = ?2"

abbrev pub page_terms : List Term
page_terms = col 1 3 ∷ col 1 4 ∷ []

pub select_pages_is : Selects select_pages (plain_query 13 is_key page_terms) (codes "page" ∷ codes "storage" ∷ [])
unfolding understood everything
select_pages_is = ((refl, (refl, refl)), refl)

abbrev pub delete_pages : List ℕ
delete_pages = codes "DELETE FROM pages WHERE customer = ?1 AND number = ?2 AND page = ?3"

pub delete_pages_is : (there : Beside) → Means (schema_beside there) delete_pages (Delete (place_of_pages there) (record { lets = []; body = plain_query 13 is_place (col 1 0 ∷ []) }))
unfolding understood everything
delete_pages_is (pictured storages) = (refl, (refl, refl))
delete_pages_is paged = (refl, (refl, refl))
delete_pages_is profiled = (refl, (refl, refl))
delete_pages_is complete = (refl, (refl, refl))

abbrev pub update_page : List ℕ
update_page = codes "UPDATE pages SET storage = ?4 WHERE customer = ?1 AND number = ?2 AND page = ?3"

abbrev pub new_page_terms : List Term
new_page_terms = col 1 0 ∷ col 1 0 ∷ col 1 1 ∷ col 1 2 ∷ col 1 3 ∷ col 0 3 ∷ []

pub update_page_is : (there : Beside) → Means (schema_beside there) update_page (Update (place_of_pages there) (record { lets = []; body = plain_query 13 is_place new_page_terms }))
unfolding understood everything
update_page_is (pictured storages) = (refl, (refl, refl))
update_page_is paged = (refl, (refl, refl))
update_page_is profiled = (refl, (refl, refl))
update_page_is complete = (refl, (refl, refl))

-- ---- cards

abbrev pub select_cards : List ℕ
select_cards = codes "SELECT card FROM cards WHERE customer = ?1 AND number = ?2 ORDER BY place"

abbrev pub card_terms : List Term
card_terms = col 1 4 ∷ []

pub select_cards_is : Selects select_cards (ordered_query 7 is_key card_terms (col 1 3)) (codes "card" ∷ [])
unfolding understood everything
select_cards_is = ((refl, (refl, refl)), refl)

-- ---- lines

abbrev pub select_lines : List ℕ
select_lines = codes "SELECT form, line, image FROM lines WHERE customer = ?1 AND number = ?2 ORDER BY place"

abbrev pub line_terms : List Term
line_terms = col 1 4 ∷ col 1 5 ∷ col 1 6 ∷ []

pub select_lines_is : Selects select_lines (ordered_query 9 is_key line_terms (col 1 3)) (codes "form" ∷ codes "line" ∷ codes "image" ∷ [])
unfolding understood everything
select_lines_is = ((refl, (refl, refl)), refl)

-- ---- profiles

abbrev pub select_profile : List ℕ
select_profile = codes "SELECT profile, chosen FROM profiles WHERE customer = ?1 AND number = ?2"

abbrev pub profile_terms : List Term
profile_terms = col 1 3 ∷ col 1 4 ∷ []

pub select_profile_is : Selects select_profile (plain_query 15 is_key profile_terms) (codes "profile" ∷ codes "chosen" ∷ [])
unfolding understood everything
select_profile_is = ((refl, (refl, refl)), refl)

abbrev pub update_chosen : List ℕ
update_chosen = codes "UPDATE profiles SET chosen = ?3 WHERE customer = ?1 AND number = ?2"

abbrev pub chosen_terms : List Term
chosen_terms = col 1 0 ∷ col 1 0 ∷ col 1 1 ∷ col 1 2 ∷ col 1 3 ∷ col 0 2 ∷ []

pub update_chosen_is : Means bureau_schema update_chosen (Update 7 (record { lets = []; body = plain_query 15 is_key chosen_terms }))
unfolding understood everything
update_chosen_is = (refl, (refl, refl))

-- ---- pockets

abbrev pub select_pockets : List ℕ
select_pockets = codes "SELECT place, pocket FROM pockets WHERE customer = ?1 AND number = ?2"

abbrev pub pocket_terms : List Term
pocket_terms = col 1 3 ∷ col 1 4 ∷ []

pub select_pockets_is : Selects select_pockets (plain_query 17 is_key pocket_terms) (codes "place" ∷ codes "pocket" ∷ [])
unfolding understood everything
select_pockets_is = ((refl, (refl, refl)), refl)
