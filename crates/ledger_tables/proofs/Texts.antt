-- What the texts of the statements mean.
use Rattle.std.proofs.Common.{ℕ, List, [], ◌∷◌, codes, refl}
use Rattle.sqlite.specs.declared.types.Value.TheVariants.{Null}
use Rattle.sqlite.specs.Term.{lit, col}
use Rattle.sqlite.specs.Source.TheVariants.{Values}
use Rattle.sqlite.specs.Command.TheVariants.{Insert}
use Rattle.sqlite_tied.specs.Compute.{everything}
use Rattle.sqlite.specs.Listing.{understood}
use Rattle.ledger_tables.specs.Schema.{bureau, jobs, stretches, pictures, cards, lines, states, pages, profiles, pockets, no_schema, up_to_bureau, up_to_jobs, up_to_stretches, up_to_pictures, up_to_cards, first_schema, up_to_states, raising_schema, paged_schema, up_to_profiles, new_up_to_profiles, bureau_schema}
use Rattle.ledger_tables.specs.Tables.{Beside, schema_beside, pictured, paged, profiled, complete}
use Rattle.ledger_tables.proofs.CreateStatement.{Creates}
use Rattle.ledger_tables.proofs.InsertStatement.{Means}

abbrev pub create_bureau : List ℕ
create_bureau = codes "CREATE TABLE bureau (id INTEGER NOT NULL PRIMARY KEY, version INTEGER NOT NULL) STRICT"

pub create_bureau_is : Creates no_schema create_bureau bureau
unfolding understood everything
create_bureau_is = ((refl, (refl, refl)), refl, refl)

abbrev pub create_jobs : List ℕ
create_jobs = codes "CREATE TABLE jobs (customer TEXT NOT NULL, number INTEGER NOT NULL, kind INTEGER NOT NULL, size INTEGER NOT NULL, deck BLOB NOT NULL, loaded BLOB NOT NULL, held INTEGER NOT NULL, collected INTEGER NOT NULL, PRIMARY KEY (customer, number)) STRICT"

pub create_jobs_is : Creates up_to_bureau create_jobs jobs
unfolding understood everything
create_jobs_is = ((refl, (refl, refl)), refl, refl)

abbrev pub create_stretches : List ℕ
create_stretches = codes "CREATE TABLE stretches (customer TEXT NOT NULL, number INTEGER NOT NULL, place INTEGER NOT NULL, switches INTEGER NOT NULL, granted INTEGER NOT NULL, PRIMARY KEY (customer, number, place), FOREIGN KEY (customer, number) REFERENCES jobs (customer, number)) STRICT"

pub create_stretches_is : Creates up_to_jobs create_stretches stretches
unfolding understood everything
create_stretches_is = ((refl, (refl, refl)), refl, refl)

abbrev pub create_pictures : List ℕ
create_pictures = codes "CREATE TABLE pictures (customer TEXT NOT NULL, number INTEGER NOT NULL, storage BLOB NOT NULL, i INTEGER NOT NULL, a INTEGER NOT NULL, b INTEGER NOT NULL, compare INTEGER NOT NULL, overflow INTEGER NOT NULL, channel INTEGER NOT NULL, waiting INTEGER NOT NULL, form INTEGER NOT NULL, line INTEGER NOT NULL, taken INTEGER NOT NULL, cards INTEGER NOT NULL, lines INTEGER NOT NULL, standing INTEGER NOT NULL, PRIMARY KEY (customer, number), FOREIGN KEY (customer, number) REFERENCES jobs (customer, number)) STRICT"

pub create_pictures_is : Creates up_to_stretches create_pictures pictures
unfolding understood everything
create_pictures_is = ((refl, (refl, refl)), refl, refl)

abbrev pub create_cards : List ℕ
create_cards = codes "CREATE TABLE cards (customer TEXT NOT NULL, number INTEGER NOT NULL, place INTEGER NOT NULL, card BLOB NOT NULL, PRIMARY KEY (customer, number, place), FOREIGN KEY (customer, number) REFERENCES jobs (customer, number)) STRICT"

pub create_cards_is : Creates up_to_pictures create_cards cards
unfolding understood everything
create_cards_is = ((refl, (refl, refl)), refl, refl)

abbrev pub create_lines : List ℕ
create_lines = codes "CREATE TABLE lines (customer TEXT NOT NULL, number INTEGER NOT NULL, place INTEGER NOT NULL, form INTEGER NOT NULL, line INTEGER NOT NULL, image BLOB NOT NULL, PRIMARY KEY (customer, number, place), FOREIGN KEY (customer, number) REFERENCES jobs (customer, number)) STRICT"

pub create_lines_is : Creates up_to_cards create_lines lines
unfolding understood everything
create_lines_is = ((refl, (refl, refl)), refl, refl)

abbrev pub create_states : List ℕ
create_states = codes "CREATE TABLE states (customer TEXT NOT NULL, number INTEGER NOT NULL, i INTEGER NOT NULL, a INTEGER NOT NULL, b INTEGER NOT NULL, compare INTEGER NOT NULL, overflow INTEGER NOT NULL, channel INTEGER NOT NULL, waiting INTEGER NOT NULL, form INTEGER NOT NULL, line INTEGER NOT NULL, taken INTEGER NOT NULL, cards INTEGER NOT NULL, lines INTEGER NOT NULL, standing INTEGER NOT NULL, PRIMARY KEY (customer, number), FOREIGN KEY (customer, number) REFERENCES jobs (customer, number)) STRICT"

pub create_states_is : Creates first_schema create_states states
unfolding understood everything
create_states_is = ((refl, (refl, refl)), refl, refl)

abbrev pub create_pages : List ℕ
create_pages = codes "CREATE TABLE pages (customer TEXT NOT NULL, number INTEGER NOT NULL, page INTEGER NOT NULL, storage BLOB NOT NULL, PRIMARY KEY (customer, number, page), FOREIGN KEY (customer, number) REFERENCES jobs (customer, number)) STRICT"

pub create_pages_is : Creates up_to_states create_pages pages
unfolding understood everything
create_pages_is = ((refl, (refl, refl)), refl, refl)

abbrev pub create_profiles : List ℕ
create_profiles = codes "CREATE TABLE profiles (customer TEXT NOT NULL, number INTEGER NOT NULL, profile INTEGER NOT NULL, chosen INTEGER NOT NULL, PRIMARY KEY (customer, number), FOREIGN KEY (customer, number) REFERENCES jobs (customer, number)) STRICT"

pub create_profiles_is : Creates paged_schema create_profiles profiles
unfolding understood everything
create_profiles_is = ((refl, (refl, refl)), refl, refl)

-- the same in a new file
pub create_profiles_new : Creates raising_schema create_profiles profiles
unfolding understood everything
create_profiles_new = ((refl, (refl, refl)), refl, refl)

abbrev pub create_pockets : List ℕ
create_pockets = codes "CREATE TABLE pockets (customer TEXT NOT NULL, number INTEGER NOT NULL, place INTEGER NOT NULL, pocket INTEGER NOT NULL, PRIMARY KEY (customer, number, place), FOREIGN KEY (customer, number, place) REFERENCES cards (customer, number, place)) STRICT"

pub create_pockets_is : Creates up_to_profiles create_pockets pockets
unfolding understood everything
create_pockets_is = ((refl, (refl, refl)), refl, refl)

-- the same in a new file
pub create_pockets_new : Creates new_up_to_profiles create_pockets pockets
unfolding understood everything
create_pockets_new = ((refl, (refl, refl)), refl, refl)

abbrev pub insert_bureau : List ℕ
insert_bureau = codes "INSERT INTO bureau (id, version) VALUES (?1, ?2)"

pub insert_bureau_is : Means bureau_schema insert_bureau (Insert 0 (Values (col 0 0 ∷ lit Null ∷ col 0 1 ∷ []) 3))
unfolding understood everything
insert_bureau_is = (refl, (refl, refl))

abbrev pub insert_jobs : List ℕ
insert_jobs = codes "INSERT INTO jobs (customer, number, kind, size, deck, loaded, held, collected) VALUES (?1, ?2, ?3, ?4, ?5, ?6, ?7, ?8)"

pub insert_jobs_is : Means bureau_schema insert_jobs (Insert 1 (Values (lit Null ∷ col 0 0 ∷ col 0 1 ∷ col 0 2 ∷ col 0 3 ∷ col 0 4 ∷ col 0 5 ∷ col 0 6 ∷ col 0 7 ∷ []) 9))
unfolding understood everything
insert_jobs_is = (refl, (refl, refl))

abbrev pub insert_stretches : List ℕ
insert_stretches = codes "INSERT INTO stretches (customer, number, place, switches, granted) VALUES (?1, ?2, ?3, ?4, ?5)"

pub insert_stretches_is : Means bureau_schema insert_stretches (Insert 2 (Values (lit Null ∷ col 0 0 ∷ col 0 1 ∷ col 0 2 ∷ col 0 3 ∷ col 0 4 ∷ []) 6))
unfolding understood everything
insert_stretches_is = (refl, (refl, refl))

abbrev pub insert_states : List ℕ
insert_states = codes "INSERT INTO states (customer, number, i, a, b, compare, overflow, channel, waiting, form, line, taken, cards, lines, standing) VALUES (?1, ?2, ?3, ?4, ?5, ?6, ?7, ?8, ?9, ?10, ?11, ?12, ?13, ?14, ?15)"

pub insert_states_is : Means bureau_schema insert_states (Insert 5 (Values (lit Null ∷ col 0 0 ∷ col 0 1 ∷ col 0 2 ∷ col 0 3 ∷ col 0 4 ∷ col 0 5 ∷ col 0 6 ∷ col 0 7 ∷ col 0 8 ∷ col 0 9 ∷ col 0 10 ∷ col 0 11 ∷ col 0 12 ∷ col 0 13 ∷ col 0 14 ∷ []) 16))
unfolding understood everything
insert_states_is = (refl, (refl, refl))

abbrev pub insert_pages : List ℕ
insert_pages = codes "INSERT INTO pages (customer, number, page, storage) VALUES (?1, ?2, ?3, ?4)"

-- the place of `pages` among the tables
abbrev pub place_of_pages : Beside → ℕ
place_of_pages (pictured storages) = 7
place_of_pages _ = 6

pub insert_pages_is : (there : Beside) → Means (schema_beside there) insert_pages (Insert (place_of_pages there) (Values (lit Null ∷ col 0 0 ∷ col 0 1 ∷ col 0 2 ∷ col 0 3 ∷ []) 5))
unfolding understood everything
insert_pages_is (pictured storages) = (refl, (refl, refl))
insert_pages_is paged = (refl, (refl, refl))
insert_pages_is profiled = (refl, (refl, refl))
insert_pages_is complete = (refl, (refl, refl))

abbrev pub insert_cards : List ℕ
insert_cards = codes "INSERT INTO cards (customer, number, place, card) VALUES (?1, ?2, ?3, ?4)"

pub insert_cards_is : Means bureau_schema insert_cards (Insert 3 (Values (lit Null ∷ col 0 0 ∷ col 0 1 ∷ col 0 2 ∷ col 0 3 ∷ []) 5))
unfolding understood everything
insert_cards_is = (refl, (refl, refl))

abbrev pub insert_lines : List ℕ
insert_lines = codes "INSERT INTO lines (customer, number, place, form, line, image) VALUES (?1, ?2, ?3, ?4, ?5, ?6)"

pub insert_lines_is : Means bureau_schema insert_lines (Insert 4 (Values (lit Null ∷ col 0 0 ∷ col 0 1 ∷ col 0 2 ∷ col 0 3 ∷ col 0 4 ∷ col 0 5 ∷ []) 7))
unfolding understood everything
insert_lines_is = (refl, (refl, refl))

abbrev pub insert_profiles : List ℕ
insert_profiles = codes "INSERT INTO profiles (customer, number, profile, chosen) VALUES (?1, ?2, ?3, ?4)"

pub insert_profiles_is : Means bureau_schema insert_profiles (Insert 7 (Values (lit Null ∷ col 0 0 ∷ col 0 1 ∷ col 0 2 ∷ col 0 3 ∷ []) 5))
unfolding understood everything
insert_profiles_is = (refl, (refl, refl))

abbrev pub insert_pockets : List ℕ
insert_pockets = codes "INSERT INTO pockets (customer, number, place, pocket) VALUES (?1, ?2, ?3, ?4)"

pub insert_pockets_is : Means bureau_schema insert_pockets (Insert 8 (Values (lit Null ∷ col 0 0 ∷ col 0 1 ∷ col 0 2 ∷ col 0 3 ∷ []) 5))
unfolding understood everything
insert_pockets_is = (refl, (refl, refl))
