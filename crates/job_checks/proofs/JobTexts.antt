-- What the texts mean that read the rows of one job.
use Rattle.std.proofs.Common.{List, ℕ, [], ◌∷◌, codes, refl}
use Rattle.sqlite.specs.Listing.{understood}
use Rattle.sqlite.specs.Term.{col}
use Rattle.sqlite_tied.specs.Compute.{everything}
use Rattle.ledger_tables.proofs.LookupKeys.{columns}
use Rattle.ledger_tables.proofs.LookupStatement.{ordered_query}
use Rattle.ledger_tables.proofs.ReadTexts.{Selects, is_key}
use Rattle.job_checks.proofs.WidthLemmas.{upto}

abbrev pub select_stretches : List ℕ
select_stretches = codes "SELECT customer, number, place, switches, granted FROM stretches WHERE customer = ?1 AND number = ?2 ORDER BY rowid"

pub select_stretches_is : Selects select_stretches (ordered_query 3 is_key (columns (upto 0 5)) (col 1 0)) (codes "customer" ∷ codes "number" ∷ codes "place" ∷ codes "switches" ∷ codes "granted" ∷ [])
unfolding understood everything
select_stretches_is = ((refl, (refl, refl)), refl)

abbrev pub select_states : List ℕ
select_states = codes "SELECT customer, number, i, a, b, compare, overflow, channel, waiting, form, line, taken, cards, lines, standing FROM states WHERE customer = ?1 AND number = ?2 ORDER BY rowid"

pub select_states_is : Selects select_states (ordered_query 11 is_key (columns (upto 0 15)) (col 1 0)) (codes "customer" ∷ codes "number" ∷ codes "i" ∷ codes "a" ∷ codes "b" ∷ codes "compare" ∷ codes "overflow" ∷ codes "channel" ∷ codes "waiting" ∷ codes "form" ∷ codes "line" ∷ codes "taken" ∷ codes "cards" ∷ codes "lines" ∷ codes "standing" ∷ [])
unfolding understood everything
select_states_is = ((refl, (refl, refl)), refl)

abbrev pub select_pages : List ℕ
select_pages = codes "SELECT customer, number, page, storage FROM pages WHERE customer = ?1 AND number = ?2 ORDER BY page"

pub select_pages_is : Selects select_pages (ordered_query 13 is_key (columns (upto 0 4)) (col 1 3)) (codes "customer" ∷ codes "number" ∷ codes "page" ∷ codes "storage" ∷ [])
unfolding understood everything
select_pages_is = ((refl, (refl, refl)), refl)

abbrev pub select_cards : List ℕ
select_cards = codes "SELECT customer, number, place, card FROM cards WHERE customer = ?1 AND number = ?2 ORDER BY rowid"

pub select_cards_is : Selects select_cards (ordered_query 7 is_key (columns (upto 0 4)) (col 1 0)) (codes "customer" ∷ codes "number" ∷ codes "place" ∷ codes "card" ∷ [])
unfolding understood everything
select_cards_is = ((refl, (refl, refl)), refl)

abbrev pub select_lines : List ℕ
select_lines = codes "SELECT customer, number, place, form, line, image FROM lines WHERE customer = ?1 AND number = ?2 ORDER BY rowid"

pub select_lines_is : Selects select_lines (ordered_query 9 is_key (columns (upto 0 6)) (col 1 0)) (codes "customer" ∷ codes "number" ∷ codes "place" ∷ codes "form" ∷ codes "line" ∷ codes "image" ∷ [])
unfolding understood everything
select_lines_is = ((refl, (refl, refl)), refl)

abbrev pub select_profiles : List ℕ
select_profiles = codes "SELECT customer, number, profile, chosen FROM profiles WHERE customer = ?1 AND number = ?2 ORDER BY rowid"

pub select_profiles_is : Selects select_profiles (ordered_query 15 is_key (columns (upto 0 4)) (col 1 0)) (codes "customer" ∷ codes "number" ∷ codes "profile" ∷ codes "chosen" ∷ [])
unfolding understood everything
select_profiles_is = ((refl, (refl, refl)), refl)

abbrev pub select_pockets : List ℕ
select_pockets = codes "SELECT customer, number, place, pocket FROM pockets WHERE customer = ?1 AND number = ?2 ORDER BY place"

pub select_pockets_is : Selects select_pockets (ordered_query 17 is_key (columns (upto 0 4)) (col 1 3)) (codes "customer" ∷ codes "number" ∷ codes "place" ∷ codes "pocket" ∷ [])
unfolding understood everything
select_pockets_is = ((refl, (refl, refl)), refl)
