-- What the texts mean that read whole tables.
use Rattle.std.proofs.Common.{List, ℕ, [], ◌∷◌, codes, refl}
use Rattle.sqlite.specs.Listing.{understood}
use Rattle.sqlite.specs.Term.{Term, col}
use Rattle.sqlite_tied.specs.Compute.{everything}
use Rattle.ledger_tables.proofs.LookupKeys.{columns}
use Rattle.ledger_tables.proofs.LookupStatement.{plain_query, ordered_query}
use Rattle.ledger_tables.proofs.ReadTexts.{Selects}
use Rattle.job_checks.proofs.WidthLemmas.{upto}

-- the number of a row in the table `bureau`, and the version
abbrev pub version_terms : List Term
version_terms = col 1 0 ∷ col 1 2 ∷ []

abbrev pub select_version : List ℕ
select_version = codes "SELECT id, version FROM bureau"

pub select_version_is : Selects select_version (plain_query 0 [] version_terms) (codes "id" ∷ codes "version" ∷ [])
unfolding understood everything
select_version_is = ((refl, (refl, refl)), refl)

abbrev pub select_jobs : List ℕ
select_jobs = codes "SELECT customer, number, kind, size, deck, loaded, held, collected FROM jobs ORDER BY rowid"

pub select_jobs_is : Selects select_jobs (ordered_query 1 [] (columns (upto 0 8)) (col 1 0)) (codes "customer" ∷ codes "number" ∷ codes "kind" ∷ codes "size" ∷ codes "deck" ∷ codes "loaded" ∷ codes "held" ∷ codes "collected" ∷ [])
unfolding understood everything
select_jobs_is = ((refl, (refl, refl)), refl)
