-- The office that the reports tell of.
use Rattle.std.proofs.Common.{◌≡◌, pos, [], ◌∷◌, map, true, sym, ap}
use Rattle.std.specs.List.{AllByRecursion}
use Rattle.std.proofs.lemmas.Bool.{false_from_ne_true}
use Rattle.office.specs.Office.{Entry, Office, AreDistinct, IsFree, is_entry}
use Rattle.sqlite.specs.declared.types.Value.TheVariants.{Int, Text}
use Rattle.sqlite.specs.Order.{Row, column}
use Rattle.ledger_tables.specs.Tables.{job_row}
use Rattle.ledger_tables.proofs.LookupKeys.{key_is}
use Rattle.office_tables.specs.Standing.{named}
use Rattle.job_checks.specs.Kept.{AreNamedApart}

abbrev pub row_in_jobs : Entry → Row
row_in_jobs e = job_row (named e)

-- whether a row of `jobs` has another name than this one
abbrev HasOtherName : Row → Row → Type 0
HasOtherName a b = ¬ ((column a 0 ≡ column b 0) × (column a 1 ≡ column b 1))

-- a name that no row has is free
free_of : (e : Entry) (office : Office) → AllByRecursion (HasOtherName (row_in_jobs e)) (map row_in_jobs office) → IsFree e.customer e.number office
free_of e [] others = tt
free_of e (other ∷ office) others =
    let none : is_entry e.customer e.number other ≡ true → ⊥ =
    λ is. let key = key_is e.customer e.number other.customer other.number is in
    others.0 (ap Text (sym key.0), ap (λ n. Int (pos n)) (sym key.1)) in
    (false_from_ne_true _ none, free_of e office others.1)

-- entries whose rows have names of their own have so too
pub names_distinct : (office : Office) → AreNamedApart (map row_in_jobs office) → AreDistinct office
names_distinct [] apart = tt
names_distinct (e ∷ office) apart = (free_of e office apart.0, names_distinct office apart.1)
