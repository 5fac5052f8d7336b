-- The profiles and pockets of jobs from before version 4.
use Rattle.std.proofs.Common.{inl, inr, ◌≡◌, ◌+◌, ◌==◌, ℕ, List, [], ◌∷◌, map, Bool, true, false, if◌then◌else◌, Option, None, Some, refl, sym, ap, ◌∙◌}
use Rattle.std.proofs.Math.Path.{fun_ext}
use Rattle.std.specs.List.{AllByRecursion}
use Rattle.std.specs.Option.{option_map}
use Rattle.std.proofs.lemmas.Bool.{cases_Bool}
use Rattle.std.proofs.lemmas.List.Elements.{recursion_from_All}
use Rattle.office.specs.Jobs.{Job, picture}
use Rattle.office.specs.Office.{Entry, Office, is_entry, job_of}
use Rattle.ledger_rows.specs.Columns.{profile_number, profile_row}
use Rattle.ledger_rows.specs.Pockets.{pocket_cell, pocket_rows_from, pocket_rows_of}
use Rattle.ledger_tables.specs.Cells.{no_pockets}
use Rattle.ledger_tables.specs.Raising.{plain_profile, with_plain_profiles}
use Rattle.ledger_tables.specs.Tables.{job_named}
use Rattle.ledger_tables.specs.declared.rows.ProfileRow.{ProfileRow}
use Rattle.units.specs.Pockets.{pocket_number}
use Rattle.units.specs.Stacked.{IsNormal}
use Rattle.units.specs.declared.pockets.Pocket.{Pocket}
use Rattle.units.specs.declared.profiles.Profile.{Profile}
use Rattle.units.specs.declared.punch.Punched.{Punched}
use Rattle.ledger.specs.Older.{IsPlainJob}
use Rattle.office_tables.specs.Standing.{named, profile_of, pockets_of, tables_of}
use Rattle.office_tables.proofs.ReadingLemmas.{picture_plain}
use Rattle.ledger.proofs.SavingLemmas.{same_tables}

-- the profile row of such a job
profile_told : (job : Job) → IsPlainJob job → plain_profile ≡ profile_row (picture job).works.units.punch
profile_told job plain =
    let it = picture_plain job plain in
    ap (λ (p : Profile). let r : ProfileRow = record { profile = profile_number p; chosen = 0 } in r) (sym it.profile)
    ∙ ap (λ (p : Pocket). let r : ProfileRow = record { profile = profile_number (picture job).works.units.punch.profile; chosen = pocket_number p } in r) (sym it.chosen)

-- cards in the normal pocket have no rows
none_apart : (first : ℕ) (cards : List Punched) (place : ℕ) → AllByRecursion IsNormal cards → pocket_rows_from first cards place ≡ None
none_apart first [] place all = refl
none_apart first (c ∷ cards) place all = go (none_apart (first + 1) cards place all.1) (first == place)
  where
    go : pocket_rows_from (first + 1) cards place ≡ None → (b : Bool) → (if b then pocket_cell c.pocket else pocket_rows_from (first + 1) cards place) ≡ None
    go rest true = ap pocket_cell all.0
    go rest false = rest

pockets_told : (job : Job) → IsPlainJob job → no_pockets ≡ pocket_rows_of (picture job).works.units.punch.cards
pockets_told job plain =
    let it = picture_plain job plain in
    fun_ext (λ place. sym (none_apart 1 (picture job).works.units.punch.cards place (recursion_from_All IsNormal (picture job).works.units.punch.cards it.cards)))

all_told : (office : Office) → AllByRecursion (λ (e : Entry). IsPlainJob e.job) office → (c : List ℕ) (n : ℕ)
    → (option_map (λ job. plain_profile) (job_named c n (map named office)) ≡ profile_of (job_of c n office)) × (no_pockets ≡ pockets_of (job_of c n office))
all_told [] plain c n = (refl, refl)
all_told (e ∷ office) plain c n = elim (cases_Bool (is_entry c n e)) [
  | inl this ↦ (rw this (ap (λ (p : ProfileRow). let o : Option ProfileRow = Some p in o) (profile_told e.job plain.0)), rw this (pockets_told e.job plain.0))
  | inr other ↦ let rest = all_told office plain.1 c n in (rw other rest.0, rw other rest.1)
]

-- the tables of such an office with the profiles and pockets of such jobs are its tables
pub plain_tables : (office : Office) → AllByRecursion (λ (e : Entry). IsPlainJob e.job) office → with_plain_profiles (tables_of office) ≡ tables_of office
plain_tables office plain =
    same_tables _ _ refl refl refl refl refl refl
    (fun_ext (λ c. fun_ext (λ n. (all_told office plain c n).0)))
    (fun_ext (λ c. fun_ext (λ n. (all_told office plain c n).1)))
