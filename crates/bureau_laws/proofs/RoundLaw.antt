-- From link to link.
use Rattle.std.proofs.Common.{◌≡◌, ◌⊎◌, inl, inr, ℕ, List, [], ◌∷◌, ◌++◌, take, refl, sym, subst}
use Rattle.std.proofs.Math.Logic.{∥∥₁_elim, ∥∥₁_map}
use Rattle.std.specs.List.{AllByRecursion}
use Rattle.sqlite.specs.Effect.{Database, IsDatabase}
use Rattle.sqlite.specs.Files.{HoldsDatabase}
use Rattle.sqlite.specs.Recovery.{Image}
use Rattle.sqlite.specs.Tree.{Trees}
use Rattle.office.specs.Jobs.{Job, HaltsBetween, RunsWhole}
use Rattle.office.specs.Office.{Office, fold}
use Rattle.office.specs.declared.commands.Command.{Command}
use Rattle.ledger_tables.specs.Schema.{bureau_schema, own_version}
use Rattle.ledger.specs.Older.{LeftOf, RowsOf, schema_of}
use Rattle.office_tables.specs.Standing.{Rows, LeftAs}
use Rattle.ledger_files.specs.Migrating.{AreOfVersion}
use Rattle.ledger_files.specs.Opening.{AreOf}
use Rattle.ledger_files.specs.Unfinished.{HoldSame}
use Rattle.ledger.proofs.BureauVersions.{own_rows, rows_version, same_version}
use Rattle.ledger.proofs.WholeJobsLaw.{all_halt_between}
use Rattle.ledger.proofs.WorkLemmas.{fold_both}
use Rattle.ledger.specs.WholeRows.{HaveWholeRows}
use Rattle.bureau_laws.specs.Headline.{Link, worked, migrated, refused, rounds_of, AreKept, IsOneHistory, IsOwn, AreLinks, jobs_in}
use Rattle.bureau_laws.specs.Rounds.{AreWholeOf, files_after, AreLeftWhole, AreStillOf}

-- ---- versions of files

rows_sound : (version : ℕ) (db : Database) (o : Office) → RowsOf version db o → IsDatabase db
rows_sound version db o (inl (is, rows)) = rows.tables.sound
rows_sound version db o (inr (inl (is, rows))) = rows.tables.sound
rows_sound version db o (inr (inr (inl (is, rows)))) = rows.tables.sound
rows_sound version db o (inr (inr (inr (is, rows)))) = rows.tables.sound

left_of_own : (db : Trees) (o : Office) → LeftAs db o → LeftOf own_version db o
left_of_own db o left = inr (inr (inr (refl, left)))

left_as_own : (version : ℕ) (db : Trees) (o : Office) → own_version ≡ version → LeftOf version db o → LeftAs db o
left_as_own version db o own left = own_rows _ o (subst (λ n. LeftOf n db o) (sym own) left)

pub of_own : (files : Image) (o : Office) → AreOf files o → AreOfVersion own_version files o
of_own files o are = ∥∥₁_map are (λ it. let r : (db : Trees) × HoldsDatabase files db × LeftOf own_version db o = (it.0, it.1, left_of_own it.0 o it.2) in r)

own_of : (files : Image) (o : Office) → AreOfVersion own_version files o → AreOf files o
own_of files o are = ∥∥₁_map are (λ it. let r : (db : Trees) × HoldsDatabase files db × LeftAs db o = (it.0, it.1, left_as_own own_version it.0 o refl it.2) in r)

-- files of an office that were found to be of this program's version represent it in that version
pub found_own : (files : Image) → IsOwn files → (version : ℕ) (o : Office) → AreOfVersion version files o → AreOf files o
found_own files found version o are = ∥∥₁_map are (λ it.
    let db : Database = record { schema = schema_of version; trees = it.0 } in
    let of = rows_version version db o it.2 in
    let own = found db it.1 (rows_sound version db o it.2) of.0 in
    let r : (t : Trees) × HoldsDatabase files t × LeftAs t o = (it.0, it.1, left_as_own version it.0 o (same_version db own_version version own of.1) it.2) in r)

-- files that hold the same database are of the same office, in the same version
still_of_version : (first files : Image) → HoldSame first files → (version : ℕ) (o : Office) → AreOfVersion version first o → AreOfVersion version files o
still_of_version first files same version o are = ∥∥₁_elim are squash₁ (λ it. ∥∥₁_map (same it.0 it.1) (λ held. let r : (db : Trees) × HoldsDatabase files db × LeftOf version db o = (it.0, held, it.2) in r))

-- ---- links

module _ (law : (db : Database) (o : Office) → Rows db o → HaveWholeRows db o) where
  are_whole : (files : Image) (o : Office) → AreOf files o → AreWholeOf files o
  are_whole files o are = ∥∥₁_map are (λ it.
      let r : (db : Trees) × HoldsDatabase files db × LeftAs db o × HaveWholeRows (record { schema = bureau_schema; trees = db }) o =
      (it.0, it.1, it.2, law _ o it.2) in r)

  pub links_lead : (first : Image) (links : List Link) → AreLinks first links → (o : Office) → AreOf first o → AreLeftWhole first links o
  unfolding fold
  links_lead first [] all o are = ∣ ([], refl, are_whole first o are) ∣₁
  links_lead first (worked round ∷ links) all o are =
      ∥∥₁_elim (all.2 o are) squash₁ (λ here.
      let taken = here.1.1.0 in
      let left = here.1.0 in
      let is : left ≡ (fold (take taken round.given) o).0 = here.1.1.3 in
      let same : AreOf round.files (fold (take taken round.given) o).0 = subst (AreOf round.files) is here.1.2 in
      ∥∥₁_map (links_lead round.files links all.3 (fold (take taken round.given) o).0 same) (λ rest.
      let commands = take taken round.given ++ rest.0 in
      let r : (done : List Command) × AreKept o (round ∷ rounds_of links) done × AreWholeOf (files_after round.files links) (fold done o).0 =
      (commands, (taken, rest.0, here.1.1.1, here.1.1.2, here.0, refl, all.1, rest.1), subst (AreWholeOf (files_after round.files links)) (sym (fold_both (take taken round.given) rest.0 o)) rest.2) in r))
  links_lead first (migrated files ∷ links) all o are =
      ∥∥₁_elim (all.0 own_version o (of_own first o are)) squash₁ (λ here.
      links_lead files links all.1 o (elim here [ inl same ↦ own_of files o same | inr own ↦ own ]))
  links_lead first (refused files ∷ links) all o are =
      links_lead files links all.1 o (own_of files o (still_of_version first files all.0 own_version o (of_own first o are)))

  pub links_raise : (first : Image) (links : List Link) → AreLinks first links → (version : ℕ) (o : Office) → AreOfVersion version first o
      → ∥ (AreLeftWhole first links o ⊎ AreStillOf version first links o) ∥₁
  links_raise first [] all version o are = ∣ inr (refl, are) ∣₁
  links_raise first (worked round ∷ links) all version o are = ∣ inl (links_lead first (worked round ∷ links) all o (found_own first all.0 version o are)) ∣₁
  links_raise first (migrated files ∷ links) all version o are =
      ∥∥₁_elim (all.0 version o are) squash₁ (λ here. elim here [
        | inl same ↦ links_raise files links all.1 version o same
        | inr own ↦ ∣ inl (links_lead files links all.1 o own) ∣₁
      ])
  links_raise first (refused files ∷ links) all version o are = links_raise files links all.1 version o (still_of_version first files all.0 version o are)

-- ---- one history

-- files that are left whole are left by one history, whose jobs at a halt have run whole
pub one_history : ((jobs : List Job) → AllByRecursion HaltsBetween jobs → AllByRecursion RunsWhole jobs)
    → ((first : Image) (links : List Link) → AreLinks first links → (o : Office) → AreOf first o → AreLeftWhole first links o)
    → (first : Image) (links : List Link) → AreLinks first links → (o : Office) → AreOf first o → IsOneHistory o (rounds_of links)
one_history runs whole first links all o are =
    ∥∥₁_elim (whole first links all o are) squash₁ (λ left.
    let end = (fold left.0 o).0 in
    ∥∥₁_map left.2 (λ it.
    let r : (commands : List Command) × AreKept o (rounds_of links) commands × AllByRecursion RunsWhole (jobs_in (fold commands o).0) =
    (left.0, left.1, runs (jobs_in end) (all_halt_between end it.2.jobs)) in r))
