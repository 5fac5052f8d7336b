-- A database with the rows of two others stands for the offices of both.
use Rattle.std.proofs.Common.{◌≡◌, inl, inr, ◌++◌, List, [], ◌∷◌, length, map, Option, Some, None, Result, Ok, OnOk, IsTrue, refl, sym, ap, subst, ◌∙◌}
use Rattle.std.specs.Prelude.{⊤}
use Rattle.std.specs.List.{AllByRecursion}
use Rattle.std.specs.List.Sorted.{IsPermutation}
use Rattle.std.proofs.lemmas.List.Sorted.{IsPermutation-refl}
use Rattle.sqlite.specs.Effect.{Database, IsDatabase}
use Rattle.sqlite.specs.Held.{Held, state}
use Rattle.sqlite.specs.Order.{Row}
use Rattle.sqlite.specs.State.{HasCleanDisk, IsLive, IsRolledBack, IsUnchanged}
use Rattle.sqlite.specs.Tree.{Trees}
use Rattle.sqlite_trees.specs.declared.store.Store.{Ghosts}
use Rattle.ledger.specs.Adopting.{begun}
use Rattle.ledger_tables.proofs.Stepping.{if_ok_then}
use Rattle.ledger_tables.specs.Schema.{bureau_schema}
use Rattle.ledger_tables.specs.Tables.{cells}
use Rattle.ledger_tables.specs.declared.faults.Fault.{Fault}
use Rattle.job_checks.specs.Kept.{AreNamedApart, IsKept}
use Rattle.job_checks.specs.Tables.{version_columns, HandsBack, HasRows, IsBureaus, WholeTables}
use Rattle.job_checks.specs.declared.reports.Table.{Table}
use Rattle.job_checks.proofs.KeptRows.{kept_by}
use Rattle.job_checks.proofs.NameLaw.{jobs_apart}
use Rattle.job_checks.proofs.OfficeLemmas.{names_distinct, row_in_jobs}
use Rattle.job_checks.proofs.OwnerLaw.{all_are_owned}
use Rattle.job_checks.proofs.StandingRows.{rows_stand}
use Rattle.job_checks.proofs.WholeRows.{whole, whole_has}
use Rattle.job_archives.specs.Copies.{IsSameJob, JobDiffers, Tells}
use Rattle.job_archives.specs.Joins.{AreBoth, ComparesBoth, ComparesJoin, EitherDiffers, HasBothJobs, IsJoin, JoinDiffers, ReadsThree, ReadsThreeSettled, StandsForBoth}
use Rattle.job_archives.specs.declared.comparing.Compared.{Compared}
use Rattle.job_archives.proofs.CopyLemmas.{all_moved, job_differs}

-- all of these and all of those
all_append : {X : Type 0} (P : X → Type 0) (xs ys : List X) → AllByRecursion P xs → AllByRecursion P ys → AllByRecursion P (xs ++ ys)
all_append P [] ys all more = more
all_append P (x ∷ xs) ys all more = (all.0, all_append P xs ys all.1 more)

map_append : {X Y : Type 0} (f : X → Y) (xs ys : List X) → map f (xs ++ ys) ≡ map f xs ++ map f ys
map_append f [] ys = refl
map_append f (x ∷ xs) ys = ap (λ zs. f x ∷ zs) (map_append f xs ys)

pub join_stands : (first second joined : Database) → IsBureaus first → IsBureaus second → IsBureaus joined → IsJoin first.trees second.trees joined.trees → StandsForBoth first second joined
join_stands first second joined one two three join office more rows more_rows =
    let version_of = whole second.trees (map version_columns (second.trees 0)) in
    let all : WholeTables = whole first.trees join.version in
    let others : WholeTables = version_of in
    let third : WholeTables = whole joined.trees join.version in
    let has : HasRows first all = record { bureaus = one; rows = whole_has first.trees join.version join.read } in
    let has_others : HasRows second others = record { bureaus = two; rows = whole_has second.trees _ (IsPermutation-refl (map version_columns (second.trees 0))) } in
    let has_third : HasRows joined third = record { bureaus = three; rows = whole_has joined.trees join.version join.again } in
    let kept = kept_by first all office has rows in
    let kept_more = kept_by second others more has_others more_rows in
    let jobs : cells (joined.trees 1) ≡ map row_in_jobs (office ++ more) = join.jobs ∙ ap (λ xs. xs ++ cells (second.trees 1)) kept.jobs ∙ ap (λ xs. map row_in_jobs office ++ xs) kept_more.jobs ∙ sym (map_append row_in_jobs office more) in
    rows_stand joined third (office ++ more) three has_third.rows (record {
      version = kept.version;
      jobs = jobs;
      distinct = names_distinct (office ++ more) (subst AreNamedApart jobs (jobs_apart joined third has_third));
      kept = all_append (IsKept third.rows) office more
          (all_moved first joined all third has.rows has_third.rows office (subst (AllByRecursion (IsSameJob first.trees joined.trees)) kept.jobs join.each.0) kept.kept)
          (all_moved second joined others third has_others.rows has_third.rows more (subst (AllByRecursion (IsSameJob second.trees joined.trees)) kept_more.jobs join.each.1) kept_more.kept);
      owned = all_are_owned joined third has_third;
    })

-- ---- what is told

-- a table in which a job of either differs differs
either_differs : (first second joined : Trees) (it : Table) → EitherDiffers first second joined it → JoinDiffers first second joined it
either_differs first second joined it (inl differs) = inl (job_differs first joined (HasBothJobs first second joined) it differs)
either_differs first second joined it (inr differs) = inr differs

-- what is told where the third has the same version as the first, and the jobs of both
pub told_of_both : (first second joined : Trees) (version again : List Row) → IsPermutation (map version_columns (first 0)) version → IsPermutation (map version_columns (joined 0)) again → version ≡ again
    → HasBothJobs first second joined → (told : Option Table) → Tells (AreBoth first second joined (cells (first 1)) (cells (second 1))) (EitherDiffers first second joined) told
    → Tells (IsJoin first second joined) (JoinDiffers first second joined) told
told_of_both first second joined version again read read_again same jobs None each =
    record { version = version; read = read; again = subst (IsPermutation (map version_columns (joined 0))) (sym same) read_again; jobs = jobs; each = each }
told_of_both first second joined version again read read_again same jobs (Some it) differs = either_differs first second joined it differs

-- what is told where none was told of the first's jobs
pub told_of_more : (first second joined : Trees) (jobs more : List Row) → AllByRecursion (IsSameJob first joined) jobs → (told : Option Table) → Tells (AllByRecursion (IsSameJob second joined) more) (JobDiffers second joined) told
    → Tells (AreBoth first second joined jobs more) (EitherDiffers first second joined) told
told_of_more first second joined jobs more all None others = (all, others)
told_of_more first second joined jobs more all (Some it) differs = inr differs

-- what was found of three databases that are those of before
pub three_before : (Is : Trees → Trees → Trees → Type 0) (first second third before again last : Database) → first ≡ before → second ≡ again → third ≡ last → IsBureaus before → IsBureaus again → IsBureaus last
    → (IsBureaus first → IsBureaus second → IsBureaus third → Is first.trees second.trees third.trees) → Is before.trees again.trees last.trees
three_before Is first second third before again last one two three a b d found =
    subst (λ (db : Database). Is before.trees again.trees db.trees) three
    (subst (λ (db : Database). Is before.trees db.trees third.trees) two
    (subst (λ (db : Database). Is db.trees second.trees third.trees) one (found (subst IsBureaus (sym one) a) (subst IsBureaus (sym two) b) (subst IsBureaus (sym three) d))))

join_told : (first second joined : Database) → IsBureaus first → IsBureaus second → IsBureaus joined → (told : Compared) → ComparesBoth first.trees second.trees joined.trees told
    → (told.jobs ≡ length (cells (joined.trees 1))) × Tells (StandsForBoth first second joined) (JoinDiffers first.trees second.trees joined.trees) told.other
join_told first second joined one two three told compares = (compares.jobs, go told.other compares.other)
  where
    go : (it : Option Table) → Tells (IsJoin first.trees second.trees joined.trees) (JoinDiffers first.trees second.trees joined.trees) it → Tells (StandsForBoth first second joined) (JoinDiffers first.trees second.trees joined.trees) it
    go None join = join_stands first second joined one two three join
    go (Some it) differs = differs

-- what a store that is sound says of its database
sound_says : {S : Type 0} (g : Ghosts S) (conn : Held S) (store : S) (sound : Result ⊤ Fault) → sound ≡ Ok tt → OnOk sound (HasCleanDisk (state g conn) × ((db : Database) → db.schema ≡ bureau_schema → IsDatabase db → (IsTrue (state g conn).is_open → (state g conn).committed ≡ db) → IsBureaus db))
    → HasCleanDisk (state g conn) × ((db : Database) → db.schema ≡ bureau_schema → IsDatabase db → (IsTrue (state g conn).is_open → (state g conn).committed ≡ db) → IsBureaus db)
sound_says g conn store sound ok said = subst (λ (r : Result ⊤ Fault). OnOk r (HasCleanDisk (state g conn) × ((db : Database) → db.schema ≡ bureau_schema → IsDatabase db → (IsTrue (state g conn).is_open → (state g conn).committed ≡ db) → IsBureaus db))) ok said

module _ {S T U : Type 0} (g : Ghosts S) (h : Ghosts T) (k : Ghosts U) (old new : Held S) (was is : Held T) (before after : Held U) (store : S) (more : T) (third : U) (made : Result Compared Fault) (file other join : Result ⊤ Fault) where
  pub compared_join : ReadsThreeSettled g h k old new was is before after made (λ one two three told. ComparesBoth one two three told) → file ≡ Ok tt → other ≡ Ok tt → join ≡ Ok tt
      → HandsBack g new store file → HandsBack h is more other → HandsBack k after third join → ComparesJoin g h k old was before store more third made
  compared_join settled file_ok other_ok join_ok handed other_handed join_handed clean other_clean join_clean =
      let one = sound_says g new store file file_ok (handed clean) in
      let two = sound_says h is more other other_ok (other_handed other_clean) in
      let three = sound_says k after third join join_ok (join_handed join_clean) in
      if_ok_then made _ _ (λ told found ours theirs joins.
      let all = found ours theirs joins in
      let first = one.1 (state g old).now ours all.1 all.0 in
      let second = two.1 (state h was).now theirs all.3 all.2 in
      let joined = three.1 (state k before).now joins all.5 all.4 in
      join_told (state g old).now (state h was).now (state k before).now first second joined told (all.6 first second joined))
      (settled one.0 two.0 three.0)

-- ---- the end of three readings

-- what is known of a connection after a transaction in which it was only read, and which was rolled
-- back
pub record Ended {S : Type 0} (g : Ghosts S) (old tx mid end : Held S) : Type 0 where
  pub is_begun : tx ≡ begun old
  pub live : IsLive (state g old)
  pub settled : IsTrue (state g old).is_open → (state g old).now ≡ (state g old).committed
  pub early : HasCleanDisk (state g end) → HasCleanDisk (state g mid)
  pub back : HasCleanDisk (state g end) → IsRolledBack (state g mid) (state g end)

ended : {S : Type 0} (g : Ghosts S) (old tx mid end : Held S) → Ended g old tx mid end → HasCleanDisk (state g end) → IsUnchanged (state g (begun old)) (state g mid) → (IsTrue (state g end).is_open → (state g end).committed ≡ (state g old).now) × IsDatabase (state g old).now
ended g old tx mid end it clean same = (
  λ opened. ((it.back clean).undone opened).1 ∙ same.0.committed_is ∙ sym (it.settled same.0.was_open),
  (it.live same.0.was_open).0,
)

module _ {S T U : Type 0} (g : Ghosts S) (h : Ghosts T) (k : Ghosts U) (old tx mid end : Held S) (was tx_2 mid_2 end_2 : Held T) (before tx_3 mid_3 end_3 : Held U) {X : Type 0} (result : Result X Fault) (Are : Trees → Trees → Trees → X → Type 0) where
  pub three_settled : Ended g old tx mid end → Ended h was tx_2 mid_2 end_2 → Ended k before tx_3 mid_3 end_3 → ReadsThree g h k tx mid tx_2 mid_2 tx_3 mid_3 result Are → ReadsThreeSettled g h k old end was end_2 before end_3 result Are
  three_settled one two three read clean clean_2 clean_3 =
      let all : ReadsThree g h k (begun old) mid (begun was) mid_2 (begun before) mid_3 result Are =
      subst (λ (it : Held U). ReadsThree g h k (begun old) mid (begun was) mid_2 it mid_3 result Are) three.is_begun
      (subst (λ (it : Held T). ReadsThree g h k (begun old) mid it mid_2 tx_3 mid_3 result Are) two.is_begun
      (subst (λ (it : Held S). ReadsThree g h k it mid tx_2 mid_2 tx_3 mid_3 result Are) one.is_begun read)) in
      if_ok_then result _ _ (λ told found ours theirs joins.
      let it = found ours theirs joins in
      let first = ended g old tx mid end one clean it.0 in
      let second = ended h was tx_2 mid_2 end_2 two clean_2 it.1 in
      let third = ended k before tx_3 mid_3 end_3 three clean_3 it.2 in
      (first.0, first.1, second.0, second.1, third.0, third.1, it.3))
      (all (one.early clean) (two.early clean_2) (three.early clean_3))
