use Rattle.std.proofs.Common.{◌≡◌, List, filter, length, sym, ap, subst, ◌∙◌}
use Rattle.std.specs.List.{AllByRecursion}
use Rattle.sqlite.specs.Effect.{Database}
use Rattle.sqlite.specs.Held.{state}
use Rattle.sqlite.specs.Order.{Row}
use Rattle.sqlite.specs.Tree.{Trees}
use Rattle.ledger_tables.specs.Schema.{bureau_schema}
use Rattle.ledger_tables.specs.Tables.{cells}
use Rattle.job_checks.specs.Tables.{IsBureaus}
use Rattle.job_checks.proofs.HandedRows.{unchanged_then}
use Rattle.job_archives.specs.Copies.{IsSameJob, JobDiffers, Tells}
use Rattle.job_archives.specs.Parts.{is_theirs}
use Rattle.job_archives.proofs.CopyLemmas.{told_of_each, told_before}
use Rattle.job_archives.proofs.comparing.compare_all.Goals as goal

pub returns-clause-read : goal.returns-clause-read
returns-clause-read g c clean copied ours same =
    let clean_2 = (c.in_ok-other.ensures.left clean).0 in
    let clean_1 = (c.in_ok-jobs.ensures.left clean_2).0 in
    let copied_2 = (c.in_ok-other.ensures.copy_left copied).0 in
    let copied_1 = (c.in_ok-other_jobs.ensures.left copied_2).0 in
    let v = c.in_ok-version.ensures.read clean_1 ours in
    let j = c.in_ok-jobs.ensures.read clean_2 (subst (λ (db : Database). db.schema ≡ bureau_schema) (sym v.0.0.now_is) ours) in
    let w = c.in_ok-other_version.ensures.read copied_1 same in
    let k = c.in_ok-other_jobs.ensures.read copied_2 (subst (λ (db : Database). db.schema ≡ bureau_schema) (sym w.0.0.now_is) same) in
    let file = unchanged_then _ _ _ v.0 j.0 in
    let copy = unchanged_then _ _ _ w.0 k.0 in
    let each = c.in_ok-other.ensures.read j.0.0.is_open k.0.0.is_open clean copied (subst (λ (db : Database). db.schema ≡ bureau_schema) (sym file.0.now_is) ours) (subst (λ (db : Database). db.schema ≡ bureau_schema) (sym copy.0.now_is) same) in (
      unchanged_then _ _ _ file each.0,
      unchanged_then _ _ _ copy each.1,
      λ one two.
          let was_one = subst IsBureaus (sym v.0.0.now_is) one in
          let was_two = subst IsBureaus (sym w.0.0.now_is) two in
          let versions = sym c.deref.ensures.value ∙ c.are_same.ensures.0 c.if-not-are_same.false ∙ c.deref-2.ensures.value in
          let theirs = sym c.as_slice-theirs.ensures.value ∙ c.are_theirs.ensures.0 c.if-not-are_theirs.false ∙ ap (filter (is_theirs c.args.customers)) c.deref-3.ensures.value in
          let j_is = j.1 was_one ∙ ap (λ (db : Database). cells (db.trees 1)) v.0.0.now_is in
          let k_is = k.1 was_two ∙ ap (λ (db : Database). cells (db.trees 1)) w.0.0.now_is in
          let file_db = (state g.S.Store c.args.first.now.conn.now).now.trees in
          let copy_db = (state g.T.Store c.args.second.now.conn.now).now.trees in
          let told = told_before (λ (db other : Trees). AllByRecursion (IsSameJob db other) c.as_slice-theirs.result.now) _ _ _ _ c.in_ok-other.other file.0.now_is copy.0.now_is one two each.2 in
          record {
            jobs = ap length (c.as_slice-theirs.ensures.value ∙ k_is);
            other = told_of_each c.args.customers _ _ _ _ (v.1 one) (w.1 two) versions (sym k_is ∙ theirs ∙ ap (filter (is_theirs c.args.customers)) j_is) c.in_ok-other.other
                (subst (λ (rows : List Row). Tells (AllByRecursion (IsSameJob file_db copy_db) rows) (JobDiffers file_db copy_db) c.in_ok-other.other) (c.as_slice-theirs.ensures.value ∙ k_is) told);
          },
    )
