use Rattle.std.proofs.Common.{◌≡◌, ◌++◌, List, length, sym, ap, ap₂, subst, ◌∙◌}
use Rattle.sqlite.specs.Effect.{Database}
use Rattle.sqlite.specs.Held.{state}
use Rattle.sqlite.specs.Order.{Row}
use Rattle.sqlite.specs.Tree.{Trees}
use Rattle.ledger_tables.specs.Schema.{bureau_schema}
use Rattle.ledger_tables.specs.Tables.{cells}
use Rattle.job_checks.specs.Tables.{IsBureaus}
use Rattle.job_checks.proofs.HandedRows.{unchanged_then}
use Rattle.job_archives.specs.Copies.{Tells}
use Rattle.job_archives.specs.Joins.{AreBoth, EitherDiffers}
use Rattle.job_archives.proofs.JoinLemmas.{three_before, told_of_both}
use Rattle.job_archives.proofs.joins.compare_three.Goals as goal

pub returns-clause-read : goal.returns-clause-read
returns-clause-read g c clean other_clean join_clean ours theirs joins =
    let here = λ (db other : Database) (same : other ≡ db) (is : db.schema ≡ bureau_schema). subst (λ (it : Database). it.schema ≡ bureau_schema) (sym same) is in
    let clean_2 = (c.in_ok-other.ensures.left clean).0 in
    let clean_1 = (c.in_ok-jobs.ensures.left clean_2).0 in
    let other_2 = (c.in_ok-other.ensures.other_left other_clean).0 in
    let join_2 = (c.in_ok-other.ensures.join_left join_clean).0 in
    let join_1 = (c.in_ok-all.ensures.left join_2).0 in
    let v = c.in_ok-version.ensures.read clean_1 ours in
    let j = c.in_ok-jobs.ensures.read clean_2 (here _ _ v.0.0.now_is ours) in
    let m = c.in_ok-more.ensures.read other_2 theirs in
    let w = c.in_ok-again.ensures.read join_1 joins in
    let k = c.in_ok-all.ensures.read join_2 (here _ _ w.0.0.now_is joins) in
    let file = unchanged_then _ _ _ v.0 j.0 in
    let join = unchanged_then _ _ _ w.0 k.0 in
    let each = c.in_ok-other.ensures.read j.0.0.is_open m.0.0.is_open k.0.0.is_open clean other_clean join_clean (here _ _ file.0.now_is ours) (here _ _ m.0.0.now_is theirs) (here _ _ join.0.now_is joins) in (
      unchanged_then _ _ _ file each.0,
      unchanged_then _ _ _ m.0 each.1,
      unchanged_then _ _ _ join each.2,
      λ one two three.
          let first = (state g.S.Store c.args.first.now.conn.now).now.trees in
          let second = (state g.T.Store c.args.second.now.conn.now).now.trees in
          let joined = (state g.U.Store c.args.joined.now.conn.now).now.trees in
          let versions = sym c.deref.ensures.value ∙ c.are_same.ensures.0 c.if-not-are_same.false ∙ c.deref-2.ensures.value in
          let jobs_are = j.1 (subst IsBureaus (sym v.0.0.now_is) one) ∙ ap (λ (db : Database). cells (db.trees 1)) v.0.0.now_is in
          let more_are = m.1 two in
          let all_are = c.as_slice-joined_jobs.ensures.value ∙ k.1 (subst IsBureaus (sym w.0.0.now_is) three) ∙ ap (λ (db : Database). cells (db.trees 1)) w.0.0.now_is in
          let both = sym all_are ∙ c.are_joined.ensures.0 c.if-not-are_joined.false ∙ ap₂ (λ (xs ys : List Row). xs ++ ys) (c.deref-3.ensures.value ∙ jobs_are) (c.deref-4.ensures.value ∙ more_are) in
          let told = three_before (λ (a b d : Trees). Tells (AreBoth a b d c.as_slice.result.now c.as_slice-2.result.now) (EitherDiffers a b d) c.in_ok-other.other) _ _ _ _ _ _ file.0.now_is m.0.0.now_is join.0.now_is one two three each.3 in
          record {
            jobs = ap length all_are;
            other = told_of_both first second joined _ _ (v.1 one) (w.1 three) versions both c.in_ok-other.other
                (subst (λ (rows : List Row). Tells (AreBoth first second joined (cells (first 1)) rows) (EitherDiffers first second joined) c.in_ok-other.other) (c.as_slice-2.ensures.value ∙ more_are)
                (subst (λ (rows : List Row). Tells (AreBoth first second joined rows c.as_slice-2.result.now) (EitherDiffers first second joined) c.in_ok-other.other) (c.as_slice.ensures.value ∙ jobs_are) told));
          },
    )
