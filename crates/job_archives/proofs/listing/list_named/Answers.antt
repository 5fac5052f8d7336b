use Rattle.std.proofs.Common.{◌≤◌, ◌+◌, [], List, ℕ, Option, length, take, option_map, ap, arith, rules}
use Rattle.std.proofs.lemmas.List.{length-map, take_all}
use Rattle.sqlite.specs.Held.{state}
use Rattle.sqlite.specs.State.{HasCleanDisk}
use Rattle.ledger.specs.Listed.{IsIts}
use Rattle.ledger.proofs.ListLemmas.{all_its, at_row}
use Rattle.job_archives.specs.Names.{name_row}
use Rattle.job_archives.proofs.ListingLines.{next_line, whole_list}
use Rattle.job_archives.proofs.listing.list_named.Goals as goal

pub loop-row-preserved : goal.loop-row-preserved
loop-row-preserved g c = record {
  few = search rules;
  clean = search rules;
  listed = λ clean office distinct s.
      let asked : Option (List ℕ) = option_map (λ it. it.now) c.args.asked in
      let early : HasCleanDisk (state g.S.Store c.loop-row.bureau.conn) = omega (arith, c.push_row.ensures.clean, clean) in
      let before = c.loop-row.invariant.listed early office distinct s in
      let here = c.in_ok-jobs.ensures.added clean office distinct before.0 in
      let i = c.loop-row.row-index in (
        here.0,
        λ is.
            let it = at_row name_row (IsIts office) office c.args.rows.now i c.row-item.result is (all_its office distinct) c.loop-row-test.true c.row-item.is in
            next_line asked (take i office) (take (i + 1) office) it.0 [] _ _ _ _ it.3 (before.1 is) (here.1 it.0 it.1 it.2),
      );
}

pub returns-clause-listed : goal.returns-clause-listed
returns-clause-listed g c clean office distinct s =
    let last = c.loop-row.invariant.listed clean office distinct s in (
      last.0,
      λ is.
          let many : length office ≤ c.loop-row.row-index = omega (arith, c.loop-row-test.false, ap length is, length-map office name_row) in
          whole_list _ office c.loop-row.row-index _ _ _ (take_all c.loop-row.row-index office many) (last.1 is) c.in_ok-push_count.ensures,
    )

pub returns-in_err-jobs-clause-left : goal.returns-in_err-jobs-clause-left
returns-in_err-jobs-clause-left g c office distinct clean s db may =
    let early : HasCleanDisk (state g.S.Store c.loop-row.bureau.conn) = omega (arith, c.push_row.ensures.clean, clean) in
    let before = c.loop-row.invariant.listed early office distinct s in
    c.push_row.ensures.left office distinct clean before.0 db may
