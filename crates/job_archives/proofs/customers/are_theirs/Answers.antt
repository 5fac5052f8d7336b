use Rattle.std.proofs.Common.{List, arith, sym, ap, ◌∙◌, true≢false}
use Rattle.sqlite.specs.Order.{Row}
use Rattle.job_archives.specs.Parts.{is_theirs}
use Rattle.job_checks.proofs.RowLemmas.{other_default}
use Rattle.job_archives.proofs.ChosenRows.{next_is, there}
use Rattle.job_archives.proofs.customers.are_theirs.Goals as goal
use Rattle.job_archives.proofs.customers.are_theirs.Goals.{then-at-second-via-then-at-second, then-at-second-via-else-at-second+then-not-is_same_row}

pub returns-then-at-second : goal.returns-then-at-second
returns-then-at-second c =
    let p = is_theirs c.args.customers in
    let first : List Row = c.args.first.now in
    let second : List Row = c.args.second.now in (
      λ it. absurd (true≢false (sym it)),
      λ is.
          let row = c.index-first-place.result in
          let next = next_is p first second c.loop-place.place c.loop-place.at row c.loop-place.invariant.0 c.loop-place-test.true (ap p (sym c.index-first-place.is) ∙ sym c.is_theirs.ensures ∙ c.if-is_theirs.true) is in
          let found = there second c.loop-place.at _ row _ next in
          elim c.then-at-second.branch [
            | then-at-second-via-then-at-second w ↦ absurd (omega (arith, found.0, w.if-at-second.true))
            | then-at-second-via-else-at-second+then-not-is_same_row w ↦
                let same = w.index-first-place-else-at-second.is ∙ other_default first c.loop-place.place _ row c.loop-place-test.true ∙ sym found.1 ∙ other_default second c.loop-place.at row _ found.0 ∙ sym w.index-second-at.is in
                absurd (true≢false (sym (w.is_same_row.ensures.1 same) ∙ w.if-not-is_same_row.true))
          ],
    )
