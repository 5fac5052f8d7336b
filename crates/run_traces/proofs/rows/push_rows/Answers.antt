use Rattle.std.proofs.Common.{◌≡◌, ◌+◌, ◌-◌, ◌++◌, ◌∙◌, ap, suc, arith}
use Rattle.run_traces.specs.Rows.{follows_blank, is_blank_at, row_shown, rows_shown}
use Rattle.run_traces.proofs.RowLemmas.{follows_begin, follows_on, rows_begin, rows_on}
use Rattle.run_traces.proofs.rows.push_rows.Goals as goal

pub loop-row-preserved : goal.loop-row-preserved
loop-row-preserved g c =
    let s = g.C.Core.cells c.args.core.now in
    let first = c.args.first in
    let row = c.loop-row.row in
    let here : row ≡ first + (row - first) = omega arith in
    let next : suc (row - first) ≡ row + 1 - first = omega arith in
    record {
      text = c.in_ok-follows.ensures.text
          ∙ ap (λ n. c.loop-row.text.items ++ row_shown s c.loop-row.follows n) here
          ∙ rows_on s first (row - first) c.loop-row.follows c.args.text.now.items c.loop-row.text.items c.loop-row.invariant.text c.loop-row.invariant.follows
          ∙ ap (λ n. c.args.text.now.items ++ rows_shown s first n) next;
      follows = c.in_ok-follows.ensures.blank ∙ ap (is_blank_at s) here ∙ follows_on s first (row - first) ∙ ap (follows_blank s first) next;
    }

pub loop-row-init : goal.loop-row-init
loop-row-init g c =
    let s = g.C.Core.cells c.args.core.now in
    let none : 0 ≡ c.args.first - c.args.first = omega arith in
    record {
      text = rows_begin s c.args.first c.args.text.now.items ∙ ap (λ n. c.args.text.now.items ++ rows_shown s c.args.first n) none;
      follows = follows_begin s c.args.first ∙ ap (follows_blank s c.args.first) none;
    }

pub returns : goal.returns
returns g c =
    let s = g.C.Core.cells c.args.core.now in
    let all : c.loop-row.row - c.args.first ≡ c.args.end - c.args.first = omega arith in
    c.loop-row.invariant.text ∙ ap (λ n. c.args.text.now.items ++ rows_shown s c.args.first n) all

pub returns-then-first-end : goal.returns-then-first-end
returns-then-first-end g c =
    let s = g.C.Core.cells c.args.core.now in
    let none : 0 ≡ c.args.end - c.args.first = omega arith in
    rows_begin s c.args.first c.args.text.now.items ∙ ap (λ n. c.args.text.now.items ++ rows_shown s c.args.first n) none
