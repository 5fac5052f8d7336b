use Rattle.std.proofs.Common.{◌≡◌, ◌∙◌, ◌==◌, ◌++◌, ap, sym, true, false, length, append-nil}
use Rattle.card_forms.specs.Signs.{are_blank, filled}
use Rattle.card_tools.specs.Comparing.{marks_of}
use Rattle.card_tools.proofs.CardMarks.{filled_none, same_shown, same_count, other_shown, other_count}
use Rattle.card_tools.proofs.comparing.push_shown.Goals as goal

-- no column is marked
same : (c : goal.Then-is_empty) → are_blank (marks_of c.args.one.now.0 c.args.two.now.0) ≡ true
same c = sym (filled_none (marks_of c.args.one.now.0 c.args.two.now.0))
    ∙ ap (λ codes. length codes == 0) (sym (c.filled-marked.ensures ∙ ap filled c.marks-marks.ensures))
    ∙ sym c.is_empty.ensures ∙ c.if-is_empty.true

-- a column is marked
other : (c : goal.In_ok-push_pair) → are_blank (marks_of c.args.one.now.0 c.args.two.now.0) ≡ false
other c = sym (filled_none (marks_of c.args.one.now.0 c.args.two.now.0))
    ∙ ap (λ codes. length codes == 0) (sym (c.filled-marked.ensures ∙ ap filled c.marks-marks.ensures))
    ∙ sym c.is_empty.ensures ∙ c.if-is_empty.false

pub returns-then-is_empty-clause-shown : goal.returns-then-is_empty-clause-shown
returns-then-is_empty-clause-shown c = rw (same_shown c.args.number c.args.one.now c.args.two.now (same c)) (sym (append-nil c.args.text.now.items))

pub returns-then-is_empty-clause-differing : goal.returns-then-is_empty-clause-differing
returns-then-is_empty-clause-differing c = sym (same_count c.args.one.now c.args.two.now (same c))

pub returns-clause-shown : goal.returns-clause-shown
returns-clause-shown c =
    c.in_ok-push_pair.ensures ∙ ap (λ more. c.args.text.now.items ++ more) (sym (other_shown c.args.number c.args.one.now c.args.two.now (other c)))

pub returns-clause-differing : goal.returns-clause-differing
returns-clause-differing c = sym (other_count c.args.one.now c.args.two.now (other c))
