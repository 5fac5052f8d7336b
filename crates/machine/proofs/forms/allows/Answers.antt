use Rattle.std.proofs.Common.{◌∙◌, arith}
use Rattle.machine.proofs.FormTables.{no_operation_last, free_last, condition_last, pocket_last, order_last, test_last, character_last, condition_at, pocket_at, order_at, test_at}
use Rattle.machine.proofs.forms.allows.Goals as goal

pub returns-then-number-eq-NO_OPERATION : goal.returns-then-number-eq-NO_OPERATION
returns-then-number-eq-NO_OPERATION c =
    no_operation_last c.args.first c.args.count c.args.last (omega arith) c.requires.most c.requires.form (omega arith)

pub returns-then-count-eq1 : goal.returns-then-count-eq1
returns-then-count-eq1 c =
    free_last c.args.first c.args.count c.args.last (omega arith) c.requires.most c.requires.form (omega arith) c.if-count-eq1.true

pub returns-then-count-eq5 : goal.returns-then-count-eq5
returns-then-count-eq5 c =
    c.is_among.ensures.among
    ∙ condition_at c.args.last c.is_among.ensures.below
    ∙ condition_last c.args.first c.args.count c.args.last (omega arith) c.requires.most c.requires.form (omega arith) c.if-count-eq1.false c.if-count-eq5.true

pub returns-then-number-eq-CHOOSE_POCKET : goal.returns-then-number-eq-CHOOSE_POCKET
returns-then-number-eq-CHOOSE_POCKET c =
    c.is_among-then-number-eq-CHOOSE_POCKET.ensures.among
    ∙ pocket_at c.args.last c.is_among-then-number-eq-CHOOSE_POCKET.ensures.below
    ∙ pocket_last c.args.first c.args.count c.args.last (omega arith) c.requires.most c.requires.form (omega arith) c.if-count-eq1.false c.if-count-eq5.false c.if-count-eq2.true (omega arith)

pub returns-then-count-eq2 : goal.returns-then-count-eq2
returns-then-count-eq2 c =
    c.is_among-then-count-eq2.ensures.among
    ∙ order_at c.args.last c.is_among-then-count-eq2.ensures.below
    ∙ order_last c.args.first c.args.count c.args.last (omega arith) c.requires.most c.requires.form (omega arith) c.if-count-eq1.false c.if-count-eq5.false c.if-count-eq2.true (omega arith)

pub returns-then-number-eq-BRANCH_ON_MARK_OR_ZONE : goal.returns-then-number-eq-BRANCH_ON_MARK_OR_ZONE
returns-then-number-eq-BRANCH_ON_MARK_OR_ZONE c =
    c.is_among-then-number-eq-BRANCH_ON_MARK_OR_ZONE.ensures.among
    ∙ test_at c.args.last c.is_among-then-number-eq-BRANCH_ON_MARK_OR_ZONE.ensures.below
    ∙ test_last c.args.first c.args.count c.args.last (omega arith) c.requires.most c.requires.form (omega arith) c.if-count-eq1.false c.if-count-eq5.false c.if-count-eq2.false (omega arith)

pub returns : goal.returns
returns c =
    character_last c.args.first c.args.count c.args.last (omega arith) c.requires.most c.requires.form (omega arith) c.if-count-eq1.false c.if-count-eq5.false c.if-count-eq2.false (omega arith)
