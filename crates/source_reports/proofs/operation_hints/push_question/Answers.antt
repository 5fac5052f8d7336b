use Rattle.std.specs.Prelude.{codes}
use Rattle.source_reports.specs.OperationNames.{shown_name}
use Rattle.source_reports.proofs.PieceLemmas.{three_pieces}
use Rattle.source_reports.proofs.operation_hints.push_question.Goals as goal

pub returns : goal.returns
returns c =
    three_pieces c.args.text.now.items (codes "; did you mean ") (shown_name c.args.name.now) (codes "?")
    c.push_text.new.text.items c.push_operation_name.new.text.items c.push_text-2.new.text.items
    c.in_ok-push_text.ensures c.in_ok-push_operation_name.ensures c.in_ok-push_text-2.ensures
