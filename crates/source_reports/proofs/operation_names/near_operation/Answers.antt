use Rattle.std.proofs.Common.{◌∙◌, ap}
use Rattle.source_reports.specs.OperationNames.{near_in}
use Rattle.source_reports.proofs.OperationNameLemmas.{names_are}
use Rattle.source_reports.proofs.operation_names.near_operation.Goals as goal

pub returns : goal.returns
returns c = c.near_in.ensures ∙ ap (λ table. near_in table c.args.field.now) names_are
