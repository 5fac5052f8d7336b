use Rattle.std.proofs.Common.{subst}
use Rattle.scripts.specs.Replies.{fault_line}
use Rattle.exchanges.specs.Steps.{SendsSome}
use Rattle.exchanges.proofs.ApplyingLemmas.{sends_some}
use Rattle.exchanges.proofs.steps.report.Goals as goal

pub returns : goal.returns
returns g c =
    let contents = g.W.Write.contents in
    subst (λ n. SendsSome (fault_line n) (contents c.args.writer.now) (contents c.write_fault.new.writer) c.args.sent.now c.write_fault.new.sent) c.number.ensures
    (sends_some (fault_line c.number.result) (contents c.args.writer.now) (contents c.write_fault.new.writer) c.args.sent.now c.write_fault.new.sent c.write_fault.result c.write_fault.ensures)
