use Rattle.std.proofs.Common.{◌∙◌, ap}
use Rattle.console.specs.SessionStates.{machine_of}
use Rattle.console.proofs.EndLemmas.{end_added, on_ok}
use Rattle.console.proofs.sessions.Session.push_end.Goals as goal

pub returns : goal.returns
returns c s come same =
    on_ok c.push_why.result
    (end_added s c.args.count c.in_ok-before.before c.cell_in-seen.result c.args.text.now.items c.push_last.new.text.items c.push_why.new.text.items c.args.self.now come same
    (c.in_ok-before.ensures ∙ ap (machine_of c.args.self.now.base c.args.self.now.starts) c.count_before.ensures) c.cell_in-seen.ensures c.in_ok-push_last.ensures)
    c.push_why.ensures
