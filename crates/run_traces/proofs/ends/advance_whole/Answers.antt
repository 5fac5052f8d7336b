use Rattle.std.proofs.Common.{◌≡◌, subst, sym}
use Rattle.std.specs.Result.{IfOk, OnOk}
use Rattle.run_traces.proofs.EndLemmas.{whole_end, whole_run}
use Rattle.run_traces.proofs.ends.advance_whole.Goals as goal

pub returns-clause-machine : goal.returns-clause-machine
returns-clause-machine g c =
    subst (λ m. OnOk c.advance.result (c.advance.new.machine ≡ m)) (sym (whole_run c.args.machine.now c.args.limit)) c.advance.ensures.machine

pub returns-clause-attempts : goal.returns-clause-attempts
returns-clause-attempts g c =
    subst (λ n. IfOk c.advance.result (λ made. made ≡ n)) (sym (whole_end c.args.machine.now c.args.limit)) c.advance.ensures.attempts
