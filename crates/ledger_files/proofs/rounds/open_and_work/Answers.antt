use Rattle.std.proofs.Common.{arith}
use Rattle.sqlite.specs.Files.{file_state}
use Rattle.sqlite.specs.State.{HasCleanDisk}
use Rattle.ledger_files.proofs.RoundLemmas.{worked_from}
use Rattle.ledger_files.proofs.rounds.open_and_work.Goals as goal

pub returns-in-Ok-clause-worked : goal.returns-in-Ok-clause-worked
returns-in-Ok-clause-worked g c =
    worked_from _ _ c.in-Ok.bureau.conn c.carry_out.new.bureau.conn c.carry_out.new.bureau.broken c.carry_out.ensures.clean c.in-Ok.ensures.version c.in-Ok.ensures.found
    c.carry_out.ensures.works

pub returns-in-Ok-clause-version : goal.returns-in-Ok-clause-version
returns-in-Ok-clause-version g c clean =
    let early : HasCleanDisk (file_state c.in-Ok.bureau.conn) = omega (arith, c.carry_out.ensures.clean) in
    c.in-Ok.ensures.version early
