use Rattle.std.proofs.Common.{arith}
use Rattle.sqlite.specs.Files.{file_state}
use Rattle.sqlite.specs.State.{HasCleanDisk}
use Rattle.sqlite.specs.WalFiles.{image_at}
use Rattle.ledger_files.proofs.MakingLemmas.{found_empty}
use Rattle.ledger_files.proofs.making.open_new.Goals as goal

pub returns-in-Ok-created-clause-first : goal.returns-in-Ok-created-clause-first
returns-in-Ok-created-clause-first g c clean empty =
    let early : HasCleanDisk (file_state c.in-Ok.conn) = omega (arith, c.in-Ok-created.ensures.clean, clean) in
    let opened = c.in-Ok.ensures.opened early in
    let found = c.in-Ok.ensures.found early in
    c.in-Ok-created.ensures.made clean opened.0 opened.1 (found_empty (image_at g.S.Start) _ empty found.reads)
