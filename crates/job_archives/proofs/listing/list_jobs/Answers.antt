use Rattle.std.proofs.Common.{arith}
use Rattle.sqlite.specs.Held.{state}
use Rattle.sqlite.specs.State.{HasCleanDisk}
use Rattle.job_archives.proofs.listing.list_jobs.Goals as goal

pub returns-then-is_broken-clause-left : goal.returns-then-is_broken-clause-left
returns-then-is_broken-clause-left g c clean office s db may =
    let quiet : HasCleanDisk (state g.S.Store c.list_in-listed.result.1) = omega (arith, c.into_store-store.ensures.quiet.clean, clean) in
    c.list_in-listed.ensures.left office quiet s db (c.into_store-store.ensures.quiet.outcomes db may)

pub returns-clause-left : goal.returns-clause-left
returns-clause-left g c clean office s db may =
    let quiet : HasCleanDisk (state g.S.Store c.list_in-listed.result.1) = omega (arith, c.into_store-store.ensures.quiet.clean, clean) in
    c.list_in-listed.ensures.left office quiet s db (c.into_store-store.ensures.quiet.outcomes db may)
