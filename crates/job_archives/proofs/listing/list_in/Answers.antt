use Rattle.std.proofs.Common.{◌≡◌, subst, arith}
use Rattle.sqlite.specs.Held.{state}
use Rattle.sqlite.specs.State.{HasCleanDisk}
use Rattle.job_archives.proofs.listing.list_in.Goals as goal

pub returns-clause-left : goal.returns-clause-left
returns-clause-left g c office clean s db may =
    let last = c.list_named-listed.new.bureau.conn in
    let same : c.into_connection-conn.result ≡ last = c.into_connection-conn.ensures in
    let late : HasCleanDisk (state g.S.Store last) = rw same at clean in
    let mid : HasCleanDisk (state g.S.Store c.in-Ok-adopt.bureau.conn) = omega (arith, c.list_named-listed.ensures.clean, late) in
    let early : HasCleanDisk (state g.S.Store c.read_names.new.conn) = omega (arith, c.in-Ok-adopt.ensures.clean, mid) in
    let names = c.in-Ok.ensures.names early office (s.now (c.in-Ok.ensures.opened early)) in
    let still = c.in-Ok-adopt.ensures.stands mid office names.1 in
    c.list_named-listed.ensures.left office names.0 late still db (subst (λ h. g.S.Store.recovers h.store db) same may)
