use Rattle.std.proofs.Common.{◌≡◌, false, IsTrue, sym, subst, rules}
use Rattle.sqlite.specs.State.{HasCleanDisk, KeepsCommit}
use Rattle.sqlite.specs.Held.{state}
use Rattle.office_tables.specs.Standing.{Stands, StandsIn}
use Rattle.ledger.proofs.BureauTransactions.{rolled_untouched}
use Rattle.job_archives.proofs.NameReads.{left_before, names_read, open_if_shown, stands_settled, still_stands}
use Rattle.job_archives.proofs.names.read_names.Goals as goal

pub returns-in-Ok-clause-names : goal.returns-in-Ok-clause-names
returns-in-Ok-clause-names g c clean office seen =
    let begun = c.transaction-tx.ensures.begun in
    let tx = c.transaction-tx.result.conn.now in
    let mid = c.query_all-found.new.self.conn.now in
    let end = c.rollback.new.self.0 in
    let same : end ≡ c.conn-1.given.0 = search rules in
    let late : HasCleanDisk (state g.S.Store end) = search rules in
    let early : HasCleanDisk (state g.S.Store mid) = search (rules, c.rollback.ensures.survives.clean) in
    let there : StandsIn (state g.S.Store tx) office = rw begun seen in
    let did = names_read (state g.S.Store tx) (state g.S.Store mid) c.in-Ok.rows.items office (c.in-Ok.ensures.ok early) there in
    let kept : KeepsCommit (state g.S.Store tx) (state g.S.Store mid) = record { was_open = λ _. did.0.0.was_open; committed = λ _. did.0.0.committed_is } in
    let opened : IsTrue (state g.S.Store c.args.conn.now).is_open = rw begun at did.0.0.was_open in
    let settled : IsTrue (state g.S.Store c.args.conn.now).is_open → (state g.S.Store c.args.conn.now).now ≡ (state g.S.Store c.args.conn.now).committed = search rules in
    let outside : c.args.conn.now.in_transaction ≡ false = search rules in
    let all = rolled_untouched g.S.Store c.args.conn.now tx mid end begun settled outside kept c.in-Ok.ensures.survives early (c.rollback.ensures.undone late) c.rollback.ensures.survives late in
    let stood = stands_settled (state g.S.Store c.args.conn.now) office outside (settled opened) (λ db may. g.met.S.Store.settled c.args.conn.now.store db opened may) seen in
    (seen.tables.shared.distinct, subst (λ h. Stands (state g.S.Store h) office) same (still_stands _ _ office all seen stood), did.1)

pub returns-in-Ok-clause-opened : goal.returns-in-Ok-clause-opened
returns-in-Ok-clause-opened g c clean =
    let begun = c.transaction-tx.ensures.begun in
    let mid = c.query_all-found.new.self.conn.now in
    let end = c.rollback.new.self.0 in
    let late : HasCleanDisk (state g.S.Store end) = search rules in
    let early : HasCleanDisk (state g.S.Store mid) = search (rules, c.rollback.ensures.survives.clean) in
    rw begun at (open_if_shown _ _ _ _ _ (c.in-Ok.ensures.ok early))

pub returns-in-Ok-clause-left : goal.returns-in-Ok-clause-left
returns-in-Ok-clause-left g c office clean s db may =
    let begun = c.transaction-tx.ensures.begun in
    let tx = c.transaction-tx.result.conn.now in
    let mid = c.query_all-found.new.self.conn.now in
    let end = c.rollback.new.self.0 in
    let same : end ≡ c.conn-1.given.0 = search rules in
    let late : HasCleanDisk (state g.S.Store end) = search rules in
    let early : HasCleanDisk (state g.S.Store mid) = search (rules, c.rollback.ensures.survives.clean) in
    let there : g.S.Store.recovers end.store db = subst (λ h. g.S.Store.recovers h.store db) (sym same) may in
    let before : g.S.Store.recovers tx.store db = left_before (state g.S.Store tx) (state g.S.Store mid) (state g.S.Store end) c.query_all-found.ensures.survives c.rollback.ensures.survives early late db there in
    s.left db (subst (λ h. g.S.Store.recovers h.store db) begun before)

pub returns-in-Err-clause-left : goal.returns-in-Err-clause-left
returns-in-Err-clause-left g c office clean s db may =
    let begun = c.transaction-tx.ensures.begun in
    let tx = c.transaction-tx.result.conn.now in
    let mid = c.query_all-found.new.self.conn.now in
    let end = c.rollback.new.self.0 in
    let same : end ≡ c.conn-1.given.0 = search rules in
    let late : HasCleanDisk (state g.S.Store end) = search rules in
    let early : HasCleanDisk (state g.S.Store mid) = search (rules, c.rollback.ensures.survives.clean) in
    let there : g.S.Store.recovers end.store db = subst (λ h. g.S.Store.recovers h.store db) (sym same) may in
    let before : g.S.Store.recovers tx.store db = left_before (state g.S.Store tx) (state g.S.Store mid) (state g.S.Store end) c.query_all-found.ensures.survives c.rollback.ensures.survives early late db there in
    s.left db (subst (λ h. g.S.Store.recovers h.store db) begun before)
