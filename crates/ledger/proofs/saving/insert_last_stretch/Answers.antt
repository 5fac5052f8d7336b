use Rattle.std.proofs.Common.{ap}
use Rattle.ledger_tables.proofs.Frames.{on_ok_then}
use Rattle.ledger_tables.specs.declared.rows.StretchRow.{StretchRow}
use Rattle.ledger.proofs.SavingLemmas.{last_stretched}
use Rattle.ledger.proofs.saving.insert_last_stretch.Goals as goal

pub returns-clause-added : goal.returns-clause-added
returns-clause-added g c clean inside =
    let found = c.in_ok-place.ensures in
    let last = c.in_ok-place.last.now in
    on_ok_then c.insert_stretch.result _ _ (λ did t holds was. last_stretched _ t c.args.name.customer.now c.args.name.number c.in_ok-place.place was.0 c.args.stretches.now was.1 last _ was.2 was.3 found.1 found.2
    (ap (λ n. let y : StretchRow = record { switches = n; granted = last.granted } in y) c.switches_number.ensures.number) (did t holds))
    (c.insert_stretch.ensures.added clean inside)
