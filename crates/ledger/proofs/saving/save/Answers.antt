use Rattle.ledger_tables.proofs.Frames.{on_ok_then}
use Rattle.ledger.proofs.saving.save.Goals as goal

pub returns-in-Slice-clause-saved : goal.returns-in-Slice-clause-saved
returns-in-Slice-clause-saved g c old clean inside = rw c.in-Slice.is (c.save_slice.ensures.saved c.in-Slice.limit old clean inside)

pub returns-in-Start-clause-saved : goal.returns-in-Start-clause-saved
returns-in-Start-clause-saved g c old clean inside =
    rw c.in-Start.is (on_ok_then c.save_start.result _ _ (λ saved office stands is. saved office stands is.after) (c.save_start.ensures.saved c.in-Start.switches old clean inside))
