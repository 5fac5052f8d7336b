use Rattle.std.proofs.Common.{sym, ap, subst, ◌∙◌}
use Rattle.sqlite.specs.Held.{state}
use Rattle.office.specs.Office.{Office, job_of}
use Rattle.office_tables.specs.Standing.{Stands}
use Rattle.job_archives.proofs.AskedLemmas.{left_same, told_by}
use Rattle.job_archives.proofs.listing.ask.Goals as goal

pub returns-in-Standing-clause-told : goal.returns-in-Standing-clause-told
returns-in-Standing-clause-told g c clean office apart s =
    let here = c.in_ok-summary.ensures.reply clean office s in
    let told = told_by c.in_ok-from_str.field-0 c.args.name.number office c.in-Standing.summary apart (sym c.in-Standing.is ∙ here.0) in (
      subst (λ (o : Office). Stands (state g.S.Store c.apply.new.self.conn) o) told.same here.1,
      λ job there. told.summary_is job (ap (λ who. job_of who c.args.name.number office) c.in_ok-from_str.ensures.ok ∙ there),
    )

pub returns-in_err-summary-clause-left : goal.returns-in_err-summary-clause-left
returns-in_err-summary-clause-left g c office apart clean s db may =
    left_same c.in_ok-from_str.field-0 c.args.name.number office apart db (c.apply.ensures.crash clean office s db may)

pub returns-in-Standing-clause-left : goal.returns-in-Standing-clause-left
returns-in-Standing-clause-left g c office apart clean s db may =
    left_same c.in_ok-from_str.field-0 c.args.name.number office apart db (c.apply.ensures.crash clean office s db may)

pub returns-clause-left : goal.returns-clause-left
returns-clause-left g c office apart clean s db may =
    left_same c.in_ok-from_str.field-0 c.args.name.number office apart db (c.apply.ensures.crash clean office s db may)
