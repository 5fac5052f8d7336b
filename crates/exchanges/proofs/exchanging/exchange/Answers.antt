use Rattle.std.proofs.Common.{List, Option, None, Some, refl, subst, sym, ℕ}
use Rattle.std.specs.Io.KnownBytes.{Keeps}
use Rattle.ledger.proofs.WorkLemmas.{worked_so, worked_still}
use Rattle.sqlite.specs.Held.{state}
use Rattle.office_tables.specs.Standing.{Stands}
use Rattle.exchanges.specs.Exchanges.{Comes}
use Rattle.exchanges.specs.Work.{TellsRead}
use Rattle.exchanges.proofs.exchanging.exchange.Goals as goal

kept : (bytes : Option (List ℕ)) → Keeps bytes bytes
kept None = tt
kept (Some bytes) = refl

pub returns-in-Whole-clause-exchanged : goal.returns-in-Whole-clause-exchanged
returns-in-Whole-clause-exchanged g c =
    let comes = subst (λ (bytes : List ℕ). Comes g.S.Store c.args.bureau.now.conn c.answer_next.new.bureau.conn c.args.bureau.now.broken c.answer_next.new.bureau.broken c.args.meter.now c.answer_next.new.meter (g.R.Read.remaining c.args.reader.now) c.in-Some.message.status bytes)
    (sym c.as_slice-bytes.ensures) c.in-Some.ensures.comes in
    (c.as_slice-bytes.result.now, comes, refl, c.in-Whole.ensures)

pub returns-clause-exchanged : goal.returns-clause-exchanged
returns-clause-exchanged g c =
    let comes = subst (λ (bytes : List ℕ). Comes g.S.Store c.args.bureau.now.conn c.answer_next.new.bureau.conn c.args.bureau.now.broken c.answer_next.new.bureau.broken c.args.meter.now c.answer_next.new.meter (g.R.Read.remaining c.args.reader.now) c.in-Some.message.status bytes)
    (sym c.as_slice-bytes.ensures) c.in-Some.ensures.comes in
    (c.in-Some.message.status, c.as_slice-bytes.result.now, comes, c.in-Failed.ensures.0, c.in-Failed.ensures.1)

pub returns-in_default-clause-works : goal.returns-in_default-clause-works
returns-in_default-clause-works g c =
    worked_still c.kept_offices_run_whole.ensures g.S.Store c.args.bureau.now.conn c.answer_next.new.bureau.conn c.answer_next.new.bureau.broken _
    (λ clean o s. subst (λ b. Stands (state g.S.Store b.conn) o) (sym c.in_default.ensures.none.0) s) (kept _, (refl, refl))

pub returns-in-Whole-clause-works : goal.returns-in-Whole-clause-works
returns-in-Whole-clause-works g c =
    worked_so g.S.Store c.args.bureau.now.conn c.answer_next.new.bureau.conn c.answer_next.new.bureau.broken _ _
    (λ done replies told. (
      c.as_slice-bytes.result.now,
      subst (λ (bytes : List ℕ). TellsRead (g.R.Read.remaining c.args.reader.now) c.in-Some.message.status bytes done replies) (sym c.as_slice-bytes.ensures) told,
      refl,
      c.in-Whole.ensures,
    ))
    c.in-Some.ensures.works

pub returns-clause-works : goal.returns-clause-works
returns-clause-works g c =
    worked_so g.S.Store c.args.bureau.now.conn c.answer_next.new.bureau.conn c.answer_next.new.bureau.broken _ _
    (λ done replies told. (
      c.in-Some.message.status,
      c.as_slice-bytes.result.now,
      subst (λ (bytes : List ℕ). TellsRead (g.R.Read.remaining c.args.reader.now) c.in-Some.message.status bytes done replies) (sym c.as_slice-bytes.ensures) told,
      c.in-Failed.ensures.0,
      c.in-Failed.ensures.1,
    ))
    c.in-Some.ensures.works
