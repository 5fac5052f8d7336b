-- The rows of jobs at a halt.
use Rattle.std.proofs.Common.{List, [], ◌∷◌, map, ap, ◌∙◌}
use Rattle.std.specs.List.{AllByRecursion}
use Rattle.std.specs.Option.{option_to_list}
use Rattle.machine.specs.Run.{State}
use Rattle.units.specs.declared.switches.Switches.{Switches}
use Rattle.office.specs.Jobs.{Job, HaltsBetween, IsAtHalt, RunsWhole, HasRunWhole, switches_of, cards_by, lines_by}
use Rattle.office.specs.Office.{Entry, Office}
use Rattle.sqlite.specs.Effect.{Database}
use Rattle.ledger_tables.specs.Tables.{Holds, placed, card_row, line_row, pocket_row}
use Rattle.ledger.specs.Listed.{IsIts}
use Rattle.office_tables.specs.Standing.{CanBeKept, Rows, tables_of, cards_of, lines_of, pockets_of}
use Rattle.ledger.proofs.ListLemmas.{all_its}
use Rattle.ledger.specs.WholeRows.{RunMakes, HasWholeRows, HaveWholeRows}

run_makes : (begin : Switches → State) (job : Job) → HasRunWhole begin job → RunMakes begin (switches_of job) (cards_by job) (lines_by job)
run_makes begin job run = record { holds = run.holds; only = run.only }

has_whole_rows : (db : Database) (office : Office) → Holds db (tables_of office) → (e : Entry) → IsIts office e → RunsWhole e.job → IsAtHalt e.job → HasWholeRows db e
has_whole_rows db office holds e its runs halted =
    let whole = runs halted in
    record {
      cards = cards_by e.job;
      lines = lines_by e.job;
      rows = record {
        card_rows = holds.shared.cards.each e.customer e.number ∙ ap (λ j. placed (card_row e.customer e.number) 1 (cards_of j)) its;
        pocket_rows = λ place. holds.beside.pockets_are.each e.customer e.number place ∙ ap (λ j. map (pocket_row e.customer e.number place) (option_to_list (pockets_of j place))) its;
        line_rows = holds.shared.lines.each e.customer e.number ∙ ap (λ j. placed (line_row e.customer e.number) 1 (lines_of j)) its;
      };
      from_deck = run_makes _ e.job whole.0;
      from_source = λ can. run_makes _ e.job (whole.1 can);
    }

each : (db : Database) (office : Office) → Holds db (tables_of office) → (es : Office) → AllByRecursion (IsIts office) es → AllByRecursion RunsWhole (map (λ (e : Entry). e.job) es) → HaveWholeRows db es
each db office holds [] its runs = tt
each db office holds (e ∷ es) its runs = (has_whole_rows db office holds e its.0 runs.0, each db office holds es its.1 runs.1)

pub all_halt_between : (es : Office) → AllByRecursion (λ (e : Entry). CanBeKept e.job) es → AllByRecursion HaltsBetween (map (λ (e : Entry). e.job) es)
all_halt_between [] jobs = tt
all_halt_between (e ∷ es) jobs = (jobs.0.job.halts, all_halt_between es jobs.1)

pub have_whole_rows : ((jobs : List Job) → AllByRecursion HaltsBetween jobs → AllByRecursion RunsWhole jobs) → (db : Database) (office : Office) → Rows db office → HaveWholeRows db office
have_whole_rows law db office rows =
    each db office rows.tables office (all_its office rows.tables.shared.distinct) (law (map (λ (e : Entry). e.job) office) (all_halt_between office rows.jobs))
