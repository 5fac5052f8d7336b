use Rattle.std.proofs.Common.{◌≡◌, List, subst}
use Rattle.std.proofs.lemmas.Result.{IfErr-weaker, IfOk-at_ok}
use Rattle.clap.specs.Words.{Text}
use Rattle.command_line.specs.Arguments.{given}
use Rattle.command_line.specs.Plain.{texts}
use Rattle.command_line.specs.Words.{Row, Spells, SpellsInPlace, help, row_as, version}
use Rattle.command_line.specs.declared.spelled.Words.{Words}
use Rattle.command_line.proofs.TaskArguments.{no_subcommand_task, spelt}
use Rattle.command_line.proofs.tasks.task_of.Goals as goal

-- the arguments spell the row that is found
abbrev Are : List Text → Words → Type 0
Are arguments found = Spells arguments (row_as found)

-- the row that is found is the help or the version that the arguments spell
abbrev IsAll : List Text → Words → Type 0
IsAll arguments found = (row : Row) → SpellsInPlace arguments row → row_as found ≡ row

pub returns-in-Ok-Subcommand-clause-err : goal.returns-in-Ok-Subcommand-clause-err
returns-in-Ok-Subcommand-clause-err c =
    let arguments = texts c.args.arguments.now in
    let are = subst (Are arguments) c.in-Ok-Subcommand.field-0-is c.in-Ok-Subcommand.ensures.ok in
    let all = subst (IsAll arguments) c.in-Ok-Subcommand.field-0-is c.in-Ok-Subcommand.ensures.in_place in
    IfErr-weaker c.subcommand_task.result _ _
    (λ m wrong t wants. absurd (no_subcommand_task arguments c.in-Ok-Subcommand.subcommand (given c.in-Ok-Subcommand.found) m t are.1 all wrong wants))
    c.subcommand_task.ensures.mistake

pub returns-in-Ok-Subcommand-clause-help : goal.returns-in-Ok-Subcommand-clause-help
returns-in-Ok-Subcommand-clause-help c page =
    let all = subst (IsAll (texts c.args.arguments.now)) c.in-Ok-Subcommand.field-0-is c.in-Ok-Subcommand.ensures.in_place in
    (λ e. absurd (IfOk-at_ok _ e c.subcommand_task.ensures.ok), λ is. let k = all (help page) is in cc)

pub returns-in-Err-clause-err : goal.returns-in-Err-clause-err
returns-in-Err-clause-err c t wants = let of = spelt (texts c.args.arguments.now) t wants in c.in-Err.ensures.err of.row of.spells

pub returns-in-Err-clause-help : goal.returns-in-Err-clause-help
returns-in-Err-clause-help c page = (λ e. cc, λ is. absurd (c.in-Err.ensures.never (help page) is))

pub returns-in-Err-clause-version : goal.returns-in-Err-clause-version
returns-in-Err-clause-version c = (λ e. cc, λ is. absurd (c.in-Err.ensures.never version is))
