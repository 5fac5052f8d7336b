use Rattle.std.proofs.Common.{◌≡◌, ◌∙◌, ◌==◌, ◌∷◌, [], List, String, false, length, subst, sym}
use Rattle.std.proofs.lemmas.Result.{IfErr-weaker, IfOk-weaker}
use Rattle.std.specs.declared.alloc.Global.{Global}
use Rattle.clap.specs.Words.{Text}
use Rattle.command_line.specs.Arguments.{given}
use Rattle.command_line.specs.Plain.{texts}
use Rattle.command_line.specs.Programs.{AsksFor, wish_as}
use Rattle.command_line.specs.Subcommands.{bureau}
use Rattle.command_line.specs.Words.{Spells, row_as}
use Rattle.command_line.specs.declared.programs.Asked.{Asked}
use Rattle.command_line.specs.declared.subcommands.Subcommand.{Subcommand}
use Rattle.command_line.proofs.AskedWays.{help_is}
use Rattle.command_line.proofs.BureauCommand.{free, simple}
use Rattle.command_line.proofs.SpellingRows.{IsAll, never_in_place, no_clear_row, no_row, not_in_place, subcommand_spelt}
use Rattle.command_line.proofs.spelling.words.Goals as goal

-- the arguments ask for what is found
abbrev Asks : List Text → Asked Subcommand → Type 0
Asks arguments found = AsksFor bureau arguments (wish_as found)

-- what is found is all that the arguments ask for in place of a subcommand
abbrev AreAll : List Text → Asked Subcommand → Type 0
AreAll arguments found = IsAll arguments (wish_as found)

some_arguments : (arguments : List (String Global)) → (length arguments == 0) ≡ false → texts arguments ≡ [] → ⊥
some_arguments [] some none = cc
some_arguments (argument ∷ arguments) some none = cc

pub asked_by-requires-clause-simple : goal.asked_by-requires-clause-simple
asked_by-requires-clause-simple c = λ κs. simple

pub asked_by-requires-clause-free : goal.asked_by-requires-clause-free
asked_by-requires-clause-free c = λ κs. free

pub returns-in-Ok-Help-clause-ok : goal.returns-in-Ok-Help-clause-ok
returns-in-Ok-Help-clause-ok c =
    help_is _ _ (subst (Asks (texts c.args.arguments.now)) c.in-Ok-Help.field-0-is c.in-Ok-Help.ensures.ok)

pub returns-in-Ok-Subcommand-clause-ok : goal.returns-in-Ok-Subcommand-clause-ok
returns-in-Ok-Subcommand-clause-ok c =
    let arguments = texts c.args.arguments.now in
    let asks = subst (Asks arguments) c.in-Ok-Subcommand.field-0-is c.in-Ok-Subcommand.ensures.ok in
    IfOk-weaker c.clear_words.result _ _
    (λ row is. subst (λ w. Spells arguments (row_as w)) (sym is.1) (subcommand_spelt arguments c.in-Ok-Subcommand.subcommand (given c.in-Ok-Subcommand.found) is.0 asks))
    c.clear_words.ensures.ok

pub returns-in-Ok-Subcommand-clause-err : goal.returns-in-Ok-Subcommand-clause-err
returns-in-Ok-Subcommand-clause-err c =
    let arguments = texts c.args.arguments.now in
    let all = subst (AreAll arguments) c.in-Ok-Subcommand.field-0-is c.in-Ok-Subcommand.ensures.in_place in
    IfErr-weaker c.clear_words.result _ _
    (λ fault wrong row is. absurd (no_clear_row arguments c.in-Ok-Subcommand.subcommand (given c.in-Ok-Subcommand.found) wrong.0 all row is)) c.clear_words.ensures.err

pub returns-in-Ok-Subcommand-clause-in_place : goal.returns-in-Ok-Subcommand-clause-in_place
returns-in-Ok-Subcommand-clause-in_place c =
    let arguments = texts c.args.arguments.now in
    let all = subst (AreAll arguments) c.in-Ok-Subcommand.field-0-is c.in-Ok-Subcommand.ensures.in_place in
    IfOk-weaker c.clear_words.result _ _
    (λ found is row place. absurd (not_in_place arguments c.in-Ok-Subcommand.subcommand (given c.in-Ok-Subcommand.found) all row place)) c.clear_words.ensures.ok

pub returns-in-Ok-Subcommand-clause-never : goal.returns-in-Ok-Subcommand-clause-never
returns-in-Ok-Subcommand-clause-never c =
    let arguments = texts c.args.arguments.now in
    let all = subst (AreAll arguments) c.in-Ok-Subcommand.field-0-is c.in-Ok-Subcommand.ensures.in_place in
    IfErr-weaker c.clear_words.result _ _
    (λ fault wrong row place. not_in_place arguments c.in-Ok-Subcommand.subcommand (given c.in-Ok-Subcommand.found) all row place) c.clear_words.ensures.err

pub returns-in-Err-clause-err : goal.returns-in-Err-clause-err
returns-in-Err-clause-err c =
    no_row (texts c.args.arguments.now) _ (some_arguments c.args.arguments.now (sym c.is_empty.ensures ∙ c.if-is_empty.false)) c.in-Err.ensures.err

pub returns-in-Err-clause-never : goal.returns-in-Err-clause-never
returns-in-Err-clause-never c = never_in_place (texts c.args.arguments.now) c.in-Err.ensures.never
