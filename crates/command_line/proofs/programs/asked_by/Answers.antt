use Rattle.std.proofs.Common.{◌≡◌, ◌⊎◌, List, inl, inr}
use Rattle.std.proofs.lemmas.Result.{IfErr-weaker}
use Rattle.clap.specs.Words.{Row, Text}
use Rattle.command_line.specs.Plain.{texts}
use Rattle.command_line.specs.Programs.{AsksFor, AsksInPlace, HasSubcommand, Program, Wish, program_as, for_help, for_subcommand, for_version}
use Rattle.command_line.specs.declared.mistakes.Mistake.{Mistake}
use Rattle.command_line.specs.declared.mistakes.Mistake.TheVariants.{Memory}
use Rattle.command_line.proofs.programs.asked_by.Goals as goal

-- arguments that ask for nothing in place of a subcommand, and for no subcommand, ask for nothing
nothing : {R : Type 0} (program : Program R) (arguments : List Text) (mistake : Mistake)
    → ((wish : Wish R) → ¬ AsksInPlace program arguments wish)
    → (mistake ≡ Memory) ⊎ ((subcommand : R) → (found : List Row) → ¬ HasSubcommand program arguments subcommand found)
    → (wish : Wish R) → AsksFor program arguments wish → mistake ≡ Memory
nothing program arguments mistake none subcommand (for_help page) asks = absurd (none (for_help page) asks)
nothing program arguments mistake none subcommand for_version asks = absurd (none for_version asks)
nothing program arguments mistake none (inl memory) (for_subcommand r found) asks = memory
nothing program arguments mistake none (inr never) (for_subcommand r found) asks = absurd (never r found asks)

pub returns-in-None-clause-err : goal.returns-in-None-clause-err
returns-in-None-clause-err g c =
    IfErr-weaker c.subcommand_in.result _ _
    (λ mistake subcommand. nothing (program_as c.args.program.now) (texts c.args.arguments.now) mistake c.in-None.ensures.none subcommand)
    c.subcommand_in.ensures.err
