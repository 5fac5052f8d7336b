-- Clap's definition speaks of the program's command.
use Rattle.std.proofs.Common.{◌≡◌, true, refl}
use Rattle.clap.specs.Simple.{is_simple}
use Rattle.clap.specs.Words.{is_simple_and_free}
use Rattle.clap.proofs.OnLiterals.{clap_on_literals}
use Rattle.command_line.specs.Programs.{command}
use Rattle.command_line.specs.Subcommands.{bureau}

pub simple : is_simple (command bureau) ≡ true
unfolding command clap_on_literals
simple = refl

pub free : is_simple_and_free (command bureau) ≡ true
unfolding command clap_on_literals
free = refl
