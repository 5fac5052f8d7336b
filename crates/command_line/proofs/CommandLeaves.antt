-- What clap makes of the arguments after a subcommand's name, and after a subcommand's name and
-- `--`.
use Rattle.std.proofs.Common.{◌≡◌, List, [], ◌∷◌, true, false, codes, refl, ap, ap₂}
use Rattle.clap.specs.Walk.{Held, finished, settled, Row, Text, nothing_held, walk, walked}
use Rattle.clap.specs.Simple.{Shape, built_leaf, inherited}
use Rattle.clap.specs.Faults.{check_fault, defaults_fault, level_fault, settle_fault, walk_fault}
use Rattle.clap.specs.Kinds.{Kinds, or_else}
use Rattle.command_line.specs.Programs.{command}
use Rattle.command_line.specs.Subcommands.{bureau, values_in}
use Rattle.command_line.specs.Plain.{ArePlain}
use Rattle.command_line.specs.Tables.{subcommand_app}
use Rattle.command_line.proofs.CommandValues.{at, held_by, same_faults, same_held}

-- the subcommand as built below the program's command
abbrev pub leaf : Text → List Text → Shape
leaf name values = built_leaf (inherited (command bureau).top (subcommand_app name (values_in values)).top)

abbrev after_walk : Shape → Held → Kinds
after_walk s h = or_else (settle_fault s.rules s.args_override_self h)
    (or_else (defaults_fault (settled s.rules h).rows s.rules) (check_fault s (finished s.rules h) false))

-- the faults of the arguments after a subcommand's name
abbrev pub leaf_fault : Shape → List Text → Kinds
leaf_fault s arguments = level_fault s [] nothing_held arguments false []

-- what clap found in them
abbrev pub leaf_rows : Shape → List Text → List Row
leaf_rows s arguments = finished s.rules (walk s.rules [] nothing_held arguments).held

-- what clap holds after these arguments, and `--` before them
abbrev held_after : Shape → List Text → Held
held_after s arguments = held_by s.rules arguments (at false true 1 nothing_held)

-- the faults of the arguments after `--`
abbrev pub fault_after : Shape → List Text → Kinds
fault_after s arguments = or_else (walk_fault s [] (at false true 1 nothing_held) arguments) (after_walk s (held_after s arguments))

-- what clap found in them
abbrev pub rows_after : Shape → List Text → List Row
rows_after s arguments = finished s.rules (held_after s arguments)

pub plain_fault : (s : Shape) (arguments : List Text) → ArePlain arguments → leaf_fault s arguments ≡ fault_after s arguments
plain_fault s arguments plain = ap₂ or_else (same_faults s false false 1 nothing_held arguments plain)
    (ap (after_walk s) (same_held s.rules false false 1 nothing_held arguments plain))

pub plain_rows : (s : Shape) (arguments : List Text) → ArePlain arguments → leaf_rows s arguments ≡ rows_after s arguments
plain_rows s arguments plain = ap (finished s.rules) (same_held s.rules false false 1 nothing_held arguments plain)

pub dashes_fault : (s : Shape) (arguments : List Text) → leaf_fault s (codes "--" ∷ arguments) ≡ fault_after s arguments
unfolding walk_fault walked
dashes_fault s arguments = refl

pub dashes_rows : (s : Shape) (arguments : List Text) → leaf_rows s (codes "--" ∷ arguments) ≡ rows_after s arguments
unfolding walked
dashes_rows s arguments = refl
