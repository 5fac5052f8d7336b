-- The row of words that arguments spell, by what they ask for by the table.
use Rattle.std.proofs.Common.{◌≡◌, List, [], ap, false, true}
use Rattle.std.proofs.lemmas.List.{length-map}
use Rattle.clap.specs.Words.{Row as Found, Text}
use Rattle.command_line.specs.Asked.{values_found}
use Rattle.command_line.specs.Programs.{AsksFor, AsksInPlace, HasSubcommand, Wish, for_help, for_subcommand, for_version, is_clear}
use Rattle.command_line.specs.Subcommands.{bureau, values_of}
use Rattle.command_line.specs.Words.{Row, Spells, SpellsInPlace, help, standard, subcommand, version}
use Rattle.command_line.specs.declared.mistakes.Mistake.{Mistake}
use Rattle.command_line.specs.declared.mistakes.Mistake.TheVariants.{Memory}
use Rattle.command_line.specs.declared.subcommands.Subcommand.{Subcommand}
use Rattle.command_line.proofs.AskedWays.{is_help, values_clear}
use Rattle.command_line.proofs.CommandArguments.{subcommand_asked, taken}

-- the row of what arguments ask for
abbrev pub row_of : Wish Subcommand → Row
row_of (for_help page) = help page
row_of for_version = version
row_of (for_subcommand name found) = subcommand name (values_found found name)

-- this is all that the arguments ask for in place of a subcommand
abbrev pub IsAll : List Text → Wish Subcommand → Type 0
IsAll arguments found = (wish : Wish Subcommand) → AsksInPlace bureau arguments wish → found ≡ wish

-- ---- a help and the version

-- a row in place of a subcommand is that of all that the arguments ask for there
pub same_place : (arguments : List Text) (wish : Wish Subcommand) → IsAll arguments wish → (row : Row) → SpellsInPlace arguments row → row_of wish ≡ row
same_place arguments wish all standard is = absurd is
same_place arguments wish all (help page) is = ap row_of (all (for_help page) (is_help arguments page is))
same_place arguments wish all version is = ap row_of (all for_version is)
same_place arguments wish all (subcommand name values) is = absurd is

-- arguments that ask for nothing in place of a subcommand spell no row there
pub never_in_place : (arguments : List Text) → ((wish : Wish Subcommand) → AsksInPlace bureau arguments wish → ⊥) → (row : Row) → SpellsInPlace arguments row → ⊥
never_in_place arguments never standard is = absurd is
never_in_place arguments never (help page) is = never (for_help page) (is_help arguments page is)
never_in_place arguments never version is = never for_version is
never_in_place arguments never (subcommand name values) is = absurd is

-- nor do arguments that ask for a subcommand
pub not_in_place : (arguments : List Text) (name : Subcommand) (found : List Found) → IsAll arguments (for_subcommand name found) → (row : Row)
    → SpellsInPlace arguments row → ⊥
not_in_place arguments name found all row is = go row is (same_place arguments (for_subcommand name found) all row is)
  where
    go : (row : Row) → SpellsInPlace arguments row → subcommand name (values_found found name) ≡ row → ⊥
    go standard is e = cc
    go (help page) is e = cc
    go version is e = cc
    go (subcommand r values) is e = absurd is

-- ---- a subcommand

-- clear arguments in which clap finds a subcommand spell the subcommand's row
pub subcommand_spelt : (arguments : List Text) (name : Subcommand) (found : List Found) → is_clear bureau arguments ≡ true → HasSubcommand bureau arguments name found
    → Spells arguments (subcommand name (values_found found name))
subcommand_spelt arguments name found clear has = (length-map (values_of name) _, subcommand_asked arguments name found clear has)

-- ---- arguments that spell no row

-- arguments that ask for nothing by the table, and are some, spell no row
pub no_row : (arguments : List Text) (fault : Mistake) → (arguments ≡ [] → ⊥) → ((wish : Wish Subcommand) → AsksFor bureau arguments wish → fault ≡ Memory)
    → (row : Row) → Spells arguments row → fault ≡ Memory
no_row arguments fault some err standard is = absurd (some is)
no_row arguments fault some err (help page) is = err (for_help page) (is_help arguments page is)
no_row arguments fault some err version is = err for_version is
no_row arguments fault some err (subcommand name values) is =
    let of_table = taken arguments values name is.0 is.1 in err (for_subcommand name of_table.found) of_table.has

unclear : (arguments : List Text) → is_clear bureau arguments ≡ true → is_clear bureau arguments ≡ false → ⊥
unclear arguments is e = cc

-- nor do arguments that are not clear, where clap finds a subcommand in them
pub no_clear_row : (arguments : List Text) (name : Subcommand) (found : List Found) → is_clear bureau arguments ≡ false → IsAll arguments (for_subcommand name found)
    → (row : Row) → Spells arguments row → ⊥
no_clear_row arguments name found odd all standard is = unclear arguments (ap (is_clear bureau) is) odd
no_clear_row arguments name found odd all (help page) is = not_in_place arguments name found all (help page) is
no_clear_row arguments name found odd all version is = not_in_place arguments name found all version is
no_clear_row arguments name found odd all (subcommand r values) is = unclear arguments (values_clear r values arguments is.1) odd
