-- A subcommand has one name, and the name one subcommand.
use Rattle.std.proofs.Common.{◌≡◌, ◌∙◌, Bool, List, [], ◌∷◌, true, false, map, refl, Some, None, ap, sym, if◌then◌else◌}
use Rattle.std.specs.Prelude.{Option, find, option_map}
use Rattle.std.specs.Str.{bytes_eq}
use Rattle.std.proofs.lemmas.Slice.Eq.{bytes_eq-Decides}
use Rattle.clap.specs.Words.{Text}
use Rattle.command_line.specs.Programs.{Syntax, subcommand_named}
use Rattle.command_line.specs.Subcommands.{bureau, syntax_of, name_of, subcommands}
use Rattle.command_line.specs.declared.subcommands.Subcommand.{Subcommand}
use Rattle.command_line.specs.declared.subcommands.Subcommand.TheVariants as name

pub some_is : {X : Type 0} {x y : X} → Some x ≡ Some y → x ≡ y
some_is e = cc

pub named_name : (subcommand : Subcommand) → subcommand_named bureau (name_of subcommand) ≡ Some subcommand
named_name name.Run = refl
named_name name.Assemble = refl
named_name name.Init = refl
named_name name.Apply = refl
named_name name.Export = refl
named_name name.Migrate = refl
named_name name.Serve = refl

-- two subcommands of one name are one
pub one_name : (a b : Subcommand) → name_of a ≡ name_of b → a ≡ b
one_name a b e = some_is (sym (named_name a) ∙ (ap (subcommand_named bureau) e ∙ named_name b))

subcommand_of_syntax : (subcommand : Subcommand) → (syntax_of subcommand).0 ≡ subcommand
subcommand_of_syntax name.Run = refl
subcommand_of_syntax name.Assemble = refl
subcommand_of_syntax name.Init = refl
subcommand_of_syntax name.Apply = refl
subcommand_of_syntax name.Export = refl
subcommand_of_syntax name.Migrate = refl
subcommand_of_syntax name.Serve = refl

-- the subcommand of the line that is found
abbrev subcommand_in : Option (Syntax Subcommand) → Option Subcommand
subcommand_in o = option_map (λ (l : Syntax Subcommand). l.0) o

-- the subcommand whose name an argument is has this argument as its name
is_or : (argument : Text) (subcommand r : Subcommand) (rest : Option (Syntax Subcommand)) (b : Bool) → bytes_eq (name_of r) argument ≡ b
    → subcommand_in (if b then Some (syntax_of r) else rest) ≡ Some subcommand → (subcommand_in rest ≡ Some subcommand → argument ≡ name_of subcommand) → argument ≡ name_of subcommand
is_or argument subcommand r rest true e is more =
    sym ((bytes_eq-Decides (name_of r) argument).0 e) ∙ ap name_of (sym (subcommand_of_syntax r) ∙ some_is is)
is_or argument subcommand r rest false e is more = more is

found_name : (argument : Text) (subcommand : Subcommand) (among : List Subcommand)
    → subcommand_in (find (λ (l : Syntax Subcommand). bytes_eq l.1 argument) (map syntax_of among)) ≡ Some subcommand → argument ≡ name_of subcommand
found_name argument subcommand [] e = cc
found_name argument subcommand (r ∷ more) e = is_or argument subcommand r _ (bytes_eq (name_of r) argument) refl e (found_name argument subcommand more)

pub name_is : (argument : Text) (subcommand : Subcommand) → subcommand_named bureau argument ≡ Some subcommand → argument ≡ name_of subcommand
name_is argument subcommand e = found_name argument subcommand subcommands e

-- an argument that is the name of no subcommand is not the name of one
pub other_name : (argument : Text) (subcommand : Subcommand) → subcommand_named bureau argument ≡ None → bytes_eq (name_of subcommand) argument ≡ false
other_name argument subcommand e = go (bytes_eq (name_of subcommand) argument) refl
  where
    go : (b : Bool) → bytes_eq (name_of subcommand) argument ≡ b → b ≡ false
    go false is = refl
    go true is =
        let same : name_of subcommand ≡ argument = (bytes_eq-Decides (name_of subcommand) argument).0 is in
        let k : subcommand_named bureau argument ≡ Some subcommand = ap (subcommand_named bureau) (sym same) ∙ named_name subcommand in cc
