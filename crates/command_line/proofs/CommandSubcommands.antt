-- What clap makes of the program's arguments: it takes no arguments, and those of the subcommands.
use Rattle.std.proofs.Common.{◌≡◌, ◌≢◌, ◌∙◌, ◌++◌, List, [], ◌∷◌, false, refl, Some, ap, ap₂, sym, append_assoc}
use Rattle.std.specs.Prelude.{fold, is_some}
use Rattle.std.specs.Str.{bytes_eq}
use Rattle.clap.specs.Walk.{finished, idle, settled, Names, Rule, Text, Walk, nothing_held, walk, walk_from, walked}
use Rattle.clap.specs.Simple.{App, Shape, built, entered, names_of, subcommand_of}
use Rattle.clap.specs.Faults.{check_fault, defaults_fault, entered_fault, fault_of, settle_fault, stray_fault, turn_fault, walk_fault}
use Rattle.clap.specs.Kinds.{Kinds, or_else}
use Rattle.clap.proofs.OnLiterals.{clap_on_literals}
use Rattle.command_line.specs.Programs.{command}
use Rattle.command_line.proofs.CommandValues.{at, or_else_none, IsValue}
use Rattle.command_line.specs.Subcommands.{bureau, name_of, values_of}
use Rattle.command_line.specs.declared.subcommands.Subcommand.{Subcommand}
use Rattle.command_line.specs.declared.subcommands.Subcommand.TheVariants as name
use Rattle.command_line.proofs.CommandLeaves.{leaf, leaf_fault, leaf_rows}

-- ---- after a subcommand's name clap's own command only collects the arguments

abbrev collecting : Text → List Text → Walk
collecting name arguments = record { held = nothing_held; waiting = idle; position = 1; is_trailing = false; stopped = Some (name, arguments) }

append-nil : (arguments : List Text) → arguments ≡ arguments ++ []
append-nil [] = refl
append-nil (w ∷ ws) = ap (λ (l : List Text). w ∷ l) (append-nil ws)

collected : (c : List Rule) (names : Names) (name : Text) (before arguments : List Text)
    → fold (walked c names) (collecting name before) arguments ≡ collecting name (before ++ arguments)
unfolding walked
collected c names name before [] = ap (collecting name) (append-nil before)
collected c names name before (w ∷ ws) =
    collected c names name (before ++ w ∷ []) ws ∙ ap (collecting name) (append_assoc before (w ∷ []) ws)

no_fault : (s : Shape) (names : Names) (name : Text) (before arguments : List Text) → walk_fault s names (collecting name before) arguments ≡ []
unfolding walk_fault walked
no_fault s names name before [] = refl
no_fault s names name before (w ∷ ws) = no_fault s names name (before ++ w ∷ []) ws

-- ---- a subcommand, entered by its name

abbrev top : App
top = built (command bureau)

-- the faults after the walk of clap's own command
abbrev behind : Walk → Kinds
behind w = or_else (entered_fault top w.stopped)
    (or_else (settle_fault top.top.rules top.top.args_override_self w.held)
    (or_else (defaults_fault (settled top.top.rules w.held).rows top.top.rules)
    (check_fault top.top (finished top.top.rules w.held) (is_some (entered top w.stopped)))))

or_else_nil : (k : Kinds) → or_else k [] ≡ k
or_else_nil [] = refl
or_else_nil (x ∷ xs) = refl

-- the name stops clap's own walk without a fault, and what comes after it goes to the subcommand
pub record IsEntered (name : Text) (subcommand : Shape) : Type 0 where
  pub stops : walked top.top.rules (names_of top) (walk_from nothing_held) name ≡ collecting name []
  pub clean : turn_fault top.top (names_of top) (walk_from nothing_held) name ≡ []
  pub faults : (arguments : List Text) → behind (collecting name arguments) ≡ or_else (leaf_fault subcommand arguments) []
  pub found : (arguments : List Text) → entered top (Some (name, arguments)) ≡ Some (name, leaf_rows subcommand arguments)

-- the subcommand of this name, below the program's command
abbrev pub subcommand_shape : Subcommand → Shape
subcommand_shape subcommand = leaf (name_of subcommand) (values_of subcommand)

pub subcommand_entered : (subcommand : Subcommand) → IsEntered (name_of subcommand) (subcommand_shape subcommand)
unfolding command clap_on_literals
subcommand_entered name.Run = record { stops = refl; clean = refl; faults = λ arguments. refl; found = λ arguments. refl }
subcommand_entered name.Assemble = record { stops = refl; clean = refl; faults = λ arguments. refl; found = λ arguments. refl }
subcommand_entered name.Init = record { stops = refl; clean = refl; faults = λ arguments. refl; found = λ arguments. refl }
subcommand_entered name.Apply = record { stops = refl; clean = refl; faults = λ arguments. refl; found = λ arguments. refl }
subcommand_entered name.Export = record { stops = refl; clean = refl; faults = λ arguments. refl; found = λ arguments. refl }
subcommand_entered name.Migrate = record { stops = refl; clean = refl; faults = λ arguments. refl; found = λ arguments. refl }
subcommand_entered name.Serve = record { stops = refl; clean = refl; faults = λ arguments. refl; found = λ arguments. refl }

subcommand_walk : (name : Text) (subcommand : Shape) (arguments : List Text) → IsEntered name subcommand
    → walk top.top.rules (names_of top) nothing_held (name ∷ arguments) ≡ collecting name arguments
subcommand_walk name subcommand arguments is = ap (λ (w : Walk). fold (walked top.top.rules (names_of top)) w arguments) is.stops
    ∙ collected top.top.rules (names_of top) name [] arguments

subcommand_walk_fault : (name : Text) (subcommand : Shape) (arguments : List Text) → IsEntered name subcommand
    → walk_fault top.top (names_of top) (walk_from nothing_held) (name ∷ arguments) ≡ []
unfolding walk_fault
subcommand_walk_fault name subcommand arguments is = ap₂ or_else is.clean (ap (λ (w : Walk). walk_fault top.top (names_of top) w arguments) is.stops)
    ∙ no_fault top.top (names_of top) name [] arguments

pub subcommand_fault : (name : Text) (subcommand : Shape) (arguments : List Text) → IsEntered name subcommand → fault_of (command bureau) (name ∷ arguments) ≡ leaf_fault subcommand arguments
unfolding command walk_fault
subcommand_fault name subcommand arguments is =
    ap₂ or_else (subcommand_walk_fault name subcommand arguments is) (ap behind (subcommand_walk name subcommand arguments is)) ∙ is.faults arguments ∙ or_else_nil _

pub subcommand_found : (name : Text) (subcommand : Shape) (arguments : List Text) → IsEntered name subcommand
    → subcommand_of (command bureau) (name ∷ arguments) ≡ Some (name, leaf_rows subcommand arguments)
unfolding command
subcommand_found name subcommand arguments is = ap (λ (w : Walk). entered top w.stopped) (subcommand_walk name subcommand arguments is) ∙ is.found arguments

-- ---- any other first argument

-- the argument is the name of no subcommand
abbrev pub IsNoName : Text → Type 0
IsNoName w = (subcommand : Subcommand) → bytes_eq (name_of subcommand) w ≡ false

stray : (w : Text) → IsValue w → IsNoName w
    → turn_fault top.top (names_of top) (at false false 1 nothing_held) w ≡ stray_fault top.top
unfolding command
stray w v none = rw (none name.Run) (rw (none name.Assemble) (rw (none name.Init) (rw (none name.Apply)
    (rw (none name.Export) (rw (none name.Migrate) (rw (none name.Serve) (rw v.dashes (rw v.long (rw v.short refl)))))))))

pub no_subcommand : (w : Text) (rest : List Text) → IsValue w → IsNoName w → fault_of (command bureau) (w ∷ rest) ≢ []
unfolding command walk_fault
no_subcommand w rest v none e =
    let k = sym (or_else_none _ _ (or_else_none _ _ e)) ∙ stray w v none in cc
