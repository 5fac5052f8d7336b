-- The ways in which arguments ask for something.
use Rattle.std.proofs.Common.{◌≡◌, ◌∙◌, ◌⊎◌, ◌||◌, Bool, List, [], ◌∷◌, true, false, codes, not, refl, Some, None, ap, sym, subst, inl, inr}
use Rattle.std.specs.Prelude.{◌↔◌, Option, find, is_some}
use Rattle.std.proofs.lemmas.List.Elements.{All-cons, All-head, All-nil, All-tail}
use Rattle.clap.specs.Words.{Text}
use Rattle.command_line.specs.Asked.{HasValues, IsHelp}
use Rattle.command_line.specs.Programs.{AsksForHelp, has_dashes, has_help, is_clear}
use Rattle.command_line.specs.Subcommands.{bureau, name_of}
use Rattle.command_line.specs.Plain.{ArePlain, is_odd, is_plain}
use Rattle.command_line.specs.declared.subcommands.Subcommand.{Subcommand}
use Rattle.command_line.proofs.SubcommandLemmas.{name_is, named_name, one_name}

-- ---- arguments that ask for help

alone : {a b : Text} → a ≡ b → a ∷ [] ≡ b ∷ []
alone e = ap (λ (x : Text). x ∷ []) e

-- by the table arguments ask for just the help that they say
pub help_is : (arguments : List Text) (page : Option Subcommand) → AsksForHelp bureau arguments page → IsHelp page arguments
help_is [] None asks = absurd asks
help_is [] (Some subcommand) asks = absurd asks
help_is (argument ∷ []) None (inl is) = inl (alone is)
help_is (argument ∷ []) None (inr is) = inr (alone is)
help_is (argument ∷ []) (Some subcommand) asks = absurd asks
help_is (first ∷ argument ∷ more) None asks = absurd asks
help_is (first ∷ argument ∷ more) (Some subcommand) (has, named) =
    (argument ∷ more, ap (λ (w : Text). w ∷ argument ∷ more) (name_is first subcommand named), has)

none_asks : has_help [] ≡ true → ⊥
unfolding has_help
none_asks e = cc

-- a subcommand's name and arguments that ask for help ask for the help of the subcommand
named_asks : (subcommand : Subcommand) (more : List Text) → has_help more ≡ true → AsksForHelp bureau (name_of subcommand ∷ more) (Some subcommand)
named_asks subcommand [] has = absurd (none_asks has)
named_asks subcommand (argument ∷ more) has = (has, named_name subcommand)

pub is_help : (arguments : List Text) (page : Option Subcommand) → IsHelp page arguments → AsksForHelp bureau arguments page
is_help arguments None (inl is) = subst (λ ws. AsksForHelp bureau ws None) (sym is) (inl refl)
is_help arguments None (inr is) = subst (λ ws. AsksForHelp bureau ws None) (sym is) (inr refl)
is_help arguments (Some subcommand) is =
    subst (λ ws. AsksForHelp bureau ws (Some subcommand)) (sym is.1) (named_asks subcommand is.0 is.2)

pub same_help : (arguments : List Text) (page : Option Subcommand) → AsksForHelp bureau arguments page ↔ IsHelp page arguments
same_help arguments page = (help_is arguments page, is_help arguments page)

-- ---- clear arguments

none_odd : (arguments : List Text) → ArePlain arguments → find is_odd arguments ≡ None
none_odd [] all = refl
none_odd (w ∷ ws) all =
    let head = All-head (λ x. is_plain x ≡ true) w ws all in
    let rest = none_odd ws (All-tail (λ x. is_plain x ≡ true) w ws all) in rw head rest

plain_head : (w : Text) (ws : List Text) (b : Bool) → is_plain w ≡ b → find is_odd (w ∷ ws) ≡ None → is_plain w ≡ true
plain_head w ws true is e = is
plain_head w ws false is e = let some : Some w ≡ None = rw is at e in cc

all_plain : (arguments : List Text) → find is_odd arguments ≡ None → ArePlain arguments
all_plain [] e = All-nil (λ x. is_plain x ≡ true)
all_plain (w ∷ ws) e =
    let head = plain_head w ws (is_plain w) refl e in
    All-cons (λ x. is_plain x ≡ true) w ws head (all_plain ws (rw head at e))

-- clear arguments are plain, or begin with a subcommand's name and `--`
pub clear_ways : (arguments : List Text) → is_clear bureau arguments ≡ true → ArePlain arguments ⊎ (has_dashes bureau arguments ≡ true)
clear_ways arguments clear = go (has_dashes bureau arguments) refl (find is_odd arguments) refl clear
  where
    go : (b : Bool) → has_dashes bureau arguments ≡ b → (o : Option Text) → find is_odd arguments ≡ o → (b || not (is_some o)) ≡ true
        → ArePlain arguments ⊎ (has_dashes bureau arguments ≡ true)
    go true is o odd e = inr is
    go false is None odd e = inl (all_plain arguments odd)
    go false is (Some w) odd e = cc

dashes_clear : (r : Subcommand) (values : List Text) → is_clear bureau (name_of r ∷ codes "--" ∷ values) ≡ true
dashes_clear r values = rw (named_name r) refl

plain_clear : (arguments : List Text) → ArePlain arguments → is_clear bureau arguments ≡ true
plain_clear arguments all = go (has_dashes bureau arguments)
  where
    go : (b : Bool) → (b || not (is_some (find is_odd arguments))) ≡ true
    go true = refl
    go false = rw (none_odd arguments all) refl

-- arguments with the values of a subcommand are clear
pub values_clear : (r : Subcommand) (values arguments : List Text) → HasValues r values arguments → is_clear bureau arguments ≡ true
values_clear r values arguments (inl has) = plain_clear arguments has.1
values_clear r values arguments (inr has) = ap (is_clear bureau) has ∙ dashes_clear r values

-- ---- arguments with `--` after a subcommand's name

names_of : {a b c : Text} {xs ys : List Text} → a ∷ c ∷ xs ≡ b ∷ c ∷ ys → a ≡ b
names_of e = cc

values_after : {a b c : Text} {xs ys : List Text} → a ∷ c ∷ xs ≡ b ∷ c ∷ ys → xs ≡ ys
values_after e = cc

dashes_odd : (w : Text) (ws : List Text) → ArePlain (w ∷ codes "--" ∷ ws) → ⊥
dashes_odd w ws all =
    let k : is_plain (codes "--") ≡ true = All-head (λ x. is_plain x ≡ true) (codes "--") ws (All-tail (λ x. is_plain x ≡ true) w (codes "--" ∷ ws) all) in cc

-- ---- arguments have the values of one subcommand

plain_or_dashes : (r s : Subcommand) (xs ys arguments : List Text) → (arguments ≡ name_of r ∷ xs) × ArePlain arguments
    → arguments ≡ name_of s ∷ codes "--" ∷ ys → ⊥
plain_or_dashes r s xs ys arguments is e = dashes_odd _ _ (subst ArePlain e is.1)

head_is : {a b : Text} {xs ys : List Text} → a ∷ xs ≡ b ∷ ys → a ≡ b
head_is e = cc

tail_is : {a b : Text} {xs ys : List Text} → a ∷ xs ≡ b ∷ ys → xs ≡ ys
tail_is e = cc

pub one_subcommand : (r s : Subcommand) (xs ys arguments : List Text) → HasValues r xs arguments → HasValues s ys arguments → (r ≡ s) × (xs ≡ ys)
one_subcommand r s xs ys arguments (inl is) (inl e) =
    let k : name_of r ∷ xs ≡ name_of s ∷ ys = sym is.0 ∙ e.0 in (one_name r s (head_is k), tail_is k)
one_subcommand r s xs ys arguments (inl is) (inr e) = absurd (plain_or_dashes r s xs ys arguments is e)
one_subcommand r s xs ys arguments (inr is) (inl e) = absurd (plain_or_dashes s r ys xs arguments e is)
one_subcommand r s xs ys arguments (inr is) (inr e) =
    let k : name_of r ∷ codes "--" ∷ xs ≡ name_of s ∷ codes "--" ∷ ys = sym is ∙ e in (one_name r s (names_of k), values_after k)
