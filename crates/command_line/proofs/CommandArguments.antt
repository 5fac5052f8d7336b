-- Of clear arguments clap takes those of the subcommands and no others, and finds their values.
use Rattle.std.proofs.Common.{◌≡◌, ◌∙◌, ◌&&◌, arith, Bool, List, [], ◌∷◌, true, false, codes, length, refl, Some, None, ap, ap₂, sym, subst, inl, inr}
use Rattle.std.specs.Prelude.{Option, is_some}
use Rattle.std.specs.Str.{bytes_eq}
use Rattle.std.proofs.lemmas.Slice.Eq.{bytes_eq-Decides}
use Rattle.clap.specs.Walk.{Row, Text}
use Rattle.clap.specs.Simple.{subcommand_of}
use Rattle.clap.specs.Faults.{fault_of}
use Rattle.clap.proofs.OnLiterals.{clap_on_literals}
use Rattle.command_line.specs.Asked.{AreTaken, HasValues, values_found}
use Rattle.command_line.specs.Programs.{HasSubcommand, command, has_dashes, is_clear, subcommand_named}
use Rattle.command_line.specs.Subcommands.{bureau, name_of, values_of}
use Rattle.command_line.specs.declared.subcommands.Subcommand.{Subcommand}
use Rattle.command_line.specs.declared.subcommands.Subcommand.TheVariants as name
use Rattle.command_line.specs.Plain.{ArePlain}
use Rattle.command_line.proofs.AskedWays.{clear_ways, values_clear}
use Rattle.command_line.proofs.CommandValues.{plain_head, plain_tail}
use Rattle.command_line.proofs.CommandLeaves.{dashes_fault, dashes_rows, fault_after, plain_fault, plain_rows, rows_after}
use Rattle.command_line.proofs.SubcommandLemmas.{name_is, named_name, other_name, some_is}
use Rattle.command_line.proofs.CommandSubcommands.{no_subcommand, subcommand_entered, subcommand_fault, subcommand_found, subcommand_shape}

-- ---- the values of a subcommand

subcommand_taken : (r : Subcommand) (values : List Text) → fault_after (subcommand_shape r) values ≡ []
    → values_found (rows_after (subcommand_shape r) values) r ≡ values
unfolding command clap_on_literals
subcommand_taken name.Run [] e = cc
subcommand_taken name.Run (a ∷ []) e = cc
subcommand_taken name.Run (a ∷ b ∷ []) e = cc
subcommand_taken name.Run (a ∷ b ∷ c ∷ []) e = refl
subcommand_taken name.Run (a ∷ b ∷ c ∷ d ∷ more) e = cc
subcommand_taken name.Assemble [] e = cc
subcommand_taken name.Assemble (a ∷ []) e = cc
subcommand_taken name.Assemble (a ∷ b ∷ []) e = refl
subcommand_taken name.Assemble (a ∷ b ∷ c ∷ more) e = cc
subcommand_taken name.Init [] e = cc
subcommand_taken name.Init (a ∷ []) e = refl
subcommand_taken name.Init (a ∷ b ∷ more) e = cc
subcommand_taken name.Apply [] e = cc
subcommand_taken name.Apply (a ∷ []) e = cc
subcommand_taken name.Apply (a ∷ b ∷ []) e = refl
subcommand_taken name.Apply (a ∷ b ∷ c ∷ more) e = cc
subcommand_taken name.Export [] e = cc
subcommand_taken name.Export (a ∷ []) e = cc
subcommand_taken name.Export (a ∷ b ∷ []) e = cc
subcommand_taken name.Export (a ∷ b ∷ c ∷ []) e = refl
subcommand_taken name.Export (a ∷ b ∷ c ∷ d ∷ more) e = cc
subcommand_taken name.Migrate [] e = cc
subcommand_taken name.Migrate (a ∷ []) e = refl
subcommand_taken name.Migrate (a ∷ b ∷ more) e = cc
subcommand_taken name.Serve [] e = cc
subcommand_taken name.Serve (a ∷ []) e = cc
subcommand_taken name.Serve (a ∷ b ∷ []) e = cc
subcommand_taken name.Serve (a ∷ b ∷ c ∷ []) e = refl
subcommand_taken name.Serve (a ∷ b ∷ c ∷ d ∷ more) e = cc

one_of : (values : List Text) → length values ≡ 1 → (a : Text) × (values ≡ a ∷ [])
one_of [] e = absurd (omega (arith, e))
one_of (a ∷ []) e = (a, refl)
one_of (a ∷ b ∷ more) e = absurd (omega (arith, e))

two_of : (values : List Text) → length values ≡ 2 → (a : Text) × (b : Text) × (values ≡ a ∷ b ∷ [])
two_of [] e = absurd (omega (arith, e))
two_of (a ∷ []) e = absurd (omega (arith, e))
two_of (a ∷ b ∷ []) e = (a, b, refl)
two_of (a ∷ b ∷ c ∷ more) e = absurd (omega (arith, e))

three_of : (values : List Text) → length values ≡ 3 → (a : Text) × (b : Text) × (c : Text) × (values ≡ a ∷ b ∷ c ∷ [])
three_of [] e = absurd (omega (arith, e))
three_of (a ∷ []) e = absurd (omega (arith, e))
three_of (a ∷ b ∷ []) e = absurd (omega (arith, e))
three_of (a ∷ b ∷ c ∷ []) e = (a, b, c, refl)
three_of (a ∷ b ∷ c ∷ d ∷ more) e = absurd (omega (arith, e))

subcommand_counted : (r : Subcommand) (values : List Text) → length values ≡ length (values_of r)
    → fault_after (subcommand_shape r) values ≡ []
unfolding command clap_on_literals
subcommand_counted name.Run values e = let is = three_of values e in subst (λ v. fault_after (subcommand_shape name.Run) v ≡ []) (sym is.3) refl
subcommand_counted name.Assemble values e = let is = two_of values e in subst (λ v. fault_after (subcommand_shape name.Assemble) v ≡ []) (sym is.2) refl
subcommand_counted name.Init values e = let is = one_of values e in subst (λ v. fault_after (subcommand_shape name.Init) v ≡ []) (sym is.1) refl
subcommand_counted name.Apply values e = let is = two_of values e in subst (λ v. fault_after (subcommand_shape name.Apply) v ≡ []) (sym is.2) refl
subcommand_counted name.Export values e = let is = three_of values e in subst (λ v. fault_after (subcommand_shape name.Export) v ≡ []) (sym is.3) refl
subcommand_counted name.Migrate values e = let is = one_of values e in subst (λ v. fault_after (subcommand_shape name.Migrate) v ≡ []) (sym is.1) refl
subcommand_counted name.Serve values e = let is = three_of values e in subst (λ v. fault_after (subcommand_shape name.Serve) v ≡ []) (sym is.3) refl

-- ---- what clap makes of arguments that have a subcommand's values

after_name : (r : Subcommand) (values arguments : List Text) → arguments ≡ name_of r ∷ values → ArePlain arguments → ArePlain values
after_name r values arguments e plain = plain_tail (name_of r) values (subst ArePlain e plain)

has_fault : (r : Subcommand) (values arguments : List Text) → HasValues r values arguments
    → fault_of (command bureau) arguments ≡ fault_after (subcommand_shape r) values
has_fault r values arguments (inl is) = ap (fault_of (command bureau)) is.0
    ∙ (subcommand_fault (name_of r) (subcommand_shape r) values (subcommand_entered r)
    ∙ plain_fault (subcommand_shape r) values (after_name r values arguments is.0 is.1))
has_fault r values arguments (inr is) = ap (fault_of (command bureau)) is
    ∙ (subcommand_fault (name_of r) (subcommand_shape r) (codes "--" ∷ values) (subcommand_entered r) ∙ dashes_fault (subcommand_shape r) values)

has_found : (r : Subcommand) (values arguments : List Text) → HasValues r values arguments
    → subcommand_of (command bureau) arguments ≡ Some (name_of r, rows_after (subcommand_shape r) values)
has_found r values arguments (inl is) = ap (subcommand_of (command bureau)) is.0
    ∙ (subcommand_found (name_of r) (subcommand_shape r) values (subcommand_entered r)
    ∙ ap (λ (found : List Row). Some (name_of r, found)) (plain_rows (subcommand_shape r) values (after_name r values arguments is.0 is.1)))
has_found r values arguments (inr is) = ap (subcommand_of (command bureau)) is
    ∙ (subcommand_found (name_of r) (subcommand_shape r) (codes "--" ∷ values) (subcommand_entered r)
    ∙ ap (λ (found : List Row). Some (name_of r, found)) (dashes_rows (subcommand_shape r) values))

-- ---- the subcommand that clap finds in clear arguments is the subcommand that they spell

-- the arguments have the values of a subcommand
record AreSpelt (arguments : List Text) : Type 0 where
  subcommand : Subcommand
  values : List Text
  has : HasValues subcommand values arguments

plain_arguments : (w : Text) (ws : List Text) → ArePlain (w ∷ ws) → fault_of (command bureau) (w ∷ ws) ≡ [] → AreSpelt (w ∷ ws)
plain_arguments w ws plain e = go (subcommand_named bureau w) refl
  where
    go : (o : Option Subcommand) → subcommand_named bureau w ≡ o → AreSpelt (w ∷ ws)
    go None is = absurd (no_subcommand w ws (plain_head w ws plain) (λ r. other_name w r is) e)
    go (Some r) is = record { subcommand = r; values = ws; has = inl (ap (λ (x : Text). x ∷ ws) (name_is w r is), plain) }

dashes_arguments : (arguments : List Text) → has_dashes bureau arguments ≡ true → AreSpelt arguments
dashes_arguments [] e = cc
dashes_arguments (w ∷ []) e = cc
dashes_arguments (w ∷ d ∷ ws) e = go (subcommand_named bureau w) refl (bytes_eq d (codes "--")) refl e
  where
    go : (o : Option Subcommand) → subcommand_named bureau w ≡ o → (b : Bool) → bytes_eq d (codes "--") ≡ b → (is_some o && b) ≡ true → AreSpelt (w ∷ d ∷ ws)
    go None is b same e = cc
    go (Some r) is false same e = cc
    go (Some r) is true same e = record {
      subcommand = r;
      values = ws;
      has = inr (ap (λ (x : Text). x ∷ d ∷ ws) (name_is w r is) ∙ ap (λ (x : Text). name_of r ∷ x ∷ ws) ((bytes_eq-Decides d (codes "--")).0 same));
    }

no_arguments : subcommand_of (command bureau) [] ≡ None
unfolding command clap_on_literals
no_arguments = refl

none_is_none : {X : Type 0} {x : X} → None ≡ Some x → ⊥
none_is_none e = cc

-- no arguments are those of no subcommand
none_found : (subcommand : Subcommand) (found : List Row) → HasSubcommand bureau [] subcommand found → ⊥
none_found subcommand found is = none_is_none (sym no_arguments ∙ is.is_subcommand)

spelt_by : (arguments : List Text) (subcommand : Subcommand) (found : List Row) → AreSpelt arguments → HasSubcommand bureau arguments subcommand found
    → HasValues subcommand (values_found found subcommand) arguments
spelt_by arguments subcommand found of is =
    let subcommands = rows_after (subcommand_shape of.subcommand) of.values in
    let k : (name_of of.subcommand, subcommands) ≡ (is.name, found) = some_is (sym (has_found of.subcommand of.values arguments of.has) ∙ is.is_subcommand) in
    let named : name_of of.subcommand ≡ is.name = ap (λ (p : Text × List Row). p.0) k in
    let same : of.subcommand ≡ subcommand = some_is (sym (named_name of.subcommand) ∙ (ap (subcommand_named bureau) named ∙ is.named)) in
    let taken : values_found subcommands of.subcommand ≡ of.values = subcommand_taken of.subcommand of.values (sym (has_fault of.subcommand of.values arguments of.has) ∙ is.taken) in
    let values : of.values ≡ values_found found subcommand = sym taken ∙ ap₂ values_found (ap (λ (p : Text × List Row). p.1) k) same in
    subst (λ v. HasValues subcommand v arguments) values (subst (λ r. HasValues r of.values arguments) same of.has)

pub subcommand_asked : (arguments : List Text) (subcommand : Subcommand) (found : List Row) → is_clear bureau arguments ≡ true → HasSubcommand bureau arguments subcommand found
    → HasValues subcommand (values_found found subcommand) arguments
subcommand_asked [] subcommand found clear is = absurd (none_found subcommand found is)
subcommand_asked (w ∷ ws) subcommand found clear is = elim (clear_ways (w ∷ ws) clear) [
  | inl plain ↦ spelt_by (w ∷ ws) subcommand found (plain_arguments w ws plain is.taken) is
  | inr dashes ↦ spelt_by (w ∷ ws) subcommand found (dashes_arguments (w ∷ ws) dashes) is
]

-- ---- arguments that spell a subcommand are without fault, and clap finds the subcommand

pub taken : (arguments values : List Text) (subcommand : Subcommand) → length values ≡ length (values_of subcommand) → HasValues subcommand values arguments
    → AreTaken arguments subcommand values
taken arguments values subcommand e has =
    let clean = subcommand_counted subcommand values e in
    record {
      found = rows_after (subcommand_shape subcommand) values;
      clear = values_clear subcommand values arguments has;
      has = record {
        name = name_of subcommand;
        taken = has_fault subcommand values arguments has ∙ clean;
        is_subcommand = has_found subcommand values arguments has;
        named = named_name subcommand;
      };
      are = subcommand_taken subcommand values clean;
    }
