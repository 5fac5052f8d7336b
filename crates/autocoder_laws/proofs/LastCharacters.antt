-- for `instructions_are_decoded`: the last characters that operands may give, by their glyphs
use Rattle.std.proofs.Common.{◌≡◌, ℕ, ◌==◌, true, subst, List, [], ◌∷◌, Some, refl}
use Rattle.std.specs.Prelude.{⊤, codes}
use Rattle.std.specs.List.{list_any}
use Rattle.std.proofs.lemmas.Bool.{eqb-true}
use Rattle.bcd.specs.Table.{glyph_of}
use Rattle.bcd.specs.declared.Zone.TheVariants.{Bare, A, B, AB}
use Rattle.units.specs.Carriages.{order_of}
use Rattle.units.specs.Pockets.{pocket_of}
use Rattle.units.specs.declared.carriage.CarriageOrder.{CarriageOrder}
use Rattle.units.specs.declared.carriage.CarriageOrder.TheVariants.{Now, AfterLine}
use Rattle.units.specs.declared.carriage.Motion.TheVariants.{Space, DoubleSpace, TripleSpace, SkipToChannel1}
use Rattle.units.specs.declared.pockets.Pocket.{Pocket}
use Rattle.units.specs.declared.pockets.Pocket.TheVariants.{Normal, Four, Eight}
use Rattle.machine.specs.Branches.{switch, condition_of, test_of}
use Rattle.machine.specs.Operations.{names_condition, names_test, names_order, names_pocket}
use Rattle.machine.specs.declared.branches.Condition.TheVariants.{SwitchOn}
use Rattle.machine.specs.declared.branches.PositionTest.{PositionTest}
use Rattle.machine.specs.declared.branches.PositionTest.TheVariants.{HasMark, HasZone, HasZoneOrMark}
use Rattle.machine.specs.declared.named.Modifier.TheVariants.{OnCondition, OnTest, ByOrder, ToPocket}
use Rattle.machine.specs.declared.named.Operation.TheVariants as operation
use Rattle.autocoder_statements.specs.Operands.{is_modifier}
use Rattle.autocoder_statements.specs.declared.modifiers.Modifiers.TheVariants.{Switches, ZonesAndMarks, Carriage, Pockets}
use Rattle.autocoder_laws.specs.Meanings.{Meaning, switch_named, switch_asked, test_asked, order_asked, pocket_asked}
use Rattle.autocoder_laws.proofs.SuitLemmas.{Agrees}
use Rattle.autocoder_statements.proofs.Tests.{either}

-- ---- a fact of each of some glyphs

abbrev EachOf : (ℕ → Type 0) → List ℕ → Type 0
EachOf P [] = ⊤
EachOf P (glyph ∷ glyphs) = P glyph × EachOf P glyphs

among : (P : ℕ → Type 0) (glyphs : List ℕ) → EachOf P glyphs → (glyph : ℕ) → list_any (λ other. other == glyph) glyphs ≡ true → P glyph
among P [] all glyph h = absurd (cc)
among P (other ∷ glyphs) all glyph h =
    either (other == glyph) (list_any (λ x. x == glyph) glyphs) h
    (λ here. subst P (eqb-true other glyph here) all.0)
    (λ later. among P glyphs all.1 glyph later)

-- a fact of the first glyph, and of the others
infixr 5 ◌▸◌
abbrev ◌▸◌ : {A B : Type 0} → A → B → A × B
first ▸ others = (first, others)

-- ---- the letters of switches

abbrev asks_switch : Meaning
asks_switch = record { operation = operation.Branch; says = switch_asked }

AtSwitch : ℕ → ℕ → Type 0
AtSwitch code glyph = glyph_of code ≡ glyph → Agrees asks_switch names_condition code

at_switch : (code bit : ℕ) → condition_of code ≡ Some (SwitchOn (switch bit)) → switch_named code ≡ Some (switch bit) → Agrees asks_switch names_condition code
at_switch code bit read named = record { modifier = OnCondition (SwitchOn (switch bit)); read = rw read refl; meant = rw named refl }

pub switches : (code : ℕ) → is_modifier Switches code ≡ true → Agrees asks_switch names_condition code
unfolding is_modifier condition_of AtSwitch
switches code h =
    among (AtSwitch code) (codes "BCDEFG")
    ((λ e. at_switch code 2 (rw e refl) (rw e refl))
    ▸ (λ e. at_switch code 4 (rw e refl) (rw e refl))
    ▸ (λ e. at_switch code 8 (rw e refl) (rw e refl))
    ▸ (λ e. at_switch code 16 (rw e refl) (rw e refl))
    ▸ (λ e. at_switch code 32 (rw e refl) (rw e refl))
    ▸ (λ e. at_switch code 64 (rw e refl) (rw e refl))
    ▸ tt)
    (glyph_of code) h refl

-- ---- the tests of a position

abbrev asks_test : Meaning
asks_test = record { operation = operation.BranchOnMarkOrZone; says = test_asked }

AtTest : ℕ → ℕ → Type 0
AtTest code glyph = glyph_of code ≡ glyph → Agrees asks_test names_test code

at_test : (code : ℕ) (test : PositionTest) → test_of code ≡ Some test → Agrees asks_test names_test code
at_test code test named = record { modifier = OnTest test; read = rw named refl; meant = rw named refl }

pub tests : (code : ℕ) → is_modifier ZonesAndMarks code ≡ true → Agrees asks_test names_test code
unfolding is_modifier test_of AtTest
tests code h =
    among (AtTest code) (codes "12BKS3CLT")
    ((λ e. at_test code HasMark (rw e refl))
    ▸ (λ e. at_test code (HasZone Bare) (rw e refl))
    ▸ (λ e. at_test code (HasZone AB) (rw e refl))
    ▸ (λ e. at_test code (HasZone B) (rw e refl))
    ▸ (λ e. at_test code (HasZone A) (rw e refl))
    ▸ (λ e. at_test code (HasZoneOrMark Bare) (rw e refl))
    ▸ (λ e. at_test code (HasZoneOrMark AB) (rw e refl))
    ▸ (λ e. at_test code (HasZoneOrMark B) (rw e refl))
    ▸ (λ e. at_test code (HasZoneOrMark A) (rw e refl))
    ▸ tt)
    (glyph_of code) h refl

-- ---- the orders to the carriage

abbrev asks_order : Meaning
asks_order = record { operation = operation.MoveCarriage; says = order_asked }

AtOrder : ℕ → ℕ → Type 0
AtOrder code glyph = glyph_of code ≡ glyph → Agrees asks_order names_order code

at_order : (code : ℕ) (order : CarriageOrder) → order_of code ≡ Some order → Agrees asks_order names_order code
at_order code order named = record { modifier = ByOrder order; read = rw named refl; meant = rw named refl }

pub orders : (code : ℕ) → is_modifier Carriage code ≡ true → Agrees asks_order names_order code
unfolding is_modifier order_of AtOrder
orders code h =
    among (AtOrder code) (codes "JKL/ST1A")
    ((λ e. at_order code (Now Space) (rw e refl))
    ▸ (λ e. at_order code (Now DoubleSpace) (rw e refl))
    ▸ (λ e. at_order code (Now TripleSpace) (rw e refl))
    ▸ (λ e. at_order code (AfterLine Space) (rw e refl))
    ▸ (λ e. at_order code (AfterLine DoubleSpace) (rw e refl))
    ▸ (λ e. at_order code (AfterLine TripleSpace) (rw e refl))
    ▸ (λ e. at_order code (Now SkipToChannel1) (rw e refl))
    ▸ (λ e. at_order code (AfterLine SkipToChannel1) (rw e refl))
    ▸ tt)
    (glyph_of code) h refl

-- ---- the pockets of the punch

abbrev asks_pocket : Meaning
asks_pocket = record { operation = operation.ChoosePocket; says = pocket_asked }

AtPocket : ℕ → ℕ → Type 0
AtPocket code glyph = glyph_of code ≡ glyph → Agrees asks_pocket names_pocket code

at_pocket : (code : ℕ) (pocket : Pocket) → pocket_of code ≡ Some pocket → Agrees asks_pocket names_pocket code
at_pocket code pocket named = record { modifier = ToPocket pocket; read = rw named refl; meant = rw named refl }

pub pockets : (code : ℕ) → is_modifier Pockets code ≡ true → Agrees asks_pocket names_pocket code
unfolding is_modifier pocket_of AtPocket
pockets code h =
    among (AtPocket code) (codes "1248")
    ((λ e. at_pocket code Normal (rw e refl))
    ▸ (λ e. at_pocket code Normal (rw e refl))
    ▸ (λ e. at_pocket code Four (rw e refl))
    ▸ (λ e. at_pocket code Eight (rw e refl))
    ▸ tt)
    (glyph_of code) h refl
