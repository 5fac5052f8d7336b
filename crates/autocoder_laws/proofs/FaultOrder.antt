-- for `lowest_faults_are_told`: which of some faults is the lowest, and tests of them
use Rattle.std.proofs.Common.{◌≡◌, ℕ, ◌+◌, ◌≤◌, ◌==◌, Bool, true, false, List, Option, Some, None, if◌then◌else◌, refl, sym, ◌∙◌, ap, subst, arith, true≢false}
use Rattle.std.proofs.Math.Decide.{dec_lt}
use Rattle.std.proofs.lemmas.List.Folds.{Any-from_list_any, list_any-from_Any}
use Rattle.std.specs.Bool.{Decides}
use Rattle.std.specs.List.{Any, list_any}
use Rattle.autocoder_statements.specs.declared.faults.StatementFault.TheVariants as statement
use Rattle.autocoder_layout.specs.Faults.{fault_number}
use Rattle.autocoder_layout.specs.declared.faults.SourceFault.{SourceFault}
use Rattle.autocoder_layout.specs.declared.faults.SourceFault.TheVariants as source

-- ---- the order of the numbers

-- all faults that there are have at least this number
abbrev pub Above : ℕ → (SourceFault → Type 0) → Type 0
Above n Has = (fault : SourceFault) → Has fault → n ≤ fault_number fault

-- what is told is the lowest of the faults, where the highest is left out
abbrev pub IsLowestBut49 : (SourceFault → Type 0) → Option SourceFault → Type 0
IsLowestBut49 Has None = Above 49 Has
IsLowestBut49 Has (Some told) = Has told × Above (fault_number told) Has

fault_of_number : ℕ → SourceFault
fault_of_number n = if n == 40 then source.Statement statement.BrokenField
    else (if n == 41 then source.Statement statement.UnknownOperation
    else (if n == 42 then source.Statement statement.Operand
    else (if n == 43 then source.Statement statement.Label
    else (if n == 44 then source.TakenLabel
    else (if n == 45 then source.UnknownName
    else (if n == 46 then source.Outside
    else (if n == 47 then source.Reserved
    else (if n == 48 then source.Filled
    else (if n == 49 then source.NoEnd
    else source.NoMemory)))))))))

of_number : (fault : SourceFault) → fault_of_number (fault_number fault) ≡ fault
unfolding fault_of_number
of_number source.NoMemory = refl
of_number (source.Statement statement.BrokenField) = refl
of_number (source.Statement statement.UnknownOperation) = refl
of_number (source.Statement statement.Operand) = refl
of_number (source.Statement statement.Label) = refl
of_number source.TakenLabel = refl
of_number source.UnknownName = refl
of_number source.Outside = refl
of_number source.Reserved = refl
of_number source.Filled = refl
of_number source.NoEnd = refl

pub same_fault : (one other : SourceFault) → fault_number one ≡ fault_number other → one ≡ other
same_fault one other e = sym (of_number one) ∙ ap fault_of_number e ∙ of_number other

module _ (Has : SourceFault → Type 0) where
  pub above_40 : (Has source.NoMemory → ⊥) → Above 40 Has
  above_40 never source.NoMemory h = absurd (never h)
  above_40 never (source.Statement statement.BrokenField) h = omega arith
  above_40 never (source.Statement statement.UnknownOperation) h = omega arith
  above_40 never (source.Statement statement.Operand) h = omega arith
  above_40 never (source.Statement statement.Label) h = omega arith
  above_40 never source.TakenLabel h = omega arith
  above_40 never source.UnknownName h = omega arith
  above_40 never source.Outside h = omega arith
  above_40 never source.Reserved h = omega arith
  above_40 never source.Filled h = omega arith
  above_40 never source.NoEnd h = omega arith

  -- a fault that is not there takes the rest one higher
  pub without : (fault : SourceFault) → Above (fault_number fault) Has → (Has fault → ⊥) → Above (fault_number fault + 1) Has
  without fault above never other h =
      let least : fault_number fault ≤ fault_number other = above other h in
      elim (dec_lt (fault_number fault) (fault_number other)) [
        | yes more ↦ omega arith
        | no same ↦
            let equal : fault_number other ≡ fault_number fault = omega arith in
            absurd (never (subst Has (same_fault other fault equal) h))
      ]

-- ---- tests

-- a test decides the same as the fact that is told of it
pub decides_false : {P : Type 0} (test : Bool) → test ≡ false → (P → ⊥) → Decides test P
decides_false test e never = (λ t. absurd (true≢false (sym t ∙ e)), λ p. absurd (never p))

pub decided_not : {P : Type 0} (test : Bool) → Decides test P → test ≡ false → P → ⊥
decided_not test d e p = true≢false (sym (d.1 p) ∙ e)

any_like : {X : Type 0} (P Q : X → Type 0) (xs : List X) → ((x : X) → P x → Q x) → Any P xs → Any Q xs
any_like P Q xs f (k, x, low, at, p) = (k, x, low, at, f x p)

pub decides_any : {X : Type 0} (test : X → Bool) (P : X → Type 0) (xs : List X) → ((x : X) → Decides (test x) (P x)) → Decides (list_any test xs) (Any P xs)
decides_any test P xs each = (
  λ t. any_like (λ x. test x ≡ true) P xs (λ x e. (each x).0 e) (Any-from_list_any test xs t),
  λ p. list_any-from_Any test xs (any_like P (λ x. test x ≡ true) xs (λ x h. (each x).1 h) p),
)

-- ---- the tests of a card in their order

module _ (Has : SourceFault → Type 0) (above : Above 45 Has) (unknown outside reserved filled : Bool)
    (is_unknown : Decides unknown (Has source.UnknownName)) (is_outside : Decides outside (Has source.Outside))
    (is_reserved : Decides reserved (Has source.Reserved)) (is_filled : Decides filled (Has source.Filled)) where
  by_filled : (test : Bool) → filled ≡ test → Above 48 Has → IsLowestBut49 Has (if test then Some source.Filled else None)
  by_filled true t high = (is_filled.0 t, high)
  by_filled false t high = without Has source.Filled high (decided_not filled is_filled t)

  by_reserved : (test : Bool) → reserved ≡ test → Above 47 Has →
      IsLowestBut49 Has (if test then Some source.Reserved else (if filled then Some source.Filled else None))
  by_reserved true t high = (is_reserved.0 t, high)
  by_reserved false t high = by_filled filled refl (without Has source.Reserved high (decided_not reserved is_reserved t))

  by_outside : (test : Bool) → outside ≡ test → Above 46 Has →
      IsLowestBut49 Has (if test then Some source.Outside else (if reserved then Some source.Reserved else (if filled then Some source.Filled else None)))
  by_outside true t high = (is_outside.0 t, high)
  by_outside false t high = by_reserved reserved refl (without Has source.Outside high (decided_not outside is_outside t))

  by_unknown : (test : Bool) → unknown ≡ test →
      IsLowestBut49 Has (if test then Some source.UnknownName
      else (if outside then Some source.Outside else (if reserved then Some source.Reserved else (if filled then Some source.Filled else None))))
  by_unknown true t = (is_unknown.0 t, above)
  by_unknown false t = by_outside outside refl (without Has source.UnknownName above (decided_not unknown is_unknown t))

  pub in_turn : IsLowestBut49 Has (if unknown then Some source.UnknownName
      else (if outside then Some source.Outside else (if reserved then Some source.Reserved else (if filled then Some source.Filled else None))))
  in_turn = by_unknown unknown refl
