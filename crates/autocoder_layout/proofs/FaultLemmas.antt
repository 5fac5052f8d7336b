-- for the laws of the crates above: a source without faults, and a card without one
use Rattle.std.proofs.Common.{◌≡◌, ℕ, ◌+◌, Bool, true, false, List, [], ◌∷◌, ◌++◌, length, Option, Some, None, refl}
use Rattle.std.specs.Bool.{if◌then◌else◌}
use Rattle.std.specs.List.{All}
use Rattle.std.proofs.lemmas.List.Elements.{All-nil, All-cons}
use Rattle.autocoder_layout.specs.CardFaults.{fault_then, faults_from, faults_of, faults_to_end, no_end_after, last_fault}
use Rattle.autocoder_layout.specs.Judging.{fault_or}
use Rattle.autocoder_layout.specs.Layout.{Laid}
use Rattle.autocoder_layout.specs.declared.card_faults.CardFault.{CardFault}
use Rattle.autocoder_layout.specs.declared.faults.SourceFault.{SourceFault}

-- ---- a source without faults

no_fault_then : (card : ℕ) (reason : Option SourceFault) (rest : List CardFault) → fault_then card reason rest ≡ [] → (reason ≡ None) × (rest ≡ [])
no_fault_then card None rest e = (refl, e)
no_fault_then card (Some reason) rest e = absurd (cc)

no_faults_from : (card : ℕ) (layout : List Laid) → faults_from card layout ≡ [] → All (λ laid. laid.fault ≡ None) layout
unfolding faults_from
no_faults_from card [] e = All-nil (λ laid. laid.fault ≡ None)
no_faults_from card (laid ∷ layout) e =
    let both = no_fault_then card laid.fault (faults_from (card + 1) layout) e in
    All-cons (λ laid. laid.fault ≡ None) laid layout both.0 (no_faults_from (card + 1) layout both.1)

nothing_before : (one two : List CardFault) → one ++ two ≡ [] → one ≡ []
nothing_before [] two e = refl
nothing_before (reason ∷ one) two e = absurd (cc)

no_card_faults : (ended : Bool) (faults : List CardFault) (last : Option SourceFault) (card : ℕ) → faults_to_end ended faults last card ≡ [] → faults ≡ []
no_card_faults true faults last card e = e
no_card_faults false faults last card e = nothing_before faults (no_end_after last card) e

pub no_faults_of : (ended : Bool) (layout : List Laid) → faults_of ended layout ≡ [] → All (λ laid. laid.fault ≡ None) layout
unfolding faults_of
no_faults_of ended layout e = no_faults_from 1 layout (no_card_faults ended (faults_from 1 layout) (last_fault layout) (length layout) e)

-- ---- a card without a fault

pub no_fault_or : (reason rest : Option SourceFault) → fault_or reason rest ≡ None → rest ≡ None
no_fault_or None rest e = e
no_fault_or (Some reason) rest e = absurd (cc)

pub no_fault_if : (test : Bool) (reason : SourceFault) (rest : Option SourceFault) → (if test then Some reason else rest) ≡ None → (test ≡ false) × (rest ≡ None)
no_fault_if true reason rest e = absurd (cc)
no_fault_if false reason rest e = (refl, e)
