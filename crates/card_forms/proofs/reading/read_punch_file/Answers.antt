use Rattle.std.proofs.Common.{◌≡◌, ℕ, List, inl, inr, refl, ap, subst, ◌∙◌}
use Rattle.cards.specs.declared.CardFault.{CardFault}
use Rattle.cards.specs.Faults as cards
use Rattle.cards.specs.Files.{file_of, punch_file_of}
use Rattle.card_forms.specs.declared.faults.FormFault.{FormFault}
use Rattle.card_forms.specs.declared.forms.Form.TheVariants.{Punch}
use Rattle.card_forms.specs.Faults.{IsFault, fault_as, punches_error}
use Rattle.card_forms.specs.PunchFiles.{in_capitals}
use Rattle.card_forms.proofs.reading.read_punch_file.Goals as goal

-- the fault of the file with capitals is that of the file
fault_told : (form : _) (file capitals : List ℕ) (told : CardFault) (fault : FormFault) → punch_file_of ≡ file_of form
    → capitals ≡ in_capitals file → cards.IsFault form capitals told → fault ≡ fault_as told (punches_error capitals told)
    → IsFault Punch file fault
fault_told form file capitals told fault punched same (inl memory) is = inl (is ∙ rw memory refl)
fault_told form file capitals told fault punched same (inr first) is =
    inr (
      told,
      (form, punched, subst (λ (whole : List ℕ). cards.IsFirstFault form whole told) same first),
      is ∙ ap (λ (whole : List ℕ). fault_as told (punches_error whole told)) same,
    )

pub returns-clause-fault : goal.returns-clause-fault
returns-clause-fault c =
    fault_told _ c.args.file.now c.deref.result.now c.in-Err.told c.punch_fault.result refl
    (c.deref.ensures.value ∙ c.in-Ok.ensures) c.in-Err.ensures.fault
    (rw (c.deref-in-Err.ensures.value, ← c.deref.ensures.value) at c.punch_fault.ensures)
