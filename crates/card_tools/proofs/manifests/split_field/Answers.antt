use Rattle.std.proofs.Common.{sym, ◌∙◌, refl}
use Rattle.card_tools.proofs.ManifestFields.{field_found, field_missing, field_other}
use Rattle.card_tools.proofs.manifests.split_field.Goals as goal

pub returns-in_default-clause-none : goal.returns-in_default-clause-none
returns-in_default-clause-none c _ field rest begins =
    field_missing c.args.bytes.now field rest (sym c.blank_place.ensures ∙ c.in_default.is) begins

pub returns-in-None-clause-none : goal.returns-in-None-clause-none
returns-in-None-clause-none c _ field rest begins =
    field_other c.args.bytes.now c.in-Some.place field rest (sym c.blank_place.ensures ∙ c.in-Some.is)
    (λ more behind. c.in-None.ensures.none refl more (c.split_at.ensures.back ∙ behind)) begins

pub returns-in-Some-behind_blanks-clause-field : goal.returns-in-Some-behind_blanks-clause-field
returns-in-Some-behind_blanks-clause-field c =
    rw c.split_at.ensures.front
    (field_found c.args.bytes.now c.in-Some.place c.in-Some-behind_blanks.rest.now (sym c.blank_place.ensures ∙ c.in-Some.is) (sym c.split_at.ensures.back ∙ c.in-Some-behind_blanks.ensures.found))
