use Rattle.std.proofs.Common.{sym, ◌∙◌, refl}
use Rattle.card_tools.proofs.ManifestFields.{no_number, no_second}
use Rattle.card_tools.proofs.manifests.behind_count.Goals as goal

pub returns-in_default-clause-none : goal.returns-in_default-clause-none
returns-in_default-clause-none c _ = no_second c.args.label.now (c.in_default.ensures.none refl)

pub returns-then-not-may_be_number-clause-none : goal.returns-then-not-may_be_number-clause-none
returns-then-not-may_be_number-clause-none c _ =
    no_number c.args.label.now c.in-Some.cards.now c.in-Some.name.now c.in-Some.ensures.field
    (sym c.may_be_number.ensures ∙ c.if-not-may_be_number.true)

pub returns-clause-found : goal.returns-clause-found
returns-clause-found c = (
  c.in-Some.cards.now,
  record {
    fields_are = c.in-Some.ensures.field.1;
    cards_are = sym c.may_be_number.ensures ∙ c.if-not-may_be_number.false;
  },
)
