use Rattle.std.proofs.Common.{◌∙◌, sym, refl}
use Rattle.core_store.specs.Storage.{codes_from}
use Rattle.machine.proofs.DecodeLemmas.{operation_named, last_named}
use Rattle.machine.proofs.ShapeDecoding.{unformed, unallowed, unaddressed, whole}
use Rattle.machine.proofs.decode.shape_of.Goals as goal

pub returns-then-not-has_form-clause-shape : goal.returns-then-not-has_form-clause-shape
returns-then-not-has_form-clause-shape g c =
    unformed c.args.word.length (codes_from (g.C.Core.cells c.args.core.now) c.args.word.first c.args.word.length) c.character-first.result _ c.character-first.ensures refl
    (sym c.has_form.ensures ∙ c.if-not-has_form.true)

pub returns-then-not-allows-clause-shape : goal.returns-then-not-allows-clause-shape
returns-then-not-allows-clause-shape g c =
    unallowed c.args.word.length (codes_from (g.C.Core.cells c.args.core.now) c.args.word.first c.args.word.length) c.character-first.result c.character-last.result c.character-first.ensures c.character-last.ensures
    (sym c.has_form.ensures ∙ c.if-not-has_form.false) (sym c.allows.ensures ∙ c.if-not-allows.true)

pub returns-in_default-clause-shape : goal.returns-in_default-clause-shape
returns-in_default-clause-shape g c =
    unaddressed c.args.word.length (codes_from (g.C.Core.cells c.args.core.now) c.args.word.first c.args.word.length) c.character-first.result c.character-last.result c.character-first.ensures c.character-last.ensures
    c.addresses_in.result (sym c.has_form.ensures ∙ c.if-not-has_form.false) (sym c.allows.ensures ∙ c.if-not-allows.false) c.addresses_in.ensures.count
    (sym c.in_default.is ∙ c.addresses.ensures)

pub returns-clause-shape : goal.returns-clause-shape
returns-clause-shape g c =
    whole c.args.word.length (codes_from (g.C.Core.cells c.args.core.now) c.args.word.first c.args.word.length) c.character-first.result c.character-last.result c.character-first.ensures c.character-last.ensures
    c.addresses_in.result (sym c.has_form.ensures ∙ c.if-not-has_form.false) (sym c.allows.ensures ∙ c.if-not-allows.false) c.addresses_in.ensures.count c.in-Some.addresses c.in-Some.ensures

pub returns-clause-names : goal.returns-clause-names
returns-clause-names g c a b = record {
  operation = operation_named c.character-first.result c.args.word.length (sym c.has_form.ensures ∙ c.if-not-has_form.false);
  modifier = last_named c.character-first.result c.args.word.length c.character-last.result (sym c.has_form.ensures ∙ c.if-not-has_form.false) (sym c.allows.ensures ∙ c.if-not-allows.false);
  length = refl;
  a = refl;
  b = refl;
}
