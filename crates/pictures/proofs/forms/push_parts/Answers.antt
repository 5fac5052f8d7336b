use Rattle.std.proofs.Common.{◌+◌, ◌∙◌, ◌++◌, ap, refl, arith}
use Rattle.pictures.specs.Forms.{parts, sections_from}
use Rattle.pictures.proofs.FormParts.{counted, last_section, section_on}
use Rattle.pictures.proofs.forms.push_parts.Goals as goal

pub loop-form-preserved : goal.loop-form-preserved
loop-form-preserved c =
    let count = c.count_feeds-count.result + 1 in
    record {
      sections = ap (λ out. out ++ sections_from (c.loop-form.number + 1) count (parts c.in-Some.behind.now)) c.in_ok-push_form.ensures
          ∙ section_on c.loop-form.number count c.in-Some.form.now (parts c.in-Some.behind.now) (parts c.loop-form.rest.now) c.loop-form.out.items c.in-Some.ensures.parts
          ∙ c.loop-form.invariant.sections;
      within = omega (arith, c.in-Some.ensures.shorter, c.loop-form.invariant.within);
    }

pub returns : goal.returns
returns c =
    let count = c.count_feeds-count.result + 1 in
    c.in_ok-push_form-2.ensures
    ∙ last_section c.loop-form.number count c.loop-form.rest.now (parts c.loop-form.rest.now) c.loop-form.out.items (c.in_default.ensures.last refl)
    ∙ c.loop-form.invariant.sections
    ∙ counted c.args.text.now c.count_feeds-count.result c.args.out.now.items c.count_feeds-count.ensures
