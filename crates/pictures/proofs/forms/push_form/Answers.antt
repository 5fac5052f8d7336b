use Rattle.pictures.specs.Forms.{form_section}
use Rattle.pictures.proofs.CountedPieces.{at_end, between, more}
use Rattle.pictures.proofs.forms.push_form.Goals as goal

pub returns : goal.returns
unfolding form_section
returns c =
    let o = c.args.out.now.items in
    let numbered = more o _ _ _ _ (more o _ _ _ _ (more o _ _ _ _ c.in_ok-extend_from_slice.ensures.items c.in_ok-push_escaped.ensures) c.in_ok-extend_from_slice-2.ensures.items) c.in_ok-push_decimal.ensures in
    at_end c.push_number_between.result c.push_number_between.ensures (λ last. between o _ _ _ _ _ _ numbered last)
