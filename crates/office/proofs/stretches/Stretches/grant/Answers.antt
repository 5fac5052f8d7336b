use Rattle.std.proofs.Common.{◌+◌, ◌≤◌, List, length, drop, sym, ap, subst, ◌∙◌, arith}
use Rattle.office.specs.Limits.{most_granted}
use Rattle.office.specs.Jobs.{AreStretches, granted, granted_more}
use Rattle.office.specs.declared.stretches.Stretch.{Stretch}
use Rattle.office.proofs.StretchLemmas.{more_fits, put_back}
use Rattle.office.proofs.stretches.Stretches.grant.Goals as goal

pub invariant_of-self : goal.invariant_of-self
invariant_of-self c =
    let items : List Stretch = c.self.inside.list.items in
    let new : List Stretch = c.grant_more.new.stretches in
    let fits : granted items + c.args.limit ≤ most_granted = subst (λ (xs : List Stretch). granted xs + c.args.limit ≤ most_granted) (sym c.self.view_is) c.requires in
    subst AreStretches (sym (put_back items new (drop (length new) items) c.self.inside.list.len c.args.limit (omega (arith, c.deref_mut.ensures.len, ap length c.deref_mut.ensures.value)) (c.grant_more.ensures ∙ ap (granted_more c.args.limit) c.deref_mut.ensures.value)))
    (more_fits c.args.limit items c.self.invariant fits)
