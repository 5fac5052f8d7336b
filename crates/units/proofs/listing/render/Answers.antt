use Rattle.std.proofs.Common.{◌∙◌, ◌+◌, [], ◌++◌, ap, sym, subst, arith, take}
use Rattle.units.specs.Listing.{added_after, IsListedTo}
use Rattle.units.proofs.ListingLines.{shown_none, shown_more}
use Rattle.units.proofs.listing.render.Goals as goal

pub loop-line-init : goal.loop-line-init
loop-line-init c rising = subst (λ bytes. IsListedTo [] bytes 0 0) (sym c.new-text.ensures.items) shown_none

pub loop-line-preserved : goal.loop-line-preserved
loop-line-preserved c rising =
    let now = c.loop-line in
    let y = c.line-item.result in
    let text = c.push_listed.ensures.items ∙ ap (λ bytes. bytes ++ added_after now.form now.done y) c.in_ok-try_reserve.ensures.items in
    subst (λ bytes. IsListedTo (take (now.line-index + 1) c.args.lines.now) bytes y.form y.line) (sym text)
    (shown_more c.args.lines.now now.line-index y rising (omega arith) c.line-item.is now.text.items now.form now.done (now.invariant rising))
