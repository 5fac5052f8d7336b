use Rattle.std.proofs.Common.{◌≡◌, ◌<◌, length, sym, ◌∙◌, ap, subst, arith}
use Rattle.units.specs.Listing.{shown}
use Rattle.units.proofs.ListingLines.{IsFilled, filled_none, filled_step, line_pushed}
use Rattle.units.proofs.listing.push_line.Goals as goal

pub loop-place-init : goal.loop-place-init
loop-place-init c = filled_none c.args.codes.now

pub loop-place-preserved : goal.loop-place-preserved
loop-place-preserved c =
    let room : c.loop-place.place < 132 = omega (arith, c.type_inv.codes, c.length_shown-length.ensures.within) in
    let within : c.loop-place.place < length c.args.codes.now = omega (arith, c.type_inv.codes) in
    filled_step c.args.codes.now c.loop-place.line c.loop-place.place c.index-codes-place.result c.shown_glyph.result within room c.index-codes-place.is
    (c.shown_glyph.ensures ∙ ap shown (sym c.index-codes-place.is)) c.loop-place.invariant

pub returns-clause-items : goal.returns-clause-items
returns-clause-items c =
    let n = c.length_shown-length.result in
    let end : c.loop-place.place ≡ n = omega arith in
    line_pushed c.args.text.now.items c.push_bytes.new.text.items c.args.codes.now c.loop-place.line n (omega (arith, c.loop-place.invariant.within))
    (subst (λ place. IsFilled c.args.codes.now place c.loop-place.line) end c.loop-place.invariant) c.length_shown-length.ensures.text c.push_bytes.ensures.items
