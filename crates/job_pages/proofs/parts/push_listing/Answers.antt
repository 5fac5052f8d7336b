use Rattle.std.proofs.Common.{◌≡◌, ◌==◌, ◌∙◌, true, false, length, sym}
use Rattle.pictures.proofs.CountedPieces.{at_end, last_piece, more}
use Rattle.job_pages.proofs.parts.push_listing.Goals as goal

pub returns-then-is_empty : goal.returns-then-is_empty
returns-then-is_empty c =
    let none : (length c.args.listing.now == 0) ≡ true = sym c.is_empty.ensures ∙ c.if-is_empty.true in
    rw none (last_piece c.extend_from_slice-then-is_empty.result c.args.out.now.items _ _ _ _ c.in_ok-extend_from_slice.ensures.items c.extend_from_slice-then-is_empty.ensures.items)

pub returns : goal.returns
returns c =
    let some : (length c.args.listing.now == 0) ≡ false = sym c.is_empty.ensures ∙ c.if-is_empty.false in
    let done = at_end c.push_box.result c.push_box.ensures (λ last. more c.args.out.now.items _ _ _ _ c.in_ok-extend_from_slice.ensures.items last) in
    rw some (rw some at done)
