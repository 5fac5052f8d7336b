use Rattle.std.proofs.Common.{◌≡◌, ◌==◌, ◌∙◌, true, false, length, sym, append-nil}
use Rattle.pictures.specs.Forms.{sections_from}
use Rattle.pictures.proofs.forms.push_listing_forms.Goals as goal

pub returns-then-is_empty : goal.returns-then-is_empty
unfolding sections_from
returns-then-is_empty c =
    let empty : (length c.args.listing.now == 0) ≡ true = sym c.is_empty.ensures ∙ c.if-is_empty.true in
    rw empty (sym (append-nil c.args.out.now.items))

pub returns : goal.returns
returns c =
    let other : (length c.args.listing.now == 0) ≡ false = sym c.is_empty.ensures ∙ c.if-is_empty.false in
    rw other c.push_parts.ensures
