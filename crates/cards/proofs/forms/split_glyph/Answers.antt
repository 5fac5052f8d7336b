use Rattle.std.proofs.lemmas.Result.{err_from_is_err_and}
use Rattle.cards.proofs.FormColumns.{cut_off_no_glyph}
use Rattle.cards.proofs.forms.split_glyph.Goals as goal

pub returns-in_err-glyph-clause-none : goal.returns-in_err-glyph-clause-none
returns-in_err-glyph-clause-none c =
    let returned = err_from_is_err_and c.from_residual.result c.from_residual.ensures.1 in
    rw returned.1 (cut_off_no_glyph c.args.bytes.now c.in_err-glyph.ensures.none.1)
