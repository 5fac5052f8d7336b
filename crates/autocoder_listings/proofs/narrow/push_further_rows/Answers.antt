use Rattle.std.proofs.Common.{◌≡◌, ◌∙◌, length, ap, arith}
use Rattle.autocoder.specs.Listing.{line_text}
use Rattle.autocoder_listings.specs.Rows.{rows_for}
use Rattle.autocoder_listings.specs.Coded.{further_line}
use Rattle.autocoder_listings.specs.Narrow.{further_rows, without_card}
use Rattle.autocoder_listings.proofs.LineLemmas.{number_step, number_past}
use Rattle.autocoder_listings.proofs.narrow.push_further_rows.Goals as goal

pub loop-number-preserved : goal.loop-number-preserved
loop-number-preserved c =
    let end : c.rows_for-number-end.result ≡ rows_for (length c.args.cells.now) = c.rows_for-number-end.ensures in
    number_step (λ n. line_text (without_card (further_line c.args.cells.now n))) c.loop-number.text.items c.push_without_card.new.text.items (line_text (without_card c.deref.result.now)) c.loop-number.number (rows_for (length c.args.cells.now)) (omega (arith, c.loop-number-test.true, end))
    (ap (λ l. line_text (without_card l)) (c.deref.ensures.value ∙ c.in_ok-line.ensures)) c.in_ok-push_without_card.ensures
    ∙ c.loop-number.invariant

pub returns : goal.returns
unfolding further_rows
returns c =
    let end : c.rows_for-number-end.result ≡ rows_for (length c.args.cells.now) = c.rows_for-number-end.ensures in
    number_past (λ n. line_text (without_card (further_line c.args.cells.now n))) c.loop-number.text.items c.loop-number.number (rows_for (length c.args.cells.now)) (omega (arith, c.loop-number-test.false, end))
    ∙ c.loop-number.invariant
