use Rattle.std.proofs.Common.{◌≡◌, ◌∙◌, length, ap, arith}
use Rattle.autocoder.specs.Listing.{line_text}
use Rattle.autocoder_listings.specs.Rows.{rows_of}
use Rattle.autocoder_listings.specs.Names.{users_line, users_lines}
use Rattle.autocoder_listings.proofs.LineLemmas.{number_step, number_past}
use Rattle.autocoder_listings.proofs.names.push_users_lines.Goals as goal

pub loop-number-preserved : goal.loop-number-preserved
loop-number-preserved c =
    let end : c.rows_of-number-end.result ≡ rows_of c.args.many (length c.args.cards.now) = c.rows_of-number-end.ensures in
    number_step (λ n. line_text (users_line c.args.many c.args.cards.now n)) c.loop-number.text.items c.push_line.new.text.items (line_text c.deref.result.now) c.loop-number.number (rows_of c.args.many (length c.args.cards.now)) (omega (arith, c.loop-number-test.true, end))
    (ap line_text (c.deref.ensures.value ∙ c.in_ok-line.ensures)) c.in_ok-push_line.ensures
    ∙ c.loop-number.invariant

pub returns : goal.returns
unfolding users_lines
returns c =
    let end : c.rows_of-number-end.result ≡ rows_of c.args.many (length c.args.cards.now) = c.rows_of-number-end.ensures in
    number_past (λ n. line_text (users_line c.args.many c.args.cards.now n)) c.loop-number.text.items c.loop-number.number (rows_of c.args.many (length c.args.cards.now)) (omega (arith, c.loop-number-test.false, end))
    ∙ c.loop-number.invariant
