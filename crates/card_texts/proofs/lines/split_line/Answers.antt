use Rattle.std.proofs.Common.{arith, ◌∙◌, ap, sym, length, take, ◌∷◌, ◌+◌, true, length-drop}
use Rattle.std.proofs.lemmas.List.{take_rest}
use Rattle.card_texts.specs.Lines.{lines_from}
use Rattle.card_texts.proofs.LineLemmas.{split_at_feed, split_at_return, one_line}
use Rattle.card_texts.proofs.lines.split_line.Goals as goal

pub returns-then-byte-eq-LINE_FEED-clause-line : goal.returns-then-byte-eq-LINE_FEED-clause-line
returns-then-byte-eq-LINE_FEED-clause-line c =
    rw (take_rest c.args.text.now (c.loop-place.place + 1))
    (split_at_feed c.args.text.now c.loop-place.place c.loop-place-test.true c.loop-place.invariant c.if-byte-eq-LINE_FEED.true)

pub returns-then-byte-eq-CARRIAGE_RETURN-clause-line :
    goal.returns-then-byte-eq-CARRIAGE_RETURN-clause-line
returns-then-byte-eq-CARRIAGE_RETURN-clause-line c =
    let behind = take_rest c.args.text.now (c.loop-place.place + 1) in
    split_at_return c.args.text.now c.loop-place.place c.loop-place-test.true c.loop-place.invariant c.if-byte-eq-CARRIAGE_RETURN.true
    ∙ ap (λ lines. take c.loop-place.place c.args.text.now ∷ lines) (sym (c.after_return.ensures.lines ∙ ap (lines_from true) behind))

pub returns-then-byte-eq-CARRIAGE_RETURN-clause-shorter :
    goal.returns-then-byte-eq-CARRIAGE_RETURN-clause-shorter
returns-then-byte-eq-CARRIAGE_RETURN-clause-shorter c =
    let behind = take_rest c.args.text.now (c.loop-place.place + 1) in
    omega (arith, c.after_return.ensures.length, ap (λ bytes. length bytes) behind, length-drop (c.loop-place.place + 1) c.args.text.now, c.loop-place-test.true)

pub returns-clause-line : goal.returns-clause-line
unfolding lines_from
returns-clause-line c =
    one_line c.args.text.now c.loop-place.place c.requires c.loop-place-test.false c.loop-place.invariant
