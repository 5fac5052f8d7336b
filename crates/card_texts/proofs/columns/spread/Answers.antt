use Rattle.std.proofs.Common.{◌∙◌, ap, sym, ◌++◌, length, add-one, append-nil}
use Rattle.std.proofs.lemmas.List.{drop_all}
use Rattle.card_texts.specs.Columns.{columns_from}
use Rattle.card_texts.proofs.ColumnLemmas.{spread_on}
use Rattle.card_texts.proofs.columns.spread.Goals as goal

pub loop-byte-preserved : goal.loop-byte-preserved
loop-byte-preserved c =
    rw (add-one c.loop-byte.byte-index)
    (let more = spread_on c.args.rules.now c.args.line.now c.loop-byte.columns.items c.loop-byte.byte-index 0 c.loop-byte-test.true c.loop-byte.invariant in
    rw c.in_ok-push_columns.ensures more)

pub returns : goal.returns
unfolding columns_from
returns c =
    sym (c.loop-byte.invariant
    ∙ ap (λ rest. c.loop-byte.columns.items ++ columns_from c.args.rules.now (length c.loop-byte.columns.items) rest)
    (drop_all c.loop-byte.byte-index c.args.line.now c.loop-byte-test.false)
    ∙ append-nil c.loop-byte.columns.items)
