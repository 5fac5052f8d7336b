use Rattle.std.proofs.Common.{◌<◌, ◌≡◌, ◌∙◌, length, length-set, arith}
use Rattle.cards.proofs.LinesRead.{character_read, column_read, number_read, whole_read}
use Rattle.cards.proofs.lines.card_of_line.Goals as goal

pub loop-column-preserved : goal.loop-column-preserved
loop-column-preserved c =
    let loop = c.loop-column.invariant in
    let codes = c.loop-column.codes in
    let i = c.loop-column.column in
    let number = c.number_at-number.result in
    let within : i < length codes = omega (arith, loop.width) in
    record {
      width = length-set _ _ _ ∙ loop.width;
      characters = λ below. character_read c.args.form c.args.line.now codes i c.loop-column.numbers number _ within c.code_of.ensures c.number_at-number.ensures.found below loop.characters;
      columns = λ below. column_read c.args.form c.args.line.now codes i c.loop-column.numbers number _ within c.code_of.ensures c.number_at-number.ensures.found below loop.columns;
      numbers = λ card is same. number_read c.args.form c.args.line.now i c.loop-column.numbers number card (omega arith) is same c.number_at-number.ensures.each (loop.numbers card is same);
    }

pub returns-clause-card : goal.returns-clause-card
returns-clause-card c =
    let loop = c.loop-column.invariant in
    let end : c.loop-column.column ≡ 80 = omega arith in
    whole_read c.args.form c.args.line.now c.loop-column.codes c.loop-column.column c.requires loop.width end (loop.characters (omega arith)) (loop.columns (omega arith)) c.if-line-ne-LINE_FEED.false
