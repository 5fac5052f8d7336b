use Rattle.std.proofs.Common.{take, sym, subst}
use Rattle.std.proofs.lemmas.List.{take_all}
use Rattle.std.proofs.lemmas.List.Elements.{All-more, All-same}
use Rattle.ledger_rows.specs.Columns.{IsLine}
use Rattle.job_checks.proofs.told.lines_hold_characters.Goals as goal

pub loop-at-preserved : goal.loop-at-preserved
loop-at-preserved c =
    All-more IsLine c.args.lines.now c.loop-at.at c.index-lines-at.result c.loop-at-test.true c.loop-at.invariant (subst IsLine c.index-lines-at.is c.line_bytes-bytes.ensures.line)

pub returns : goal.returns
returns c =
    All-same IsLine c.args.lines.now (take c.loop-at.at c.args.lines.now) (sym (take_all c.loop-at.at c.args.lines.now c.loop-at-test.false)) c.loop-at.invariant
