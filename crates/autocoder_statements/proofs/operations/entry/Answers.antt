use Rattle.std.proofs.Common.{◌≡◌, ◌∙◌, sym, ap, length, drop, arith}
use Rattle.autocoder_statements.specs.Mnemonics.{entry}
use Rattle.autocoder_statements.proofs.OperationLemmas.{entry_at, entry_past, entry_ends}
use Rattle.autocoder_statements.proofs.operations.entry.Goals as goal

pub returns-then-is_named : goal.returns-then-is_named
returns-then-is_named g c =
    sym (entry_at c.args.table.now c.args.word.now c.loop-index.index c.index-table-index.result _ c.loop-index-test.true c.index-table-index.is (sym c.is_named.ensures ∙ c.if-is_named.true))
    ∙ c.loop-index.invariant

pub loop-index-preserved : goal.loop-index-preserved
loop-index-preserved g c =
    sym (entry_past c.args.table.now c.args.word.now c.loop-index.index c.index-table-index.result c.loop-index-test.true (sym c.is_named.ensures ∙ c.if-is_named.false))
    ∙ c.loop-index.invariant

pub returns : goal.returns
returns g c =
    let e : c.loop-index.index ≡ length c.args.table.now = omega arith in
    sym (entry_ends c.args.table.now c.args.word.now) ∙ ap (λ n. entry (drop n c.args.table.now) c.args.word.now) (sym e) ∙ c.loop-index.invariant
