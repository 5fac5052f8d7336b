use Rattle.std.proofs.Common.{◌∙◌, length, get_or, None, ap, arith, length-append, ◌∷◌, []}
use Rattle.autocoder_layout.proofs.TableLemmas.{none_push, table_empty}
use Rattle.autocoder_layout.proofs.tables.empty_table.Goals as goal

pub returns-clause-empty : goal.returns-clause-empty
returns-clause-empty c = table_empty c.args.size c.loop.table.items c.loop.invariant.none

pub loop-preserved : goal.loop-preserved
loop-preserved c = record {
  size = omega (arith, ap length (c.in_ok-push.ensures.items), length-append c.loop.table.items (None ∷ []));
  none = λ k. ap (λ t. get_or t k None) (c.in_ok-push.ensures.items) ∙ none_push c.loop.table.items c.loop.invariant.none k;
}
