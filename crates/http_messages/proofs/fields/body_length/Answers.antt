use Rattle.std.proofs.Common.{◌∙◌}
use Rattle.http_messages.proofs.FieldLemmas.{length_with, length_without}
use Rattle.http_messages.proofs.fields.body_length.Goals.{then-is_named, else-is_named}
use Rattle.http_messages.proofs.fields.body_length.Goals as goal

pub loop-field-preserved : goal.loop-field-preserved
loop-field-preserved c = elim c.if-is_named.branch [
  | then-is_named w ↦ length_with c.args.bytes.now c.args.fields.now c.loop-field.field-index _ c.loop-field.length c.if-is_named.length w.of.result.now c.loop-field-test.true c.loop-field.invariant w.if-is_named.ensures w.of.ensures (w.length-is ∙ w.length_of_more-length.ensures)
  | else-is_named w ↦ length_without c.args.bytes.now c.args.fields.now c.loop-field.field-index _ c.loop-field.length c.if-is_named.length c.loop-field-test.true c.loop-field.invariant w.if-is_named.ensures w.length-is
]
