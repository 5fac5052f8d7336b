use Rattle.std.proofs.Common.{arith, ◌-◌, length, drop}
use Rattle.std.proofs.lemmas.List.{length-drop, length-take}
use Rattle.texts.proofs.SendingLemmas.{sent_more}
use Rattle.texts.proofs.sending.send.Goals as goal

pub loop-sent-preserved : goal.loop-sent-preserved
loop-sent-preserved g c = (
  omega (arith, c.in-Ok.ensures.bound, length-take (length c.args.bytes.now - c.loop-sent.sent) (drop c.loop-sent.sent c.args.bytes.now), length-drop c.loop-sent.sent c.args.bytes.now),
  sent_more _ _ _ c.args.bytes.now c.loop-sent.sent c.in-Ok.count c.loop-sent.invariant.0 c.loop-sent.invariant.1 c.in-Ok.ensures.bytes,
)
