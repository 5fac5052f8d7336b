use Rattle.std.proofs.Common.{◌∙◌, arith}
use Rattle.loader.specs.Cards.{unused}
use Rattle.loader.proofs.PlaceFills.{place_step}
use Rattle.loader.proofs.places.punch_unused.Goals as goal

pub loop-preserved : goal.loop-preserved
loop-preserved c = record {
  punched = place_step c.loop.columns c.punch_text.new.self unused 3 c.loop.counter c.loop-test.true c.punch_text.ensures.punched ∙ c.loop.invariant.punched;
  columns = omega arith;
}
