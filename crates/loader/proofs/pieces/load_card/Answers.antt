use Rattle.std.proofs.Common.{length, ap, arith}
use Rattle.loader.proofs.PieceBounds.{lawful_length}
use Rattle.loader.proofs.pieces.load_card.Goals as goal

pub punch_characters-requires : goal.punch_characters-requires
punch_characters-requires c = omega (arith, ap length c.blank-columns.ensures, lawful_length c.args.stretch.now c.requires.lawful)

pub skip_to-requires-clause-reached : goal.skip_to-requires-clause-reached
skip_to-requires-clause-reached c = omega (arith, ap length c.blank-columns.ensures, c.punch_characters.ensures.length, lawful_length c.args.stretch.now c.requires.lawful)
