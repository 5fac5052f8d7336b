use Rattle.std.proofs.Common.{get_or, refl}
use Rattle.run_traces.proofs.AddressLemmas.{no_glyph}
use Rattle.run_traces.proofs.named_positions.characters_of.Goals as goal

pub returns-in_default-clause-none : goal.returns-in_default-clause-none
returns-in_default-clause-none c = λ none codes all same. no_glyph c.args.text.now codes c.loop-glyph.glyph-index (get_or c.args.text.now c.loop-glyph.glyph-index 0) (search) refl (c.in_default.ensures.missing refl) all same
