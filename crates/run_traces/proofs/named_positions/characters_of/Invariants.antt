use Rattle.std.proofs.Common.{◌≡◌, ◌<◌, All, take}
use Rattle.autocoder.specs.Listing.{glyphs_of}
use Rattle.run_traces.proofs.named_positions.characters_of.Given as goal

abbrev pub invariant-loop-glyph : goal.invariant-loop-glyph
invariant-loop-glyph l = record {
  read : glyphs_of l.codes.items ≡ take l.glyph-index l.text;
  below : All (λ code. code < 64) l.codes.items;
}
