use Rattle.std.proofs.Common.{◌≡◌, length, take}
use Rattle.card_tools.specs.Lines.{glyphs_of}
use Rattle.card_tools.proofs.numbering.glyphs.Given as goal

abbrev pub invariant-loop-place : goal.invariant-loop-place
invariant-loop-place l = record {
  width : length l.glyphs ≡ 8;
  glyphs : take l.place l.glyphs ≡ glyphs_of (take l.place l.columns);
}
