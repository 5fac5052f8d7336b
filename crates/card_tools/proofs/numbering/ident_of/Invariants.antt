use Rattle.std.proofs.Common.{◌≡◌, length, take}
use Rattle.cards.specs.Decks.{AreCharacters}
use Rattle.card_tools.specs.Lines.{glyphs_of}
use Rattle.card_tools.proofs.numbering.ident_of.Given as goal

abbrev pub invariant-loop-glyph : goal.invariant-loop-glyph
invariant-loop-glyph l = record {
  characters : AreCharacters l.codes.items;
  glyphs : take l.glyph-index l.word ≡ glyphs_of l.codes.items;
  length : length l.codes.items ≡ l.glyph-index;
}
