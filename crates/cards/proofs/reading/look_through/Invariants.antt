use Rattle.std.proofs.Common.{◌≡◌, ◌++◌, length, take}
use Rattle.std.specs.List.{flat_map}
use Rattle.cards.specs.declared.decks.TheConstants.{COLUMNS}
use Rattle.cards.specs.Decks.{AreCharacters}
use Rattle.cards.specs.Files.{column_of}
use Rattle.cards.proofs.reading.look_through.Given as goal

abbrev pub invariant-loop-index : goal.invariant-loop-index
invariant-loop-index l = record {
  width : length l.codes ≡ COLUMNS;
  characters : AreCharacters (take l.index l.codes);
  before : l.bytes ≡ flat_map (column_of l.form) (take l.index l.codes) ++ l.rest;
}
