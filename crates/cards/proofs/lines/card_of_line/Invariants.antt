use Rattle.std.proofs.Common.{◌≡◌, ◌*◌, ◌<◌, length, take}
use Rattle.std.specs.List.{flat_map}
use Rattle.cards.specs.declared.decks.Card.{Card}
use Rattle.cards.specs.declared.decks.TheConstants.{COLUMNS}
use Rattle.cards.specs.Decks.{AreCharacters, IsCard}
use Rattle.cards.specs.Files.{column_length, column_of, line_of}
use Rattle.cards.proofs.lines.card_of_line.Given as goal

abbrev pub invariant-loop-column : goal.invariant-loop-column
invariant-loop-column l = record {
  width : length l.codes ≡ COLUMNS;
  characters : l.numbers < 64 → AreCharacters (take l.column l.codes);
  columns : l.numbers < 64 → flat_map (column_of l.form) (take l.column l.codes) ≡ take (column_length l.form * l.column) l.line;
  numbers : (card : Card) → IsCard card → l.line ≡ line_of l.form card → l.numbers < 64;
}
