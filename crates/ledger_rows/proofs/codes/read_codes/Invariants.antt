use Rattle.std.proofs.Common.{◌≡◌, true, length, take}
use Rattle.cards.specs.Decks.{AreCharacters}
use Rattle.ledger_rows.proofs.codes.read_codes.Given as goal

abbrev pub invariant-loop-place : goal.invariant-loop-place
invariant-loop-place l = record {
  numbers : l.are ≡ true → take l.place l.codes ≡ take l.place l.numbers;
  characters : l.are ≡ true → AreCharacters (take l.place l.numbers);
  all : AreCharacters l.numbers → l.are ≡ true;
  size : length l.codes ≡ length l.numbers;
}
