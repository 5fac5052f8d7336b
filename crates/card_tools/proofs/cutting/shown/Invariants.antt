use Rattle.std.proofs.Common.{◌≡◌, length, take}
use Rattle.card_tools.specs.Lines.{columns_shown}
use Rattle.card_tools.proofs.cutting.shown.Given as goal

abbrev pub invariant-loop-place : goal.invariant-loop-place
invariant-loop-place l = record {
  width : length l.shown ≡ 8;
  shown : take l.place l.shown ≡ columns_shown (take l.place l.columns);
}
