use Rattle.std.proofs.Common.{◌≡◌, ◌++◌, length, take}
use Rattle.std.specs.List.{All, flat_map}
use Rattle.card_forms.specs.ImageFiles.{MayStand, column_of}
use Rattle.card_forms.proofs.image_reading.split_card.Given as goal

abbrev pub invariant-loop-index : goal.invariant-loop-index
invariant-loop-index l = record {
  width : length l.columns ≡ 80;
  each : All (MayStand l.form) (take l.index l.columns);
  before : l.bytes ≡ flat_map (column_of l.form) (take l.index l.columns) ++ l.rest;
}
