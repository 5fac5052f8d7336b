use Rattle.std.proofs.Common.{◌≡◌, length, map, take}
use Rattle.bcd.specs.Table.{punches_of}
use Rattle.card_forms.proofs.images.patterns.Given as goal

abbrev pub invariant-loop-index : goal.invariant-loop-index
invariant-loop-index l = record {
  width : length l.patterns ≡ 80;
  punches : take l.index l.patterns ≡ map punches_of (take l.index l.codes);
}
