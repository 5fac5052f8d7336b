use Rattle.std.proofs.Common.{◌≡◌, ◌+◌, ◌*◌, drop, [], length}
use Rattle.core_store.specs.Storage.{positions_of}
use Rattle.autocoder_layout.specs.Slots.{slots_from}
use Rattle.autocoder_layout.specs.Bounds.{IsWithin}
use Rattle.autocoder_layout.proofs.slots.lay_out.Given as goal

abbrev pub invariant-loop-line : goal.invariant-loop-line
invariant-loop-line l = record {
  slots : slots_from (positions_of l.source.size) l.slots.items (drop l.line-index l.source.lines) ≡ slots_from (positions_of l.source.size) [] l.source.lines;
  within : IsWithin (16000 + 100100 * l.line-index) l.slots.items;
  count : length l.slots.items ≡ l.line-index;
}
