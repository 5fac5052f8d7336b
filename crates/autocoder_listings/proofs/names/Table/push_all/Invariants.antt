use Rattle.std.proofs.Common.{◌≡◌, ◌++◌, take}
use Rattle.std.specs.List.{flat_map}
use Rattle.autocoder_layout.specs.declared.slots.Slot.{Slot}
use Rattle.autocoder_listings.specs.Names.{lines_of_defined}
use Rattle.autocoder_listings.proofs.names.Table.push_all.Given as goal

abbrev pub invariant-loop-slot : goal.invariant-loop-slot
invariant-loop-slot l = l.text.items ≡ l.initial.text.items ++ flat_map (λ (slot : Slot). lines_of_defined l.self.many l.self.lines.now slot.defines) (take l.slot-index l.slots)
