use Rattle.std.proofs.Common.{◌≡◌, ◌*◌, ◌≤◌, length, take}
use Rattle.std.specs.List.{flat_map}
use Rattle.std.specs.Vec.{vec_len, vec_capacity}
use Rattle.cards.specs.Files.{line_of, line_length}
use Rattle.cards.proofs.writing.write.Given as goal

abbrev pub invariant-loop-card : goal.invariant-loop-card
invariant-loop-card l = record {
  items : l.out.items ≡ flat_map (line_of l.form) (take l.card-index l.cards);
  len : vec_len l.out ≡ line_length l.form * l.card-index;
  room : line_length l.form * length l.cards ≤ vec_capacity l.out;
}
