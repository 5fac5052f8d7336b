use Rattle.std.proofs.Common.{◌≡◌, ◌+◌, ◌*◌, ◌++◌, take}
use Rattle.std.specs.List.{flat_map}
use Rattle.std.specs.Vec.{vec_len, vec_capacity}
use Rattle.cards.specs.Files.{column_of, column_length}
use Rattle.cards.proofs.writing.push_card.Given as goal

abbrev pub invariant-loop-code : goal.invariant-loop-code
invariant-loop-code l = record {
  items : l.out.items ≡ l.fn.out.items ++ flat_map (column_of l.form) (take l.code-index l.card.0);
  len : vec_len l.out ≡ vec_len l.fn.out + column_length l.form * l.code-index;
  capacity : vec_capacity l.out ≡ vec_capacity l.fn.out;
}
