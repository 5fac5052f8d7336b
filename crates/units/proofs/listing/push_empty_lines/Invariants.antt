use Rattle.std.proofs.Common.{◌≡◌, ◌+◌, ◌++◌, replicate}
use Rattle.std.specs.Vec.{vec_len, vec_capacity}
use Rattle.cards.specs.Files.{line_feed}
use Rattle.units.proofs.listing.push_empty_lines.Given as goal

abbrev pub invariant-loop : goal.invariant-loop
invariant-loop l = record {
  items : l.text.items ≡ l.initial.text.items ++ replicate l.counter line_feed;
  len : vec_len l.text ≡ vec_len l.initial.text + l.counter;
  capacity : vec_capacity l.text ≡ vec_capacity l.initial.text;
}
