use Rattle.std.proofs.Common.{ℕ, ◌≡◌, length, get_or, None}
use Rattle.autocoder_layout.proofs.tables.empty_table.Given as goal

abbrev pub invariant-loop : goal.invariant-loop
invariant-loop l = record {
  size : length l.table.items ≡ l.counter;
  none : (k : ℕ) → get_or l.table.items k None ≡ None;
}
