use Rattle.std.proofs.Common.{◌≡◌}
use Rattle.core_store.specs.Storage.{codes_from, marks_from}
use Rattle.run_traces.proofs.rows.Row.at.Given as goal

abbrev pub invariant-loop-place : goal.invariant-loop-place
invariant-loop-place g l = record {
  codes : l.codes.items ≡ codes_from (g.C.Core.cells l.core) l.first l.place;
  marks : l.marks.items ≡ marks_from (g.C.Core.cells l.core) l.first l.place;
}
