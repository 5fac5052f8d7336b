use Rattle.std.proofs.Common.{◌≡◌, ◌++◌}
use Rattle.core_store.specs.Storage.{codes_from}
use Rattle.autocoder.specs.Listing.{glyphs_of}
use Rattle.run_traces.proofs.shown.push_codes.Given as goal

abbrev pub invariant-loop-place : goal.invariant-loop-place
invariant-loop-place g l = l.line.items ≡ l.fn.line.items ++ glyphs_of (codes_from (g.C.Core.cells l.core) l.first l.place)
