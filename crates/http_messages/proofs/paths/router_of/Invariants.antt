use Rattle.std.proofs.Common.{◌≡◌, take}
use Rattle.http_messages.specs.Paths.{paths, routed}
use Rattle.http_messages.proofs.paths.router_of.Given as goal

abbrev pub invariant-loop-entry : goal.invariant-loop-entry
invariant-loop-entry l = l.router ≡ routed (take l.entry-index paths)
