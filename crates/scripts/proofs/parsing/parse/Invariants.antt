use Rattle.std.proofs.Common.{◌+◌, ◌≤◌, length}
use Rattle.scripts.specs.Scripts.{Leads}
use Rattle.scripts.proofs.parsing.parse.Given as goal

abbrev pub invariant-loop-rest : goal.invariant-loop-rest
invariant-loop-rest l = record {
  short : length l.bytes ≤ 4000000;
  within : l.lines + length l.rest ≤ length l.bytes;
  leads : Leads l.bytes l.commands.items l.lines l.rest;
}

abbrev pub decreases-loop-rest : goal.decreases-loop-rest
decreases-loop-rest l = length l.rest
