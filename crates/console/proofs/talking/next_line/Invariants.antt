use Rattle.std.proofs.Common.{◌<◌, length}
use Rattle.console.proofs.LineLemmas.{Reading}
use Rattle.console.proofs.talking.next_line.Given as goal

abbrev pub invariant-loop-try : goal.invariant-loop-try
invariant-loop-try g l = record {
  reading : Reading (g.R.Read.remaining l.fn.reader) (g.R.Read.remaining l.reader) l.line.items;
  short : length l.line.items < 4096;
}
