use Rattle.console.proofs.TalkLemmas.{Talking}
use Rattle.console.proofs.talking.console.Given as goal

abbrev pub invariant-loop : goal.invariant-loop
invariant-loop g l =
    Talking l.fn.session (g.R.Read.remaining l.fn.reader) (g.W.Write.contents l.fn.writer) l.session (g.R.Read.remaining l.reader) (g.W.Write.contents l.writer)
