use Rattle.std.proofs.Common.{◌≡◌, ◌++◌, take}
use Rattle.job_pages.specs.Facts.{further_words}
use Rattle.job_pages.proofs.facts.push_further.Given as goal

abbrev pub invariant-loop-switches : goal.invariant-loop-switches
invariant-loop-switches l = l.out.items ≡ l.fn.out.items ++ further_words (take l.switches-index l.further)
