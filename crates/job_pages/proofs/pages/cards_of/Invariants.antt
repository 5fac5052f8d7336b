use Rattle.std.proofs.Common.{◌≡◌, take}
use Rattle.job_pages.specs.Shown.{cards_of}
use Rattle.job_pages.proofs.pages.cards_of.Given as goal

abbrev pub invariant-loop-one : goal.invariant-loop-one
invariant-loop-one l = l.cards.items ≡ cards_of (take l.one-index l.punched)
