use Rattle.std.proofs.Common.{◌≡◌, take}
use Rattle.cards.specs.Files.{text_of}
use Rattle.job_archives.proofs.punched.text_of_cards.Given as goal

abbrev pub invariant-loop-card : goal.invariant-loop-card
invariant-loop-card l = l.out.items ≡ text_of (take l.card-index l.cards)
