use Rattle.std.proofs.Common.{arith}
use Rattle.loader.specs.Cards.{loading_cards}
use Rattle.loader.specs.Decks.{runnable_deck}
use Rattle.job_pages.proofs.jobs.job_of.Goals as goal

pub machine_after-requires : goal.machine_after-requires
unfolding runnable_deck loading_cards
machine_after-requires c = rw (c.in_ok-copy.ensures, c.in_ok-deck.ensures.deck) (omega arith)
