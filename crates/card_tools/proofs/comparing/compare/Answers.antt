use Rattle.std.proofs.Common.{refl}
use Rattle.card_tools.proofs.comparing.compare.Goals as goal

pub returns-clause-text : goal.returns-clause-text
returns-clause-text c =
    rw (c.in_ok-push_sum.ensures, c.in_ok-push_only-2.ensures, c.in_ok-push_only.ensures, c.in_ok-among.ensures.shown, c.new-text.ensures.items, c.in_ok-among.ensures.differing, c.saturating_sub.ensures, c.saturating_sub-2.ensures) refl
