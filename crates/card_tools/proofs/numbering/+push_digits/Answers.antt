use Rattle.std.proofs.Common.{append_assoc}
use Rattle.card_tools.proofs.NumberLaw.{digits_on}
use Rattle.card_tools.proofs.numbering.+push_digits.Goals as goal

pub returns : goal.returns
returns t c =
    rw (c.in_ok-push.ensures.items, c.in_ok-push_digits.ensures, c.digit_character.ensures, digits_on c.args.count c.args.number c.if-count-eq0.false) (simp append_assoc)
