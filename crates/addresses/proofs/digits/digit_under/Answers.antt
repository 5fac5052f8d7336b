use Rattle.std.proofs.Common.{◌≡◌, ◌+◌, ◌*◌, ◌∙◌, ap}
use Rattle.bcd.specs.Table.{digit_of, zone_of, zone_number}
use Rattle.addresses.specs.Digits.{digit_under}
use Rattle.addresses.proofs.DigitLemmas.{digit_number, digit_of-digit_under, zone_of-digit_under}
use Rattle.addresses.proofs.digits.digit_under.Goals as goal

character : (c : goal.After-unwrap) → c.unwrap.result ≡ digit_under c.args.zone c.args.digit
character c =
    rw c.unwrap.ensures at c.from_number.ensures.value
    ∙ ap (λ n. 16 * n + c.part_of.result) c.bits.ensures.bits
    ∙ ap (λ n. 16 * zone_number c.args.zone + n) c.part_of.ensures.part
    ∙ digit_number c.args.zone c.args.digit c.requires

pub returns-clause-character : goal.returns-clause-character
returns-clause-character c = character c

pub returns-clause-value : goal.returns-clause-value
returns-clause-value c = ap digit_of (character c) ∙ digit_of-digit_under c.args.zone c.args.digit c.requires

pub returns-clause-zone : goal.returns-clause-zone
returns-clause-zone c = ap zone_of (character c) ∙ zone_of-digit_under c.args.zone c.args.digit c.requires
