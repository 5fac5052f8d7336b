use Rattle.std.proofs.Common.{arith, sym, ◌∙◌, ◌≡◌, length, vec_len}
use Rattle.std.proofs.lemmas.List.{nil_from_length}
use Rattle.card_texts.proofs.DeckLaw.{taken_is_deck}
use Rattle.card_texts.proofs.PunchingLemmas.{is_zero}
use Rattle.card_texts.proofs.punching.punch.Goals as goal

pub returns-then-is_empty-clause-cards : goal.returns-then-is_empty-clause-cards
returns-then-is_empty-clause-cards c =
    let many = is_zero (vec_len c.take_lines.new.taken.faults) c.if-is_empty.ensures in
    let empty : length c.take_lines.new.taken.faults.items ≡ 0 = omega (arith, many, c.take_lines.new.taken.faults.ok.0) in
    let none = sym c.in_ok-take_lines.ensures.faults ∙ nil_from_length _ empty in
    taken_is_deck c.args.rules.now c.args.text.now c.take_lines.new.taken.text.items none (c.in_ok-take_lines.ensures.text none)
