use Rattle.std.proofs.Common.{◌++◌, ◌∙◌, ap}
use Rattle.std.specs.List.{flat_map}
use Rattle.films.specs.Changes.{number_items}
use Rattle.films.specs.Texts.{card_words, items_text, line_words}
use Rattle.pictures.proofs.CountedPieces.{at_end}
use Rattle.films.proofs.ItemLemmas.{items_together}
use Rattle.films.proofs.items.push_items.Goals as goal

pub returns-clause-text : goal.returns-clause-text
returns-clause-text g c =
    let o = c.args.out.now.items in
    let numbers = c.in_ok-push_numbers.ensures ∙ ap (λ now. o ++ items_text (number_items c.args.shown.now.numbers now)) c.numbers_of.ensures in
    let lines = c.in_ok-push_lines.ensures ∙ ap (λ lines. c.push_numbers.new.out.items ++ flat_map line_words lines) c.lines_from.ensures in
    let cards = c.in_ok-push_cards.ensures ∙ ap (λ cards. c.push_lines.new.out.items ++ flat_map card_words cards) c.cards_from.ensures in
    at_end c.push_storage.result c.push_storage.ensures.text (λ last. items_together _ _ _ _ o _ _ _ _ numbers lines cards last)
