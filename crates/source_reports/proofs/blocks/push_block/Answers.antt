use Rattle.std.proofs.Common.{◌≡◌, ◌∙◌, ◌-◌, ◌∷◌, [], ◌++◌, ap, get_or}
use Rattle.std.specs.Prelude.{slice_get, option_copied}
use Rattle.cards.specs.Files.{line_feed}
use Rattle.autocoder_layout.specs.Source.{Source, silent}
use Rattle.source_reports.specs.Blocks.{told_of, shown_on, line_at, block}
use Rattle.source_reports.specs.Hints.{hint_of}
use Rattle.source_reports.proofs.PieceLemmas.{four_pieces}
use Rattle.source_reports.proofs.blocks.push_block.Goals as goal

pub returns : goal.returns
unfolding block
returns c =
    let layout = c.args.layout.now in
    let source = c.args.source.now in
    let fault = c.args.fault.fault in
    let index = c.args.fault.card - 1 in
    let index_is = c.saturating_sub-index.ensures in
    let line_is : c.line_at-line.result ≡ line_at layout index =
    c.line_at-line.ensures.line
    ∙ ap (λ lines. get_or lines c.saturating_sub-index.result silent) (c.lines.ensures.lines ∙ ap (λ (s : Source). s.lines) c.source.ensures)
    ∙ ap (λ i. line_at layout i) index_is in
    four_pieces c.args.text.now.items (told_of c.args.fault)
    (hint_of layout source index (line_at layout index) fault)
    (line_feed ∷ [])
    (shown_on layout (line_at layout index) fault (slice_get c.args.source.now index))
    c.push_told.new.text.items c.push_hint.new.text.items c.push.new.self.items c.push_shown.new.text.items
    c.in_ok-push_told.ensures
    (c.in_ok-push_hint.ensures
    ∙ ap (λ i. c.push_told.new.text.items ++ hint_of layout source i c.line_at-line.result fault) index_is
    ∙ ap (λ l. c.push_told.new.text.items ++ hint_of layout source index l fault) line_is)
    c.in_ok-push.ensures.items
    (c.in_ok-push_shown.ensures
    ∙ ap (λ l. c.push.new.self.items ++ shown_on layout l fault (option_copied c.card_at.result)) line_is
    ∙ ap (λ card. c.push.new.self.items ++ shown_on layout (line_at layout index) fault card)
    (c.card_at.ensures ∙ ap (λ i. slice_get c.args.source.now i) index_is))
