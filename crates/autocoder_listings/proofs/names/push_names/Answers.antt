use Rattle.std.proofs.Common.{◌∙◌, ◌++◌, ap, append_assoc}
use Rattle.autocoder_layout.specs.Source.{Source}
use Rattle.std.specs.List.{flat_map}
use Rattle.autocoder_layout.specs.declared.slots.Slot.{Slot}
use Rattle.autocoder.specs.Listing.{line_text}
use Rattle.autocoder_listings.specs.Names.{heading, lines_of_defined, table_of_names, users_on_line}
use Rattle.autocoder_listings.proofs.names.push_names.Goals as goal

pub returns : goal.returns
unfolding table_of_names
returns c =
    let layout = c.args.layout.now in
    let many = users_on_line c.args.width in
    let lines_are = c.lines-lines.ensures.lines ∙ ap (λ (s : Source). s.lines) c.source.ensures in
    let names = flat_map (λ (slot : Slot). lines_of_defined many layout.source.lines slot.defines) layout.slots in
    c.in_ok-push_all.ensures
    ∙ ap (λ n. c.push_line.new.text.items ++ flat_map (λ (slot : Slot). lines_of_defined n c.lines-lines.result.now slot.defines) c.slots.result.now) c.users_on_line-many.ensures
    ∙ ap (λ l. c.push_line.new.text.items ++ flat_map (λ (slot : Slot). lines_of_defined many l slot.defines) c.slots.result.now) lines_are
    ∙ ap (λ s. c.push_line.new.text.items ++ flat_map (λ (slot : Slot). lines_of_defined many layout.source.lines slot.defines) s) c.slots.ensures.slots
    ∙ ap (λ t. t ++ names) c.in_ok-push_line.ensures
    ∙ append_assoc c.args.text.now.items (line_text heading) names
