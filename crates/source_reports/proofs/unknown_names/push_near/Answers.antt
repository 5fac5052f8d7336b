use Rattle.std.proofs.Common.{◌∙◌, ◌++◌, ap}
use Rattle.std.specs.Prelude.{codes, decimal}
use Rattle.source_reports.specs.Names.{name_text}
use Rattle.source_reports.proofs.PieceLemmas.{three_pieces}
use Rattle.source_reports.proofs.unknown_names.push_near.Goals as goal

pub returns : goal.returns
returns c =
    three_pieces c.args.text.now.items (codes "; did you mean ") (name_text c.args.known.now.name)
    (codes " (card " ++ decimal c.args.known.now.card ++ codes ")?")
    c.push_text.new.text.items c.push_name.new.text.items c.push_text-2.new.text.items
    c.in_ok-push_text.ensures c.in_ok-push_name.ensures
    (c.in_ok-push_text-2.ensures ∙ ap (λ piece. c.push_name.new.text.items ++ piece) (c.as_str.ensures.value ∙ c.in_ok-told.ensures.ok))
