use Rattle.std.proofs.Common.{◌≡◌, ◌∙◌, ◌++◌, ◌-◌, [], ap, length, length-drop, drop, take, arith, append-nil}
use Rattle.std.proofs.lemmas.List.{nil_from_length}
use Rattle.card_tools.proofs.numbering.with_columns.Goals as goal

pub returns : goal.returns
returns c =
    let none : drop (length c.args.card.now.0 - 72) (drop 72 c.args.card.now.0) ≡ [] = nil_from_length _ (omega (arith, length-drop (length c.args.card.now.0 - 72) (drop 72 c.args.card.now.0), length-drop 72 c.args.card.now.0)) in
    ap (λ end. take 72 c.args.card.now.0 ++ (c.copy_from_slice.new.self ++ end)) none
    ∙ ap (λ end. take 72 c.args.card.now.0 ++ end) (append-nil c.copy_from_slice.new.self ∙ c.copy_from_slice.ensures.after)
