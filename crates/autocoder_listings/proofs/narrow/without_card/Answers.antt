use Rattle.std.proofs.Common.{◌∙◌, ◌++◌, ◌-◌, ℕ, List, length, take, drop, ap, ap₂, arith, take_all}
use Rattle.std.proofs.lemmas.List.{take_min, drop_min, length-drop}
use Rattle.autocoder_listings.proofs.narrow.without_card.Goals as goal

pub returns : goal.returns
returns c =
    let line = c.args.line.now in
    let n = c.min-2.result in
    c.in_ok-extend_from_slice.ensures.items
    ∙ ap₂ (λ (a b : List ℕ). a ++ b) (c.in_ok-shorter.ensures.items ∙ ap (λ n. take n line) c.min.ensures ∙ take_min 10 line)
    (take_all (length line - n) (drop n line) (omega (arith, length-drop n line)) ∙ ap (λ n. drop n line) c.min-2.ensures ∙ drop_min 91 line)
