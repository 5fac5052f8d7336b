use Rattle.std.proofs.Common.{◌∙◌, ap, List, ℕ, [], map, unwrap_or, ◌++◌}
use Rattle.std.specs.Prelude.{Option}
use Rattle.clap.specs.Words.{found_of}
use Rattle.clap.proofs.WalkLemmas.{raw_values-rows}
use Rattle.command_line.proofs.arguments.Found.values.Goals as goal

pub returns-in_ok-extend_from_slice-in-Some : goal.returns-in_ok-extend_from_slice-in-Some
returns-in_ok-extend_from_slice-in-Some c =
    let found = c.in-Some.ensures ∙ raw_values-rows (found_of c.args.self.now.matches) c.args.name.now in
    ap (λ items. map (λ s. s.now) items) c.in_ok-extend_from_slice-in-Some.ensures.items
    ∙ ap (λ items. map (λ s. s.now) (items ++ c.in-Some.values.now)) c.new-all.ensures.items
    ∙ ap (λ (o : Option (List (List ℕ))). unwrap_or o []) found

pub returns-in-None : goal.returns-in-None
returns-in-None c =
    let found = c.in-None.ensures ∙ raw_values-rows (found_of c.args.self.now.matches) c.args.name.now in
    ap (λ items. map (λ s. s.now) items) c.new.ensures.items
    ∙ ap (λ (o : Option (List (List ℕ))). unwrap_or o []) found
