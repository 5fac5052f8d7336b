use Rattle.std.proofs.Common.{◌∙◌, ◌++◌, ap, decimal}
use Rattle.pictures.proofs.CountedPieces.{last_piece, more}
use Rattle.job_pages.proofs.facts.push_machine.Goals as goal

pub returns : goal.returns
returns c =
    let o = c.args.out.now.items in
    let positions = c.in_ok-push_decimal.ensures ∙ ap (λ number. c.push_name.new.out.items ++ decimal number) c.positions.ensures.positions in
    last_piece c.extend_from_slice-2.result o _ _ _ _ (more o _ _ _ _ (more o _ _ _ _ (more o _ _ _ _ c.in_ok-push_name.ensures positions) c.in_ok-extend_from_slice.ensures.items) c.in_ok-push_starts.ensures) c.extend_from_slice-2.ensures.items
