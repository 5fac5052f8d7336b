use Rattle.std.proofs.Common.{◌≡◌, ◌==◌, false}
use Rattle.std.proofs.lemmas.Bool.{ne_eqb}
use Rattle.pictures.proofs.CountedPieces.{last_piece, more}
use Rattle.films.proofs.pages.push_steps.Goals as goal

pub returns : goal.returns
returns c =
    let o = c.args.out.now.items in
    let some : (c.args.steps == 0) ≡ false = ne_eqb c.args.steps 0 c.if-steps-eq0.false in
    rw some (last_piece c.extend_from_slice-2.result o _ _ _ _ (more o _ _ _ _ c.in_ok-push_number_between.ensures c.in_ok-push_decimal.ensures) c.extend_from_slice-2.ensures.items)
