use Rattle.std.proofs.Common.{◌∙◌, Ok, ap, sym}
use Rattle.machine.specs.Effect.{works_of}
use Rattle.machine.specs.declared.operations.Course.TheVariants.{GoesOn}
use Rattle.machine.proofs.KindLemmas.{same_i}
use Rattle.machine.proofs.at_once.move_and_go_on.Goals as goal

pub returns-clause-done : goal.returns-clause-done
returns-clause-done g c = λ _ units.
    let did = c.if-not-move_indexed.false in
    let s = g.C.Core.cells c.move_indexed.new.core in
    c.move_indexed.ensures.done did units
    ∙ ap (λ r. Ok (works_of s r units, GoesOn)) (sym (same_i c.move_indexed.new.registers c.args.next (c.move_indexed.ensures.next did)))
