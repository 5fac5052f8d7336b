use Rattle.std.proofs.Common.{◌≡◌, ◌∙◌, ◌≤◌, ap, sym, arith, refl, length}
use Rattle.std.proofs.lemmas.List.{length-replicate}
use Rattle.core_store.specs.Storage.{positions_of}
use Rattle.machine.specs.Run.{first_card}
use Rattle.machine.proofs.InRange.{loaded_in_range}
use Rattle.core_store.proofs.SizeLemmas.{within}
use Rattle.machine.proofs.Steps.{length-loaded}
use Rattle.machine.proofs.runs.Machine.load.Goals as goal

pub invariant_of-parts : goal.invariant_of-parts
invariant_of-parts g c =
    let s = g.C.Core.cells c.in_ok-core.core in
    let long : length s ≡ positions_of c.args.size = length-loaded s c.args.size (first_card c.args.deck) c.in_ok-core.ensures in
    let most : 1400 ≤ positions_of c.args.size = (within c.args.size).0 in
    omega arith

pub invariant_of-result : goal.invariant_of-result
invariant_of-result g c =
    let s = g.C.Core.cells c.in_ok-core.core in (
      rw (c.in_ok-core.ensures, c.first_registers.ensures, c.first_units.ensures)
          (loaded_in_range c.args.deck c.args.size c.args.switches c.args.profile c.requires),
      length-loaded s c.args.size (first_card c.args.deck) c.in_ok-core.ensures ∙ sym (ap length c.in_ok-spare.ensures ∙ length-replicate (positions_of c.args.size) _),
    )

pub returns : goal.returns
returns g c =
    rw (c.in_ok-core.ensures, c.first_registers.ensures, c.first_units.ensures) refl
