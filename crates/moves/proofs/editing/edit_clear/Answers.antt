use Rattle.std.proofs.Common.{◌≡◌, true, refl, length}
use Rattle.std.proofs.lemmas.Bool.{lt-ltb}
use Rattle.core_store.specs.Operands.{are_inside}
use Rattle.moves.proofs.EditingNear.{edit_passes}
use Rattle.moves.proofs.editing.edit_clear.Goals as goal

pub returns : goal.returns
returns g c = (
  λ _.
      let s = g.C.Core.cells c.args.core.now in
      let r = record c.args.registers.now { a = c.args.a; b = c.args.b } in
      let clear = c.requires in
      let known = c.in-Some.ensures in
      let inside : are_inside s c.args.a c.args.b ≡ true = rw (lt-ltb c.args.a (length s) clear.a_in, lt-ltb c.args.b (length s) clear.b_in) refl in
      edit_passes s r c.in-Some.counts.a c.in-Some.counts.b inside known.control known.cut known.apart
      (g.C.Core.cells c.fill_near.new.core) (g.C.Core.cells c.clear_mark.new.self) c.fill_near.ensures.codes c.clear_mark.ensures c.pass.new.self c.pass.ensures,
  λ no. absurd (cc),
)
