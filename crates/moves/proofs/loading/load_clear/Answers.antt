use Rattle.std.proofs.Common.{◌≡◌, arith, true, refl, length}
use Rattle.std.proofs.lemmas.Bool.{lt-ltb}
use Rattle.core_store.specs.Operands.{are_inside}
use Rattle.moves.proofs.LoadingLemmas.{load_passes}
use Rattle.moves.proofs.loading.load_clear.Goals as goal

pub returns : goal.returns
returns g c = (
  λ _.
      let s = g.C.Core.cells c.args.core.now in
      let r = record c.args.registers.now { a = c.args.a; b = c.args.b } in
      let clear = c.requires in
      let known = c.in-Some.ensures in
      let inside : are_inside s c.args.a c.args.b ≡ true = rw (lt-ltb c.args.a (length s) clear.a_in, lt-ltb c.args.b (length s) clear.b_in) refl in
      load_passes s r c.in-Some.count inside known.field (omega (arith, known.most, clear.b_room)) known.apart
      (g.C.Core.cells c.load_near.new.core) c.load_near.ensures c.pass.new.self c.pass.ensures,
  λ no. absurd (cc),
)
