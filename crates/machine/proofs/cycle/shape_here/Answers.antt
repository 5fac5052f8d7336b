use Rattle.std.proofs.Common.{◌≡◌, ◌∙◌, Ok, ap, arith}
use Rattle.machine.specs.declared.cache.Entry.{Entry}
use Rattle.machine.specs.Shapes.{shape_at}
use Rattle.machine.proofs.ShapeDecoding.{shape_short}
use Rattle.machine.proofs.cycle.shape_here.Goals as goal

pub returns-then-is_kept-clause-shape : goal.returns-then-is_kept-clause-shape
returns-then-is_kept-clause-shape g c =
    let entry = c.slot.result.now in
    c.requires.kept c.if-is_kept.true entry ∙ ap (λ (e : Entry). Ok e.shape) (c.slot.ensures.place entry)

pub returns-then-is_kept-clause-below : goal.returns-then-is_kept-clause-below
returns-then-is_kept-clause-below g c =
    let s = g.C.Core.cells c.args.core.now in
    let i = c.args.registers.now.i in
    let entry = c.slot.result.now in
    let read : shape_at s i ≡ Ok entry.shape = c.requires.kept c.if-is_kept.true entry ∙ ap (λ (e : Entry). Ok e.shape) (c.slot.ensures.place entry) in
    omega (arith, shape_short s i entry.shape read, c.requires.below c.if-is_kept.true)
