use Rattle.std.proofs.Common.{◌≡◌, ◌+◌, ◌∙◌, refl, ap, arith, length}
use Rattle.core_store.proofs.PlaneLemmas.{length-joined}
use Rattle.core_store.proofs.PlaneStretches.{cells_cleared, both_written_back, filled_as}
use Rattle.core_store.proofs.planes.PlaneCoreCore.clear.Goals as goal

pub returns : goal.returns
returns c =
    let core = c.args.self.now in
    let codes = c.fill.new.plane in
    let marks = c.fill-2.new.plane in
    let long = length-joined core.codes.items core.marks.items core.even in
    let size : length codes ≡ length core.codes.items = c.fill.ensures.size ∙ ap length c.deref_mut.ensures.value in
    let size' : length marks ≡ length core.marks.items = c.fill-2.ensures.size ∙ ap length c.deref_mut-2.ensures.value in
    both_written_back core.codes.len codes core.codes.items size (omega arith) core.marks.len marks core.marks.items size' (omega arith)
    ∙ cells_cleared core.codes.items core.marks.items codes marks c.args.first c.args.last core.even c.requires.order (omega (arith, long)) size size'
    (filled_as core.codes.items c.deref_mut.result.now codes c.args.first (c.args.last + 1) _ 0 c.deref_mut.ensures.value (c.number.ensures.same ∙ c.blank.ensures) c.fill.ensures.filled c.fill.ensures.kept)
    (filled_as core.marks.items c.deref_mut-2.result.now marks c.args.first (c.args.last + 1) 0 0 c.deref_mut-2.ensures.value refl c.fill-2.ensures.filled c.fill-2.ensures.kept)
