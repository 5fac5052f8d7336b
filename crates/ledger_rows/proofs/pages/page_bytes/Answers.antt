use Rattle.std.proofs.Common.{◌+◌, ◌*◌, ◌≤◌, ◌∙◌, arith, length, refl}
use Rattle.std.proofs.lemmas.List.{length-set}
use Rattle.ledger_rows.proofs.PageBytes.{bytes_more, bytes_all}
use Rattle.ledger_rows.proofs.StorageCells.{same_byte}
use Rattle.ledger_rows.proofs.pages.page_bytes.Goals as goal

pub overflow_mul-first : goal.overflow_mul-first
overflow_mul-first g c = omega (arith, c.requires.page, c.requires.limit)

pub overflow_add-position : goal.overflow_add-position
overflow_add-position g c = omega (arith, c.requires.page, c.requires.limit, c.loop-place-test.true)

pub loop-place-preserved : goal.loop-place-preserved
loop-place-preserved g c =
    let s = g.C.Core.cells c.args.core.now in
    let k = c.args.page in
    let place = c.loop-place.place in
    let fits : k * 100 + 100 ≤ length s = omega (arith, c.requires.page) in
    let is = same_byte s (k * 100 + place) c.get.result c.is_marked.result c.cell_byte.result c.get.ensures c.is_marked.ensures c.cell_byte.ensures in
    let size = c.loop-place.invariant.size in
    record {
      size = length-set c.loop-place.bytes place c.cell_byte.result ∙ size;
      filled = bytes_more s k fits place c.cell_byte.result c.loop-place.bytes _ (omega (arith, c.loop-place-test.true)) (omega (arith, c.loop-place-test.true, size)) is c.loop-place.invariant.filled refl;
    }

pub returns : goal.returns
returns g c =
    let s = g.C.Core.cells c.args.core.now in
    let k = c.args.page in
    let fits : k * 100 + 100 ≤ length s = omega (arith, c.requires.page) in
    bytes_all s k fits c.loop-place.place c.loop-place.bytes (omega (arith, c.loop-place-test.false)) c.loop-place.invariant.size c.loop-place.invariant.filled
