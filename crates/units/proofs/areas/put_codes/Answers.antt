use Rattle.std.proofs.Common.{◌≡◌, ◌∙◌, ◌+◌, ◌-◌, ◌*◌, ap, arith, length, rules}
use Rattle.core_store.specs.Storage.{put_codes}
use Rattle.units.proofs.AreaLemmas.{write_block, write_none}
use Rattle.units.proofs.areas.put_codes.Goals as goal

pub loop-block-init : goal.loop-block-init
loop-block-init g c = let long : length c.args.codes.now ≡ 80 = search rules in write_none _ c.args.codes.now c.args.first 80 (omega (arith, long))

pub loop-block-preserved : goal.loop-block-preserved
loop-block-preserved g c =
    let place = (c.loop-block.block - 1) * 16 in
    let here : c.args.first + (place + 15) - 15 ≡ c.args.first + place = omega arith in
    let long : length c.args.codes.now ≡ 80 = search rules in
    write_block _ _ _ c.args.codes.now c.lanes_at.result c.args.first place (c.loop-block.block * 16) (omega (arith, c.loop-block-test.true)) (omega (arith, long, c.loop-block.auto.block)) c.lanes_at.ensures.lanes c.loop-block.invariant
    (c.put_near_codes.ensures ∙ ap (λ n. put_codes (g.C.Core.cells c.loop-block.core) n c.lanes_at.result) here)
