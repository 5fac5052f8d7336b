use Rattle.std.proofs.Common.{◌+◌, ◌*◌, ◌/◌, ◌^◌, ◌∙◌, ap, arith}
use Rattle.std.specs.Int.{w64, swap_bytes}
use Rattle.std.specs.Simd.Lanes.{digits_l}
use Rattle.arith.proofs.WordHalves.{halves_split}
use Rattle.arith.proofs.words.bytes.Goals as goal

pub returns : goal.returns
returns c =
    ap (λ x. digits_l 256 16 (x + 2 ^ 64 * (c.swap_bytes-2.result + 2 ^ 64 * 0))) c.swap_bytes.ensures
    ∙ ap (λ y. digits_l 256 16 (swap_bytes w64 (c.args.word / 2 ^ 64) + 2 ^ 64 * (y + 2 ^ 64 * 0))) c.swap_bytes-2.ensures
    ∙ halves_split c.args.word (omega arith)
