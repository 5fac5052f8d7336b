use Rattle.std.proofs.Common.{◌+◌, ◌*◌, ◌%◌, ◌^◌, ◌∙◌, ap}
use Rattle.std.specs.Int.{w64, swap_bytes}
use Rattle.std.specs.Simd.Lanes.{number_l}
use Rattle.arith.proofs.WordHalves.{halves_joined}
use Rattle.arith.proofs.words.word.Goals as goal

pub returns : goal.returns
returns c =
    ap (λ x. x * 2 ^ 64 + c.swap_bytes-2.result) c.swap_bytes.ensures
    ∙ ap (λ y. swap_bytes w64 (number_l 256 c.args.digits % 2 ^ 64) * 2 ^ 64 + y) c.swap_bytes-2.ensures
    ∙ halves_joined c.args.digits c.requires.sixteen c.requires.digits
