use Rattle.std.proofs.Common.{◌∙◌, ap}
use Rattle.machine.specs.Shapes.{operands_at}
use Rattle.machine.proofs.KindLemmas.{one_placed, two_placed}
use Rattle.machine.proofs.cache.fixed_positions.Goals as goal

pub returns-in_ok-first-in-One : goal.returns-in_ok-first-in-One
returns-in_ok-first-in-One c =
    let first = c.in_ok-first-in-One in
    record {
      a_in = first.ensures.inside;
      b_in = first.ensures.inside;
      operands = λ s r same. ap (operands_at s r) c.in-One.is ∙ one_placed s r c.in-One.address first.first (first.ensures.position s same);
    }

pub returns-in_ok-second-in-Two : goal.returns-in_ok-second-in-Two
returns-in_ok-second-in-Two c =
    let first = c.in_ok-first-in-Two in
    let second = c.in_ok-second-in-Two in
    record {
      a_in = first.ensures.inside;
      b_in = second.ensures.inside;
      operands = λ s r same. ap (operands_at s r) c.in-Two.is ∙ two_placed s r c.in-Two.address c.in-Two.other first.first second.second (first.ensures.position s same) (second.ensures.position s same);
    }
