use Rattle.std.proofs.Common.{ap, arith, length}
use Rattle.std.specs.Prelude.{option_copied}
use Rattle.machine.specs.Run.{attempts}
use Rattle.films.proofs.StepLemmas.{first_is, none_fits}
use Rattle.films.proofs.filming.push_changes.Goals as goal

pub returns-then-len-gt-MOST_BYTES-clause-too_long : goal.returns-then-len-gt-MOST_BYTES-clause-too_long
returns-then-len-gt-MOST_BYTES-clause-too_long g c =
    let is = first_is (option_copied c.args.names) c.args.machine.now c.parts.result.now c.args.out.now.items c.push_first.new.out.items c.requires.empty c.parts.ensures.picture c.in_ok-push_first.ensures.text in
    none_fits (option_copied c.args.names) c.args.machine.now (attempts c.args.machine.now c.args.limit) c.push_first.new.out.items is (omega (arith, c.if-len-gt-MOST_BYTES.true, c.len.ensures))

pub push_steps-requires-clause-first : goal.push_steps-requires-clause-first
push_steps-requires-clause-first g c =
    first_is (option_copied c.args.names) c.args.machine.now c.parts.result.now c.args.out.now.items c.push_first.new.out.items c.requires.empty c.parts.ensures.picture c.in_ok-push_first.ensures.text

pub push_steps-requires-clause-fits : goal.push_steps-requires-clause-fits
push_steps-requires-clause-fits g c =
    let is = first_is (option_copied c.args.names) c.args.machine.now c.parts.result.now c.args.out.now.items c.push_first.new.out.items c.requires.empty c.parts.ensures.picture c.in_ok-push_first.ensures.text in
    omega (arith, ap length is, c.if-len-gt-MOST_BYTES.false, c.len.ensures)
