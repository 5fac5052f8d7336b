use Rattle.std.proofs.Common.{◌-◌, arith, Bool, subst}
use Rattle.console.specs.Talks.{IsPart}
use Rattle.console.proofs.LineLemmas.{last_found, part_given}
use Rattle.console.proofs.talking.next_line.Goals as goal

pub returns-then-branch-clause-line : goal.returns-then-branch-clause-line
returns-then-branch-clause-line g c =
    let left = g.R.Read.remaining c.args.reader.now in
    let mid = g.R.Read.remaining c.loop-try.reader in
    let rest = g.R.Read.remaining c.read_part.new.reader in
    let room = 4096 - c.len-room.result in
    let part = subst (λ (last : Bool). IsPart mid rest c.loop-try.line.items c.read_part.new.line.items room last) c.if-branch.true c.in_ok-read_part.ensures.part in
    last_found (λ v. v.items) left mid rest c.loop-try.line.items c.read_part.new.line.items room c.loop-try.invariant.reading part c.unless_empty.result
    (omega (arith, c.loop-try.invariant.short, c.len-room.ensures)) c.unless_empty.ensures

pub returns-then-branch-clause-given : goal.returns-then-branch-clause-given
returns-then-branch-clause-given g c =
    part_given (g.R.Read.remaining c.args.reader.now) (g.R.Read.remaining c.loop-try.reader) (g.R.Read.remaining c.read_part.new.reader) c.loop-try.line.items
    c.read_part.new.line.items (4096 - c.len-room.result) c.loop-try.invariant.reading c.in_ok-read_part.field-0 c.in_ok-read_part.ensures.part
