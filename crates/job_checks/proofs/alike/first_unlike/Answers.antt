use Rattle.std.proofs.Common.{◌≡◌, ◌<◌, ◌≤◌, length, get_or, refl, arith, rules}
use Rattle.job_checks.proofs.AlikeLemmas.{all_agree, agree_next}
use Rattle.job_checks.proofs.alike.first_unlike.Goals as goal

pub loop-at-init : goal.loop-at-init
loop-at-init g c = (λ it. it, λ it. it)

pub loop-at-preserved : goal.loop-at-preserved
loop-at-preserved g c =
    let short : c.loop-at.at < length c.args.others.now = search rules in
    let one : get_or c.args.parts.now c.loop-at.at c.index-parts-at.result ≡ c.index-parts-at.result = search rules in
    let other : get_or c.args.others.now c.loop-at.at c.in-Some.other.now ≡ c.in-Some.other.now = search rules in
    agree_next g.T.Part.Is c.index-parts-at.result c.in-Some.other.now c.args.parts.now c.args.others.now c.loop-at.at (omega arith) short one other (search rules) c.loop-at.invariant

pub returns-in-None-clause-none : goal.returns-in-None-clause-none
returns-in-None-clause-none g c =
    let past : length c.args.others.now ≤ length c.args.parts.now = search rules in
    (λ _. all_agree g.T.Part.Is c.args.parts.now c.args.others.now c.loop-at.at (omega arith) (omega arith) c.loop-at.invariant, λ _. refl)
