use Rattle.std.proofs.Common.{◌≡◌, ◌≤◌, [], arith, length, rules, subst, take}
use Rattle.std.proofs.lemmas.List.{length-take}
use Rattle.httparse.specs.Spans.{IsRequestOf, IsRequestWithin}
use Rattle.http_messages.specs.Reading.{ComesTo}
use Rattle.http_messages.proofs.HeadVerdicts.{judged, too_large}
use Rattle.http_messages.proofs.head.Head.verdict.Goals as goal

pub returns-in-Whole-clause-verdict : goal.returns-in-Whole-clause-verdict
returns-in-Whole-clause-verdict c input rest read =
    let head = c.args.self.now in
    let room : length head.fields ≡ 64 = search rules in
    let short : length (take head.filled head.bytes) ≤ 8192 = omega (arith, head.within, length-take head.filled head.bytes) in
    let come : IsRequestOf (take head.filled head.bytes) head.fields c.in-Whole.spans × IsRequestWithin (take head.filled head.bytes) head.fields c.in-Whole.spans =
    subst (ComesTo (take head.filled head.bytes) head.fields 8192 (rest ≡ [])) c.in-Whole.is read.1 in
    judged c.verdict_on.result input (take head.filled head.bytes) rest head.fields c.in-Whole.spans room short read.0 come.0 come.1 c.verdict_on.ensures

pub returns-in-TooManyFields-clause-verdict : goal.returns-in-TooManyFields-clause-verdict
returns-in-TooManyFields-clause-verdict c input rest read =
    let head = c.args.self.now in
    too_large input (take head.filled head.bytes) rest head.fields head.outcome c.in-TooManyFields.is read.0 read.1
