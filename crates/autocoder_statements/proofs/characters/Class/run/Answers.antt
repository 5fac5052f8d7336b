use Rattle.std.proofs.Common.{◌≡◌, length, drop, arith, sym, ◌∙◌, ap}
use Rattle.autocoder_statements.specs.Characters.{run}
use Rattle.autocoder_statements.proofs.CharacterLemmas.{run_stops, run_goes, run_ends}
use Rattle.autocoder_statements.proofs.characters.Class.run.Goals as goal

pub returns-then-not-has-clause-run : goal.returns-then-not-has-clause-run
returns-then-not-has-clause-run c = omega (arith, run_stops c.args.self c.args.text.now c.loop-count.count c.index-text-count.result c.loop-count-test.true c.index-text-count.is (sym c.has.ensures ∙ c.if-not-has.true))

pub loop-count-preserved : goal.loop-count-preserved
loop-count-preserved c = omega (arith, run_goes c.args.self c.args.text.now c.loop-count.count c.index-text-count.result c.loop-count-test.true c.index-text-count.is (sym c.has.ensures ∙ c.if-not-has.false))

pub returns-clause-run : goal.returns-clause-run
returns-clause-run c =
    let e : c.loop-count.count ≡ length c.args.text.now = omega arith in
    sym e ∙ omega (arith, ap (λ n. run c.args.self (drop n c.args.text.now)) e ∙ run_ends c.args.self c.args.text.now)
