use Rattle.std.proofs.Common.{◌∙◌, ap, sym}
use Rattle.autocoder_layout.specs.Source.{source_of}
use Rattle.autocoder_layout.specs.Layout.{laid_out}
use Rattle.autocoder.proofs.LoadingLaw.{can_be_loaded, rises}
use Rattle.autocoder.proofs.ProgramLemmas.{faults_are, program_is}
use Rattle.autocoder.proofs.program.assemble.Goals as goal

pub returns-then-has_some-clause-faults : goal.returns-then-has_some-clause-faults
returns-then-has_some-clause-faults c =
    let layout_is = c.in-Ok-of.ensures ∙ ap laid_out c.in-Ok.ensures in
    record {
      layout = layout_is;
      faults = faults_are (source_of c.args.deck.now) c.in-Ok-of.layout layout_is _ c.in-Ok-judge.ensures.faults;
      some = λ e. c.has_some.ensures.some c.if-has_some.true (c.deref.ensures.value ∙ e);
    }

pub returns-clause-faultless : goal.returns-clause-faultless
returns-clause-faultless c =
    let layout_is = c.in-Ok-of.ensures ∙ ap laid_out c.in-Ok.ensures in
    sym (faults_are (source_of c.args.deck.now) c.in-Ok-of.layout layout_is _ c.in-Ok-judge.ensures.faults) ∙ sym c.deref.ensures.value ∙ c.has_some.ensures.none c.if-has_some.false

pub returns-clause-program : goal.returns-clause-program
returns-clause-program c =
    let layout_is = c.in-Ok-of.ensures ∙ ap laid_out c.in-Ok.ensures in
    program_is (source_of c.args.deck.now) c.in-Ok-of.layout layout_is _ c.start_of-start.result c.in-Ok-judge.ensures.image c.start_of-start.ensures

pub returns-clause-loadable : goal.returns-clause-loadable
returns-clause-loadable c = can_be_loaded (source_of c.args.deck.now) _ (returns-clause-program c) (returns-clause-faultless c)

pub returns-clause-rising : goal.returns-clause-rising
returns-clause-rising c = rises (source_of c.args.deck.now) _ (returns-clause-program c)

pub invariant_of-result : goal.invariant_of-result
invariant_of-result c =
    let source = source_of c.args.deck.now in
    let layout_is = c.in-Ok-of.ensures ∙ ap laid_out c.in-Ok.ensures in
    let is_program = program_is source c.in-Ok-of.layout layout_is _ c.start_of-start.result c.in-Ok-judge.ensures.image c.start_of-start.ensures in
    let faultless = sym (faults_are source c.in-Ok-of.layout layout_is _ c.in-Ok-judge.ensures.faults) ∙ sym c.deref.ensures.value ∙ c.has_some.ensures.none c.if-has_some.false in
    (can_be_loaded source _ is_program faultless, rises source _ is_program)
