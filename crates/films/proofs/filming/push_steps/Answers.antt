use Rattle.std.proofs.Common.{◌≡◌, ◌++◌, ◌∙◌, ap, arith, length, sym, true, false}
use Rattle.std.specs.Prelude.{option_copied}
use Rattle.machine.specs.Run.{State, after, attempts, is_running, step}
use Rattle.films.specs.Frames.{cards_before, lines_before, shown_of}
use Rattle.films.specs.Texts.{step_line}
use Rattle.films.proofs.StepLemmas.{after_none, asked_more, attempts_none, cards_here, change_more, goes_on, held_first, held_on, is_most, lines_here, next_is, stops}
use Rattle.films.proofs.filming.push_steps.Goals as goal

pub loop-made-init : goal.loop-made-init
loop-made-init g c = record {
  machine = after_none c.args.machine.now;
  attempts = attempts_none c.args.machine.now;
  lines = c.requires.first;
  fits = omega (arith, c.requires.fits, ap length c.requires.first);
  shown = c.of-shown.ensures ∙ ap shown_of c.parts.ensures.picture;
  storage = c.requires.storage;
  characters = held_first c.args.machine.now c.requires.characters;
}

pub returns-then-not-runs-clause-machine : goal.returns-then-not-runs-clause-machine
returns-then-not-runs-clause-machine g c =
    let off : is_running (after c.args.machine.now c.loop-made.made).standing ≡ false = sym
    (c.runs.ensures ∙ ap (λ (x : State). is_running x.standing) (c.parts-in-loop-made.ensures.picture ∙ c.loop-made.invariant.machine))
    ∙ c.if-not-runs.true in
    c.loop-made.invariant.machine ∙ (stops c.args.machine.now c.loop-made.made c.args.limit (omega arith) off c.loop-made.invariant.attempts).0

pub returns-then-not-runs-clause-steps : goal.returns-then-not-runs-clause-steps
returns-then-not-runs-clause-steps g c =
    let off : is_running (after c.args.machine.now c.loop-made.made).standing ≡ false = sym
    (c.runs.ensures ∙ ap (λ (x : State). is_running x.standing) (c.parts-in-loop-made.ensures.picture ∙ c.loop-made.invariant.machine))
    ∙ c.if-not-runs.true in
    (stops c.args.machine.now c.loop-made.made c.args.limit (omega arith) off c.loop-made.invariant.attempts).1

pub returns-then-len-gt-MOST_BYTES-clause-too_long : goal.returns-then-len-gt-MOST_BYTES-clause-too_long
returns-then-len-gt-MOST_BYTES-clause-too_long g c =
    let m = c.args.machine.now in
    let made = c.loop-made.made in
    let on : is_running (after m made).standing ≡ true = sym
    (c.runs.ensures ∙ ap (λ (x : State). is_running x.standing) (c.parts-in-loop-made.ensures.picture ∙ c.loop-made.invariant.machine))
    ∙ c.if-not-runs.false in
    let line = c.in_ok-push_step.ensures.line (lines_before m) (cards_before m) (lines_here m c.loop-made.machine made c.loop-made.invariant.machine) (cards_here m c.loop-made.machine made c.loop-made.invariant.machine)
    ∙ ap (λ (x : State). c.loop-made.out.items ++ step_line (option_copied c.args.names) (lines_before m) (cards_before m) x) c.loop-made.invariant.machine in
    let next = change_more (option_copied c.args.names) m made c.loop-made.out.items c.push_step.new.out.items c.loop-made.invariant.lines line in
    is_most (option_copied c.args.names) m (attempts m c.args.limit) made c.push_step.new.out.items (asked_more m made c.args.limit (omega (arith, c.loop-made-test.true)) (goes_on m made on c.loop-made.invariant.attempts))
    (omega (arith, c.loop-made.invariant.fits, ap length c.loop-made.invariant.lines)) next (omega (arith, c.if-len-gt-MOST_BYTES.true, c.len.ensures))

pub loop-made-preserved : goal.loop-made-preserved
loop-made-preserved g c =
    let m = c.args.machine.now in
    let made = c.loop-made.made in
    let on : is_running (after m made).standing ≡ true = sym
    (c.runs.ensures ∙ ap (λ (x : State). is_running x.standing) (c.parts-in-loop-made.ensures.picture ∙ c.loop-made.invariant.machine))
    ∙ c.if-not-runs.false in
    let line = c.in_ok-push_step.ensures.line (lines_before m) (cards_before m) (lines_here m c.loop-made.machine made c.loop-made.invariant.machine) (cards_here m c.loop-made.machine made c.loop-made.invariant.machine)
    ∙ ap (λ (x : State). c.loop-made.out.items ++ step_line (option_copied c.args.names) (lines_before m) (cards_before m) x) c.loop-made.invariant.machine in
    let is_next = c.in_ok-push_step.ensures.machine ∙ ap step c.loop-made.invariant.machine ∙ next_is m made in
    record {
      machine = is_next;
      attempts = goes_on m made on c.loop-made.invariant.attempts;
      lines = change_more (option_copied c.args.names) m made c.loop-made.out.items c.push_step.new.out.items c.loop-made.invariant.lines line;
      fits = omega (arith, c.if-len-gt-MOST_BYTES.false, c.len.ensures);
      shown = c.in_ok-push_step.ensures.shown;
      storage = c.in_ok-push_step.ensures.storage;
      characters = held_on m c.push_step.new.machine made is_next c.loop-made.invariant.characters c.in_ok-push_step.ensures.characters;
    }
