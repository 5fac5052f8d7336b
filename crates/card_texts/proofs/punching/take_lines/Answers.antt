use Rattle.std.proofs.Common.{arith, sym, ap, subst, ◌∙◌, ◌≡◌, append-nil, ◌++◌, length}
use Rattle.card_texts.specs.Punching.{HasTaken, faults_of_lines, cards_of_lines, faults_of}
use Rattle.card_texts.proofs.PunchingLemmas.{IsLooked, faults_step, cards_step, full_step, room_step, some_fault, is_zero, no_lines}
use Rattle.card_texts.proofs.punching.take_lines.Goals as goal

full : (c : goal.After-drop-line-then-not-branch-2)
    → c.take_line.new.taken.faults.items ≡ faults_of c.args.rules.now c.args.text.now
full c =
    let looked : IsLooked c.args.rules.now c.loop-rest.number c.split_line.result.0.now c.look.new.self =
    record { columns = c.in_ok-look.ensures.columns; faults = c.in_ok-look.ensures.faults } in
    let taken = subst (λ more. HasTaken c.args.rules.now c.loop-rest.number c.look.new.self c.loop-rest.taken c.take_line.new.taken more) c.if-not-branch.true c.in_ok-take_line.ensures in
    full_step c.args.rules.now c.loop-rest.number c.split_line.result.0.now c.loop-rest.rest.now c.split_line.result.1.now c.look.new.self c.loop-rest.taken c.take_line.new.taken _ looked c.split_line.ensures.line taken c.loop-rest.invariant.faults

pub returns-then-not-branch-clause-faults : goal.returns-then-not-branch-clause-faults
returns-then-not-branch-clause-faults c = full c

pub returns-then-not-branch-clause-text : goal.returns-then-not-branch-clause-text
returns-then-not-branch-clause-text c = λ none.
    let taken = subst (λ more. HasTaken c.args.rules.now c.loop-rest.number c.look.new.self c.loop-rest.taken c.take_line.new.taken more) c.if-not-branch.true c.in_ok-take_line.ensures in
    absurd (some_fault c.loop-rest.taken.faults.items c.take_line.new.taken.faults.items (faults_of c.args.rules.now c.args.text.now) _ taken.1.faults (full c) none)

pub loop-rest-preserved : goal.loop-rest-preserved
loop-rest-preserved c =
    let looked : IsLooked c.args.rules.now c.loop-rest.number c.split_line.result.0.now c.look.new.self =
    record { columns = c.in_ok-look.ensures.columns; faults = c.in_ok-look.ensures.faults } in
    let taken = subst (λ more. HasTaken c.args.rules.now c.loop-rest.number c.look.new.self c.loop-rest.taken c.take_line.new.taken more) c.if-not-branch.false c.in_ok-take_line.ensures in
    let loop = c.loop-rest.invariant in
    record {
      faults = faults_step c.args.rules.now c.loop-rest.number c.split_line.result.0.now c.loop-rest.rest.now c.split_line.result.1.now c.look.new.self c.loop-rest.taken c.take_line.new.taken _ looked c.split_line.ensures.line taken loop.faults;
      cards = cards_step c.args.rules.now c.loop-rest.number c.split_line.result.0.now c.loop-rest.rest.now c.split_line.result.1.now c.look.new.self c.loop-rest.taken c.take_line.new.taken _ looked c.split_line.ensures.line taken loop.cards;
      room = room_step c.args.rules.now c.loop-rest.number c.look.new.self c.loop-rest.taken c.take_line.new.taken taken loop.room;
      bound = omega (arith, loop.bound, c.split_line.ensures.shorter);
    }

pub returns-clause-faults : goal.returns-clause-faults
unfolding faults_of_lines
returns-clause-faults c =
    let none = no_lines c.loop-rest.rest.now (is_zero (length c.loop-rest.rest.now) c.loop-rest-test.ensures) in
    sym (append-nil c.loop-rest.taken.faults.items)
    ∙ ap (λ lines. c.loop-rest.taken.faults.items ++ faults_of_lines c.args.rules.now c.loop-rest.number c.loop-rest.taken.cards lines) (sym none)
    ∙ c.loop-rest.invariant.faults

pub returns-clause-text : goal.returns-clause-text
unfolding cards_of_lines
returns-clause-text c = λ _.
    let none = no_lines c.loop-rest.rest.now (is_zero (length c.loop-rest.rest.now) c.loop-rest-test.ensures) in
    sym (append-nil c.loop-rest.taken.text.items)
    ∙ ap (λ lines. c.loop-rest.taken.text.items ++ cards_of_lines c.args.rules.now c.loop-rest.number lines) (sym none)
    ∙ c.loop-rest.invariant.cards
