use Rattle.std.proofs.Common.{arith, sym, ◌∙◌}
use Rattle.card_texts.proofs.FaultLemmas.{within_step, bare_step}
use Rattle.card_texts.proofs.finding.push_character_faults.Goals as goal

pub loop-byte-preserved-then-filled-lt-COLUMNS : goal.loop-byte-preserved-then-filled-lt-COLUMNS
loop-byte-preserved-then-filled-lt-COLUMNS c =
    let cases = c.in-Some.ensures.cases in
    let past = sym c.is_past.ensures ∙ c.if-is_past.false in
    let inside = sym c.is_inside.ensures ∙ c.if-is_inside.false in
    let step = within_step c.args.rules.now c.args.number c.loop-byte.filled c.loop-byte.met c.in-Some.field-0-0.now c.in-Some.behind.now c.loop-byte.rest.now c.loop-byte.faults.items _ past inside c.if-filled-lt-COLUMNS.true cases.0 c.loop-byte.invariant.found in
    record {
      found = rw c.in_ok-tell.ensures (rw c.behind-filled.ensures.behind (rw c.behind-met.ensures (rw c.error_within-error.ensures step)));
      bound = omega (arith, c.loop-byte.invariant.bound, c.behind-filled.ensures.bound, cases.1, c.loop-byte.invariant.left);
      left = omega (arith, cases.1, c.loop-byte.invariant.left);
    }

pub loop-byte-preserved : goal.loop-byte-preserved
loop-byte-preserved c =
    let cases = c.in-Some.ensures.cases in
    let past = sym c.is_past.ensures ∙ c.if-is_past.false in
    let inside = sym c.is_inside.ensures ∙ c.if-is_inside.false in
    let bare = sym c.is_bare.ensures ∙ c.if-is_bare.true in
    let step = bare_step c.args.rules.now c.args.number c.loop-byte.filled c.loop-byte.met c.in-Some.field-0-0.now c.in-Some.behind.now c.loop-byte.rest.now c.loop-byte.faults.items _ past inside c.if-filled-lt-COLUMNS.false bare cases.0 c.loop-byte.invariant.found in
    record {
      found = rw c.behind-filled-then-is_bare.ensures.behind step;
      bound = omega (arith, c.loop-byte.invariant.bound, c.behind-filled-then-is_bare.ensures.bound, cases.1, c.loop-byte.invariant.left);
      left = omega (arith, cases.1, c.loop-byte.invariant.left);
    }
