use Rattle.std.proofs.Common.{◌+◌, ◌-◌, ◌≡◌, ◌∙◌, length, drop, sym, ap, arith}
use Rattle.std.specs.Prelude.{bytes_eq}
use Rattle.autocoder_layout.specs.Literals.{literal_end}
use Rattle.autocoder_layout.proofs.LiteralLemmas.{literal_end-found, literal_end-other, literal_end-past}
use Rattle.autocoder_layout.proofs.literals.literal_end.Goals as goal

pub returns-then-is_same : goal.returns-then-is_same
returns-then-is_same c =
    let same = ap (λ x. bytes_eq x c.args.wanted.now) (sym c.literal-item.is) ∙ sym c.is_same.ensures ∙ c.if-is_same.true in
    let long = ap length (c.characters.ensures.characters ∙ c.literal-item.is) in
    let e : c.saturating_sub.result ≡ c.loop-literal.here + length c.characters.result.now - 1 = omega (arith, c.saturating_sub.ensures) in
    e
    ∙ ap (λ n. c.loop-literal.here + n - 1) long
    ∙ sym (literal_end-found c.loop-literal.here c.args.literals.now c.loop-literal.literal-index _ c.args.wanted.now c.loop-literal-test.true same)
    ∙ c.loop-literal.invariant.end

pub loop-literal-preserved : goal.loop-literal-preserved
loop-literal-preserved c =
    let other = ap (λ x. bytes_eq x c.args.wanted.now) (sym c.literal-item.is) ∙ sym c.is_same.ensures ∙ c.if-is_same.false in
    let long = ap length (c.characters.ensures.characters ∙ c.literal-item.is) in
    record {
      end =
          ap (λ n. literal_end (c.loop-literal.here + n) (drop (c.loop-literal.literal-index + 1) c.args.literals.now) c.args.wanted.now) long
          ∙ sym (literal_end-other c.loop-literal.here c.args.literals.now c.loop-literal.literal-index _ c.args.wanted.now c.loop-literal-test.true other)
          ∙ c.loop-literal.invariant.end;
      limit = omega (arith, c.loop-literal.invariant.limit, c.characters.ensures.limit);
    }

pub returns : goal.returns
returns c = sym (literal_end-past c.loop-literal.here c.args.literals.now c.loop-literal.literal-index c.args.wanted.now c.loop-literal-test.false) ∙ c.loop-literal.invariant.end
