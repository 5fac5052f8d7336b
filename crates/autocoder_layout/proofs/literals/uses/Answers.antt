use Rattle.std.proofs.Common.{List, ◌≡◌, ◌∙◌, ◌++◌, ◌<◌, length, get_or, sym, ap, arith}
use Rattle.std.proofs.lemmas.List.{append-nil, get_or_default}
use Rattle.autocoder_layout.specs.Source.{Line, silent}
use Rattle.autocoder_layout.proofs.LiteralLemmas.{uses_step, uses_of-past}
use Rattle.autocoder_layout.proofs.literals.uses.Goals as goal

pub loop-i-preserved : goal.loop-i-preserved
loop-i-preserved c =
    let i = c.loop-i.i in
    let h : i < length c.args.source.now.lines = omega (arith, c.loop-i-test.true, ap length c.lines-lines.ensures.lines) in
    let line_is : c.index-lines-i.result ≡ get_or c.args.source.now.lines i silent = c.index-lines-i.is ∙ get_or_default c.lines-lines.result.now i _ silent c.loop-i-test.true ∙ ap (λ (l : List Line). get_or l i silent) c.lines-lines.ensures.lines in
    record {
      uses =
          uses_step c.args.source.now.lines c.args.slots.now i c.index-lines-i.result silent c.index-slots-i.result _ c.loop-i.uses.items c.push_uses.new.uses.items h (omega (arith, h, c.requires)) line_is c.index-slots-i.is
          c.in_ok-push_uses.ensures.uses
          ∙ c.loop-i.invariant.uses;
      count = omega (arith, c.loop-i.invariant.count, c.in_ok-push_uses.ensures.count);
    }

pub returns-clause-uses : goal.returns-clause-uses
returns-clause-uses c =
    sym (append-nil c.loop-i.uses.items)
    ∙ ap (λ f. c.loop-i.uses.items ++ f) (sym (uses_of-past c.args.source.now.lines _ c.loop-i.i (omega (arith, c.loop-i-test.false, ap length c.lines-lines.ensures.lines))))
    ∙ c.loop-i.invariant.uses
