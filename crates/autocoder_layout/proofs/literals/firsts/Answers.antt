use Rattle.std.proofs.Common.{◌∙◌, ◌≡◌, ◌++◌, ◌∷◌, [], length, get_or, sym, ap, arith, length-append}
use Rattle.std.specs.Prelude.{bytes_eq}
use Rattle.std.specs.List.{list_any}
use Rattle.std.proofs.lemmas.List.{append-nil, get_or_default}
use Rattle.autocoder_layout.proofs.LiteralLemmas.{list-again, uses-again, list-new, uses-new, firsts-past}
use Rattle.autocoder_layout.proofs.literals.firsts.Goals as goal

pub loop-i-preserved-then-is_used : goal.loop-i-preserved-then-is_used
loop-i-preserved-then-is_used c =
    let uses = c.args.uses.now in
    let i = c.loop-i.i in
    let old = c.loop-i.literals.items in
    let literal = c.index-uses-i.result in
    let h = c.loop-i-test.true in
    let here : literal ≡ get_or uses i [] = c.index-uses-i.is ∙ get_or_default uses i _ [] h in
    let found_is =
    c.is_used.ensures
    ∙ ap (λ w. list_any (λ u. bytes_eq u w) c.deref.result.now) c.characters.ensures.characters
    ∙ ap (λ l. list_any (λ u. bytes_eq u literal) l) c.deref.ensures.value in
    record {
      list = list-again uses i old old literal c.is_used.result h here found_is c.loop-i.invariant.used c.if-is_used.true ∙ c.loop-i.invariant.list;
      used = uses-again uses i old old literal c.is_used.result h here found_is c.loop-i.invariant.used c.if-is_used.true;
      count = omega (arith, c.loop-i.invariant.count);
    }

pub loop-i-preserved : goal.loop-i-preserved
loop-i-preserved c =
    let uses = c.args.uses.now in
    let i = c.loop-i.i in
    let old = c.loop-i.literals.items in
    let new = c.push.new.self.items in
    let literal = c.index-uses-i.result in
    let h = c.loop-i-test.true in
    let here : literal ≡ get_or uses i [] = c.index-uses-i.is ∙ get_or_default uses i _ [] h in
    let found_is =
    c.is_used.ensures
    ∙ ap (λ w. list_any (λ u. bytes_eq u w) c.deref.result.now) c.characters.ensures.characters
    ∙ ap (λ l. list_any (λ u. bytes_eq u literal) l) c.deref.ensures.value in
    record {
      list = list-new uses i old new literal c.is_used.result h here found_is c.loop-i.invariant.used c.if-is_used.false c.in_ok-push.ensures.items ∙ c.loop-i.invariant.list;
      used = uses-new uses i old new literal c.is_used.result h here found_is c.loop-i.invariant.used c.if-is_used.false c.in_ok-push.ensures.items;
      count = omega (arith, c.loop-i.invariant.count, ap length c.in_ok-push.ensures.items, length-append old (literal ∷ []));
    }

pub returns-clause-firsts : goal.returns-clause-firsts
returns-clause-firsts c =
    sym (append-nil c.loop-i.literals.items)
    ∙ ap (λ f. c.loop-i.literals.items ++ f) (sym (firsts-past c.args.uses.now c.loop-i.i c.loop-i-test.false))
    ∙ c.loop-i.invariant.list
