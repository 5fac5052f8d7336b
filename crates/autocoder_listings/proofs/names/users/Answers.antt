use Rattle.std.proofs.Common.{◌∙◌, ◌++◌, length, map, ap}
use Rattle.std.proofs.lemmas.List.{get_or_default}
use Rattle.std.specs.List.{items_where_true, range_with_len}
use Rattle.autocoder_layout.specs.Source.{silent}
use Rattle.autocoder_listings.specs.Names.{uses, users}
use Rattle.autocoder_listings.proofs.LineLemmas.{users_step, users_past}
use Rattle.autocoder_listings.proofs.names.users.Goals as goal

pub loop-i-init : goal.loop-i-init
unfolding users
loop-i-init c =
    let lines = c.args.lines.now in
    ap (λ t. t ++ items_where_true (map (uses c.args.wanted.now) lines) (range_with_len 1 (length lines))) c.new-cards.ensures.items

pub loop-i-preserved : goal.loop-i-preserved
loop-i-preserved c =
    let lines = c.args.lines.now in
    let i = c.loop-i.i in
    let line_is = c.index-lines-i.is ∙ get_or_default lines i _ silent c.loop-i-test.true in
    users_step c.args.wanted.now lines c.loop-i.cards.items c.push_user.new.cards.items i c.index-lines-i.result c.uses.result c.loop-i-test.true line_is c.uses.ensures c.in_ok-push_user.ensures ∙ c.loop-i.invariant

pub returns : goal.returns
returns c = users_past c.args.wanted.now c.args.lines.now c.loop-i.cards.items c.loop-i.i c.loop-i-test.false ∙ c.loop-i.invariant
