use Rattle.std.proofs.Common.{length, sym, ◌∙◌}
use Rattle.std.proofs.lemmas.Bool.{eqb-true}
use Rattle.loader.proofs.ObjectDecks.{push_step, below_behind, pushed_all}
use Rattle.loader.proofs.object.push_stretches.Goals as goal

pub loop-rest-preserved : goal.loop-rest-preserved
loop-rest-preserved c = record {
  below = below_behind c.loop-rest.rest.now c.split_at.result.1.now c.longest.result c.loop-rest.invariant.below c.split_at.ensures.back;
  pushed =
      push_step c.loop-rest.deck c.push.new.self c.loop-rest.rest.now c.split_at.result.0.now c.split_at.result.1.now c.load_card.result c.longest.result
      c.longest.ensures.split c.split_at.ensures.front c.split_at.ensures.back c.load_card.ensures c.in_ok-push.ensures.ok
      ∙ c.loop-rest.invariant.pushed;
}

pub returns-clause-pushed : goal.returns-clause-pushed
returns-clause-pushed c =
    pushed_all c.loop-rest.deck _ c.loop-rest.rest.now (eqb-true (length c.loop-rest.rest.now) 0 (sym c.is_empty.ensures ∙ c.loop-rest-test.false)) c.loop-rest.invariant.pushed
