use Rattle.std.proofs.Common.{rules}
use Rattle.job_archives.specs.Joins.{ComparesBoth}
use Rattle.job_archives.proofs.JoinLemmas.{three_settled, Ended}
use Rattle.job_archives.proofs.joins.compare_settled.Goals as goal

pub returns-clause-read : goal.returns-clause-read
returns-clause-read g c =
    let one : Ended g.S.Store c.args.first.now c.transaction-one.result.conn.now c.compare_three-told.new.first.conn.now c.first-1.given.0 = record {
      is_begun = c.transaction-one.ensures.begun;
      live = c.schema-schema.ensures.live;
      settled = search rules;
      early = λ clean. search (rules, c.rollback.ensures.survives.clean);
      back = λ clean. search rules;
    } in
    let two : Ended g.T.Store c.args.second.now c.transaction-two.result.conn.now c.compare_three-told.new.second.conn.now c.second-1.given.0 = record {
      is_begun = c.transaction-two.ensures.begun;
      live = c.schema-other_schema.ensures.live;
      settled = search rules;
      early = λ clean. search (rules, c.rollback-2.ensures.survives.clean);
      back = λ clean. search rules;
    } in
    let three : Ended g.U.Store c.args.joined.now c.transaction-three.result.conn.now c.compare_three-told.new.joined.conn.now c.joined-1.given.0 = record {
      is_begun = c.transaction-three.ensures.begun;
      live = c.schema-join_schema.ensures.live;
      settled = search rules;
      early = λ clean. search (rules, c.rollback-3.ensures.survives.clean);
      back = λ clean. search rules;
    } in
    three_settled g.S.Store g.T.Store g.U.Store _ _ _ _ _ _ _ _ _ _ _ _ c.compare_three-told.result (λ a b d told. ComparesBoth a b d told) one two three c.compare_three-told.ensures.read
