use Rattle.std.proofs.Common.{◌≡◌, Result, Ok, OnOk, subst}
use Rattle.std.specs.Prelude.{⊤}
use Rattle.ledger_tables.specs.declared.faults.Fault.{Fault}
use Rattle.job_archives.proofs.JoinLemmas.{compared_join}
use Rattle.job_archives.proofs.joins.compare_join.Goals as goal

pub returns-in-Ok-clause-compared : goal.returns-in-Ok-clause-compared
returns-in-Ok-clause-compared g c =
    let both = subst (λ (r : Result ⊤ Fault). OnOk r ((c.both_sound.result ≡ Ok tt) × (c.hand_back-join_sound.result.0 ≡ Ok tt))) c.in-Ok.is c.both_sound-2.ensures in
    let each = subst (λ (r : Result ⊤ Fault). OnOk r ((c.hand_back-sound.result.0 ≡ Ok tt) × (c.hand_back-other_sound.result.0 ≡ Ok tt))) both.0 c.both_sound.ensures in
    compared_join g.S.Store g.T.Store g.U.Store c.args.first c.compare_settled-told.new.first c.args.second c.compare_settled-told.new.second c.args.joined c.compare_settled-told.new.joined c.hand_back-sound.result.1 c.hand_back-other_sound.result.1 c.hand_back-join_sound.result.1 c.compare_settled-told.result c.hand_back-sound.result.0 c.hand_back-other_sound.result.0 c.hand_back-join_sound.result.0
    c.compare_settled-told.ensures.read each.0 each.1 both.1 c.hand_back-sound.ensures.sound c.hand_back-other_sound.ensures.sound c.hand_back-join_sound.ensures.sound
