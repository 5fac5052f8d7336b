use Rattle.std.proofs.Common.{◌≡◌, ◌∙◌, ap, if◌then◌else◌, subst}
use Rattle.sqlite_disk.specs.Modelled.{start_of}
use Rattle.sqlite.specs.Files.{file_state}
use Rattle.sqlite.specs.Start.{FindsIn}
use Rattle.database_files.specs.Damage.{IsDamaged}
use Rattle.database_files.proofs.ConnectingLemmas.{both, fresh_seen, fresh_left}
use Rattle.database_files.proofs.connecting.connect.Goals as goal

pub returns-in-Ok-open_sound-clause-found : goal.returns-in-Ok-open_sound-clause-found
returns-in-Ok-open_sound-clause-found g c clean =
    let first = g.S.Start in
    let (log, db) = c.in-Ok.ensures.fresh in
    let log_start : start_of first c.in-Ok.files.log ≡ first.log = ap (λ b. if b then first.log else first.db) log.0 in
    let db_start : start_of first c.in-Ok.files.db ≡ first.db = ap (λ b. if b then first.log else first.db) db.0 in
    subst (λ i. FindsIn i (file_state c.in-Ok-open_sound.conn)) (both _ _ (fresh_seen _ _ _ log.1 ∙ log_start) (fresh_seen _ _ _ db.1 ∙ db_start)) (c.in-Ok-open_sound.ensures.found clean)

pub returns-in-Err-open_sound-clause-cause : goal.returns-in-Err-open_sound-clause-cause
returns-in-Err-open_sound-clause-cause g c =
    let first = g.S.Start in
    let (log, db) = c.in-Ok.ensures.fresh in
    let log_start : start_of first c.in-Ok.files.log ≡ first.log = ap (λ b. if b then first.log else first.db) log.0 in
    let db_start : start_of first c.in-Ok.files.db ≡ first.db = ap (λ b. if b then first.log else first.db) db.0 in
    c.in-Err-open_sound.ensures.cause _ (record {
      seen = both _ _ (fresh_seen _ _ _ log.1 ∙ log_start) (fresh_seen _ _ _ db.1 ∙ db_start);
      log = λ x may. fresh_left _ _ _ _ log.1 x may ∙ log_start;
      db = λ x may. fresh_left _ _ _ _ db.1 x may ∙ db_start;
    })

pub returns-in-Ok-open_sound-clause-sound : goal.returns-in-Ok-open_sound-clause-sound
returns-in-Ok-open_sound-clause-sound g c clean =
    let first = g.S.Start in
    let (log, db) = c.in-Ok.ensures.fresh in
    let log_start : start_of first c.in-Ok.files.log ≡ first.log = ap (λ b. if b then first.log else first.db) log.0 in
    subst (λ l. ¬ IsDamaged l) (fresh_seen _ _ _ log.1 ∙ log_start) (c.in-Ok-open_sound.ensures.sound clean)
