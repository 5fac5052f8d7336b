-- What the subcommands tell of their work, with what came of the file.
use Rattle.std.proofs.Common.{◌≡◌, inl, inr, ℕ, List, refl, sym, ap, subst, Result, Ok, Err}
use Rattle.std.specs.Prelude.{IfErr, IfOk}
use Rattle.sqlite_disk.specs.declared.Disk as disk
use Rattle.sqlite.specs.Recovery.{Image}
use Rattle.ledger_files.specs.Rounds.{IsRound, MayLeaveClosed}
use Rattle.ledger_files.specs.Unfinished.{IsUnfinished, IsUnmigrated}
use Rattle.ledger_files.specs.declared.closed.Closed.{Closed}
use Rattle.ledger_files.specs.declared.migrating.Migrated.{Migrated}
use Rattle.ledger_files.specs.declared.unfinished.Unfinished.{Unfinished}
use Rattle.ledger_files.specs.declared.unfinished.Unfinished.TheVariants as unfinished
use Rattle.ledger_files.proofs.LeavingLemmas.{idle_as}
use Rattle.office.specs.declared.commands.Command.{Command}
use Rattle.office.specs.declared.replies.Reply.{Reply}
use Rattle.bureau_work.specs.Outcomes.{closing_with}
use Rattle.bureau_work.specs.Work.{Bytes, TellsApply}
use Rattle.bureau_work.specs.declared.outcomes.Outcome.{Outcome}
use Rattle.bureau.specs.Migrating.{HasMigrated, TellsMigrated}
use Rattle.bureau.specs.Outcomes.{with_file}
use Rattle.bureau.specs.Work.{HasApplied, HasEndedFrom, HasNotApplied, outcome_in}
use Rattle.bureau.specs.declared.ended.Ended.{Ended}

module _ {D : Type 0} {g : disk.Ghosts D} (files : Image) where
  idle_err : (First Then : Type 0) (Tells : List Command → List Reply → Type 0) (file : Result (Closed D g) (Unfinished D g)) → (First → Then)
      → IfErr file (IsUnfinished files First Tells) → IfErr file (IsUnfinished files Then Tells)
  idle_err First Then Tells (Ok closed) f is = tt
  idle_err First Then Tells (Err left) f is = idle_as files First Then Tells left f is

  -- what is known of the work, and of what came of the file
  pub ended_from : (ended : Ended D g) (work : Outcome) (file : Result (Closed D g) (Unfinished D g)) (First : Type 0) (Then : Outcome → Type 0) (Tells : Outcome → List Command → List Reply → Type 0)
      → (ended.work ≡ work) × (ended.file ≡ file) → (First → Then work) → IfOk file (λ closed. IsRound files (MayLeaveClosed closed) (Tells work)) → IfErr file (IsUnfinished files First (Tells work))
      → HasEndedFrom files ended (Then ended.work) (Tells ended.work)
  ended_from ended work file First Then Tells is f round unfinished = (
    subst (λ w. IfOk ended.file (λ closed. IsRound files (MayLeaveClosed closed) (Tells w))) (sym is.0) (subst (λ x. IfOk x (λ closed. IsRound files (MayLeaveClosed closed) (Tells work))) (sym is.1) round),
    subst (λ w. IfErr ended.file (IsUnfinished files (Then w) (Tells w))) (sym is.0)
        (subst (λ x. IfErr x (IsUnfinished files (Then work) (Tells work))) (sym is.1) (idle_err First (Then work) (Tells work) file f unfinished)),
  )

  -- what is told of a round may be told in other words
  pub round_so : (One Other : List Command → List Reply → Type 0) → ((cs : List Command) (rs : List Reply) → One cs rs → Other cs rs) → (file : Result (Closed D g) (Unfinished D g))
      → IfOk file (λ closed. IsRound files (MayLeaveClosed closed) One) → IfOk file (λ closed. IsRound files (MayLeaveClosed closed) Other)
  round_so One Other so (Ok closed) it = record { commands = it.commands; replies = it.replies; told = so it.commands it.replies it.told; link = it.link }
  round_so One Other so (Err left) it = tt

  -- .. and so of work whose files were not closed
  pub unfinished_so : (Idle : Type 0) (One Other : List Command → List Reply → Type 0) → ((cs : List Command) (rs : List Reply) → One cs rs → Other cs rs) → (file : Result (Closed D g) (Unfinished D g))
      → IfErr file (IsUnfinished files Idle One) → IfErr file (IsUnfinished files Idle Other)
  unfinished_so Idle One Other so (Ok closed) it = tt
  unfinished_so Idle One Other so (Err (unfinished.Unfound fault)) it = it
  unfinished_so Idle One Other so (Err (unfinished.Refused fault rest)) it = it
  unfinished_so Idle One Other so (Err (unfinished.Unclosed fault rest)) it = (it.0, it.1, so it.0 it.1 it.2, it.3)

  applied_with : (old new : Bytes) (own : Outcome) (file : Result (Closed D g) (Unfinished D g)) → IfOk file (λ closed. IsRound files (MayLeaveClosed closed) (TellsApply old new own))
      → IfErr file (IsUnfinished files (HasNotApplied own old new) (TellsApply old new own)) → HasApplied (with_file file own) old new
  applied_with old new own (Ok closed) round is = inr (own, inl refl, record { commands = round.commands; replies = round.replies; told = round.told })
  applied_with old new own (Err (unfinished.Unfound fault)) round is = inl (fault, ap (closing_with fault) is.0.0, is.0.1)
  applied_with old new own (Err (unfinished.Refused fault rest)) round is = inl (fault, ap (closing_with fault) is.0.0, is.0.1)
  applied_with old new own (Err (unfinished.Unclosed fault rest)) round is = inr (own, inr (fault, refl), record { commands = is.0; replies = is.1; told = is.2 })

  -- what a subcommand says that has applied a script
  pub applied_so : (old new : Bytes) (ended : Ended D g) → HasEndedFrom files ended (HasNotApplied ended.work old new) (TellsApply old new ended.work) → HasApplied (outcome_in ended) old new
  applied_so old new ended it = applied_with old new ended.work ended.file it.0 it.1

  -- what a subcommand says that has migrated a file
  pub migrated_so : (old new : Bytes) (it : Outcome) (migrated : Result (Migrated D g) (Unfinished D g)) → IfErr migrated (IsUnmigrated files) → TellsMigrated migrated it old new → HasMigrated it old new
  migrated_so old new it (Ok done) is tells = inl (done.version, tells)
  migrated_so old new it (Err (unfinished.Unfound fault)) is tells = inr (fault, is, tells.0, tells.1)
  migrated_so old new it (Err (unfinished.Refused fault rest)) is tells = inr (fault, is.0, tells.0, tells.1)
  migrated_so old new it (Err (unfinished.Unclosed fault rest)) is tells = inr (fault, is.0, tells.0, tells.1)
