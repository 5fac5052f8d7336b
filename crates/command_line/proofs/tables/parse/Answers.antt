use Rattle.std.proofs.Common.{◌≡◌, ◌∙◌, inl, inr, subst, sym, true, true≢false}
use Rattle.clap.specs.declared.error.kind.ErrorKind.TheVariants.{OutOfMemory}
use Rattle.clap.specs.Words.{IsAmong}
use Rattle.command_line.proofs.tables.parse.Goals as goal

pub returns-in-Ok-clause-ok : goal.returns-in-Ok-clause-ok
returns-in-Ok-clause-ok c = (c.in-Ok.ensures.kinds c.requires.free, (c.in-Ok.ensures.matches c.requires.simple).1)

pub returns-clause-err : goal.returns-clause-err
returns-clause-err c =
    elim (c.in-Err.ensures.kinds c.requires.free) [
      | inl memory ↦ absurd (
          let is : c.kind.result ≡ OutOfMemory = c.kind.ensures ∙ memory in
          let same : c.eq.result ≡ true = rw is at c.eq.ensures in true≢false (sym same ∙ c.if-eq.false))
      | inr among ↦ inr (λ none. subst (IsAmong c.in-Err.error.kind) none among)
    ]
