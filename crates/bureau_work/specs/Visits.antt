-- the clients that came, one after the other, and what was done for each of them
use Rattle.std.specs.Prelude.{◌≡◌, ◌⊎◌, ◌+◌, ℕ, zero, suc, List, [], ◌++◌, length, Option, Some, None, ⊤}
use Rattle.exchanges.specs.Work.{TellsExchange}
use Rattle.exchanges.specs.declared.exchange_ends.Exchange.{Exchange}
use Rattle.ledger_tables.specs.declared.openings.OpenFault.TheVariants as opening
use Rattle.office.specs.declared.commands.Command.{Command}
use Rattle.office.specs.declared.replies.Reply.{Reply}
use Rattle.bureau_work.specs.Work.{Bytes}
use Rattle.bureau_work.specs.declared.outcomes.Outcome.{Outcome}
use Rattle.bureau_work.specs.declared.outcomes.Outcome.TheVariants as outcome

module _ {C : Type 0} (Came : C → C → Bytes → Bytes → Type 0) (Missed : C → C → Type 0)
    (Went : C → C → Bytes → Type 0) where
  -- a client came and went. The exchange with it carried out these commands, to which these are the
  -- replies, and tells so by what was written to it
  pub record IsVisit (before after : C) (done : List Command) (replies : List Reply) : Type 0 where
    pub between : C
    pub asked : Bytes
    pub begun : Bytes
    pub told : Bytes
    pub it : Exchange
    pub came : Came before between asked begun
    pub tells : TellsExchange asked begun told it done replies
    pub went : Went between after told

  -- a client came and went; or none came, and nothing was carried out
  abbrev pub IsTurn : C → C → List Command → List Reply → Type 0
  IsTurn before after done replies = IsVisit before after done replies
      ⊎ (Missed before after × (done ≡ []) × (replies ≡ []))

  -- so many turns, one after the other
  abbrev pub AreTurns : ℕ → C → C → List Command → List Reply → Type 0
  AreTurns zero before after done replies = (after ≡ before) × (done ≡ []) × (replies ≡ [])
  AreTurns (suc count) before after done replies =
      (mid : C) × (first second : List Command) × (some more : List Reply)
      × (done ≡ first ++ second) × (replies ≡ some ++ more)
      × AreTurns count before mid first some × IsTurn mid after second more

  -- turns were taken, and if all was done, as many as this number; unless fault 2 came, each
  -- command that was carried out was replied to
  pub record Serves (count : ℕ) (own : Outcome) (before after : C) (done : List Command)
      (replies : List Reply) : Type 0 where
    pub turns : ℕ
    pub are : AreTurns turns before after done replies
    pub all : own ≡ outcome.Done → turns ≡ count
    pub replied : (length replies ≡ length done) ⊎ (own ≡ outcome.Fault opening.Store)

  -- the clients were served; where none can come, nothing was carried out
  abbrev pub TellsServe : ℕ → Outcome → Option C → Option C → List Command → List Reply → Type 0
  TellsServe count own (Some before) (Some after) done replies =
      Serves count own before after done replies
  TellsServe count own (Some before) None done replies = ⊥
  TellsServe count own None after done replies =
      ((own ≡ outcome.Device) ⊎ (own ≡ outcome.Fault opening.NoMemory))
      × (done ≡ []) × (replies ≡ [])

-- of a client of a port it is not known what it sends, nor what the writer to it has
abbrev pub AreUnknown : Bytes → Bytes → Type 0
AreUnknown asked begun = (asked ≡ None) × (begun ≡ None)

-- .. nor what it has at the end
abbrev pub IsUnknown : Bytes → Type 0
IsUnknown told = told ≡ None

-- of clients of a port that do not come, nothing is said
abbrev pub IsMissed : Type 0
IsMissed = ⊤
