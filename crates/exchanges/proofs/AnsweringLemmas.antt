-- what a command that was applied comes to
use Rattle.std.proofs.Common.{◌≡◌, ◌⊎◌, ℕ, Bool, List, inl, inr, ap, ◌∙◌}
use Rattle.std.specs.Prelude.{IsTrue}
use Rattle.machine.specs.Run.{risen}
use Rattle.sqlite.specs.Held.{Held, state}
use Rattle.sqlite.specs.Tree.{Trees}
use Rattle.sqlite_trees.specs.declared.store.Store.{Ghosts}
use Rattle.office_tables.specs.Standing.{LeftAs, Stands}
use Rattle.office.specs.Meters.{RisenAtMost}
use Rattle.office.specs.Office.{Office, attempted, take}
use Rattle.office.specs.declared.commands.Command.{Command}
use Rattle.office.specs.declared.replies.Reply.{Reply}
use Rattle.http_messages.specs.Replies.{HasLinesInOrder, reply_bytes, status_of}
use Rattle.http_messages.specs.declared.fixed.Fault.TheVariants as fault
use Rattle.http_messages.specs.declared.request.Request.TheVariants as request
use Rattle.exchanges.specs.Answers.{IsOfFault}
use Rattle.exchanges.specs.Exchanges.{ComesTo}
use Rattle.exchanges.proofs.AnsweringLines.{LinesRise, replied_in_order}

module _ {S : Type 0} (g : Ghosts S) (old new : Held S) (is_broken : Bool) (meter risen_meter : ℕ) (command : Command) (status : ℕ) (bytes : List ℕ) where
  -- the command is replied to
  abbrev pub IsReplied : Reply → Type 0
  IsReplied r = (office : Office) → Stands (state g old) office → (r ≡ (take command office).1) × Stands (state g new) (take command office).0

  -- the meter has risen by what the command attempted
  abbrev pub HasRisen : Type 0
  HasRisen = (office : Office) → Stands (state g old) office → risen_meter ≡ risen meter (attempted command office)

  pub made : (r : Reply) → LinesRise → IsReplied r → HasRisen → status ≡ status_of r → (HasLinesInOrder r → bytes ≡ reply_bytes r)
      → (office : Office) → Stands (state g old) office → ComesTo g new is_broken meter risen_meter office (request.Asks command) status bytes
  made r rise is risen_so status_is bytes_are office s =
      let done = is office s in
      let in_order : HasLinesInOrder r = replied_in_order rise (state g old) command r (λ o t. (is o t).0) office s in
      inl ((status_is ∙ ap (λ (q : Reply). status_of q) done.0, bytes_are in_order ∙ ap (λ (q : Reply). reply_bytes q) done.0), (done.1, risen_so office s))

  pub not_made : (r : Reply) → IsReplied r → HasRisen → IsOfFault fault.NoMemoryForReply status bytes
      → (office : Office) → Stands (state g old) office → ComesTo g new is_broken meter risen_meter office (request.Asks command) status bytes
  not_made r is risen_so of office s = inr (fault.NoMemoryForReply, of, ((is office s).1, risen_so office s))

  pub no_memory : ((office : Office) → Stands (state g old) office → Stands (state g new) office)
      → ((office : Office) → Stands (state g old) office → RisenAtMost (attempted command office) meter risen_meter) → IsOfFault fault.NoMemory status bytes
      → (office : Office) → Stands (state g old) office → ComesTo g new is_broken meter risen_meter office (request.Asks command) status bytes
  no_memory kept most of office s = inr (fault.NoMemory, of, (kept office s, most office s))

  pub store_failed : IsTrue is_broken → ((office : Office) → Stands (state g old) office → (db : Trees) → (state g new).may_leave db → LeftAs db office ⊎ LeftAs db (take command office).0)
      → ((office : Office) → Stands (state g old) office → RisenAtMost (attempted command office) meter risen_meter) → IsOfFault fault.Store status bytes
      → (office : Office) → Stands (state g old) office → ComesTo g new is_broken meter risen_meter office (request.Asks command) status bytes
  store_failed broken left most of office s = inr (fault.Store, of, (broken, left office s, most office s))
