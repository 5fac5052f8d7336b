-- What was read of a script, and what its commands did.
use Rattle.std.proofs.Common.{◌≡◌, ℕ, ◌<◌, ◌≤◌, Bool, List, Some, inr, refl, sym, subst, arith, length}
use Rattle.std.specs.Prelude.{◌≢◌, Option, ⊤, IsTrue}
use Rattle.office.specs.Office.{Office}
use Rattle.sqlite.specs.Effect.{Database}
use Rattle.sqlite.specs.Held.{Held}
use Rattle.sqlite_trees.specs.declared.store.Store.{Ghosts}
use Rattle.ledger.proofs.WorkLemmas.{worked_in_turn}
use Rattle.office_tables.specs.Standing.{Rows}
use Rattle.ledger.specs.WholeRows.{HaveWholeRows}
use Rattle.ledger.specs.Working.{HasWorked}
use Rattle.ledger_tables.specs.declared.faults.Fault.TheVariants.{NoMemory, Store}
use Rattle.exchanges.specs.Running.{IsCount, RunLeaves, RunStands, Runs, fault_of}
use Rattle.exchanges.specs.Work.{TellsScript}
use Rattle.exchanges.specs.declared.script_ends.ScriptEnd.{ScriptEnd}
use Rattle.exchanges.specs.declared.script_ends.ScriptEnd.TheVariants as ended
use Rattle.exchanges.specs.declared.script_ends.Scripted.{Scripted}
use Rattle.office.specs.declared.commands.Command.{Command}
use Rattle.scripts.specs.Reading.{IsReadOf}
use Rattle.scripts.specs.Scripts.{IsFaultOf, IsScriptOf}
use Rattle.scripts.specs.declared.faults.ScriptFault.{ScriptFault}
use Rattle.scripts.specs.declared.faults.ScriptFault.TheVariants as fault
use Rattle.exchanges.specs.Ending.{ReadAs, ReadBad}

pub read_as : (remaining : Option (List ℕ)) (items now : List ℕ) (found given : List Command) → IsReadOf remaining items → now ≡ items
    → IsScriptOf now found → given ≡ found → ReadAs remaining given
read_as remaining items now found given read here script same = (items, read, subst (λ b. IsScriptOf b given) here (subst (IsScriptOf now) (sym same) script))

pub read_bad : (remaining : Option (List ℕ)) (items now : List ℕ) (reason : ScriptFault) → IsReadOf remaining items → now ≡ items
    → IsFaultOf now reason → ReadBad remaining reason
read_bad remaining items now reason read here bad = (items, read, subst (λ b. IsFaultOf b reason) here bad)

abbrev IsOfBytes : ScriptFault → Type 0
IsOfBytes fault.NoMemory = ⊥
IsOfBytes other = ⊤

pub long_is_other : fault.TooLong ≢ fault.NoMemory
long_is_other same = subst IsOfBytes same tt

pub line_is_other : (number : ℕ) → fault.BadLine number ≢ fault.NoMemory
line_is_other number same = subst IsOfBytes same tt

-- ---- the commands of a script are work

within_end : (e : ScriptEnd) (n all : ℕ) → IsCount e n all → n ≤ all
within_end ended.Whole n all is = omega (arith, is)
within_end ended.Bad n all is = absurd is
within_end ended.ReadFailed n all is = absurd is
within_end ended.WriteFailed n all is = is
within_end (ended.Fault fault) n all is = omega (arith, is)

store_end : (broken : Bool) (e : ScriptEnd) (n all : ℕ) → IsCount e n all → (e ≡ ended.Fault Store → IsTrue broken) → fault_of e ≡ Some Store → IsTrue broken × (n < all)
store_end broken ended.Whole n all is so same = absurd (let e = same in cc)
store_end broken ended.Bad n all is so same = absurd is
store_end broken ended.ReadFailed n all is so same = absurd is
store_end broken ended.WriteFailed n all is so same = absurd (let e = same in cc)
store_end broken (ended.Fault NoMemory) n all is so same = absurd (let e = same in cc)
store_end broken (ended.Fault Store) n all is so same = (so refl, is)

pub script_worked : (law : (db : Database) (o : Office) → Rows db o → HaveWholeRows db o) → {S : Type 0} → (g : Ghosts S) (old new : Held S) (is_broken : Bool) (it : Scripted)
    (commands : List Command) (remaining written now : Option (List ℕ)) → ReadAs remaining commands → IsCount it.ended it.acknowledged (length commands)
    → Runs g old new commands it written now → RunStands g old new commands it → RunLeaves g old new commands it → (it.ended ≡ ended.Fault Store → IsTrue is_broken)
    → HasWorked g old new is_broken (TellsScript remaining written now it)
script_worked law g old new is_broken it commands remaining written now read count runs stands leaves broken =
    worked_in_turn law g old new is_broken (TellsScript remaining written now it) commands runs.replies it.acknowledged (sym runs.told.count) (fault_of it.ended)
    runs.are (within_end it.ended it.acknowledged (length commands) count) (store_end is_broken it.ended it.acknowledged (length commands) count broken) stands leaves
    (inr (commands, read, count, refl, runs.told))
