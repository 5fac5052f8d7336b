-- What is left of files that were refused.
use Rattle.std.proofs.Common.{◌≡◌, ◌⊎◌, inl, inr, ◌≤◌, ℕ, Bool, List, Some, None, Result, Ok, Err, refl, sym, subst, arith}
use Rattle.std.specs.Prelude.{IfErr, IfOk}
use Rattle.std.proofs.Math.Logic.{∥∥₁_elim, ∥∥₁_map}
use Rattle.sqlite_disk.specs.declared.Disk.{Ghosts}
use Rattle.sqlite_pool.specs.Stored.{is_summed}
use Rattle.sqlite_store.specs.declared.store.FileStore.{FileStore}
use Rattle.sqlite.specs.FileStore as store
use Rattle.sqlite.specs.FileStore.{view}
use Rattle.sqlite.specs.Files.{HoldsDatabase, IsCleanLeft, file_state}
use Rattle.sqlite.specs.Held.{Held}
use Rattle.sqlite.specs.Recovery.{Image}
use Rattle.sqlite.specs.State.{HasCleanDisk}
use Rattle.sqlite.specs.Tree.{Trees}
use Rattle.sqlite.specs.View.{IsClean, doubt}
use Rattle.sqlite.specs.declared.file.Leftover.{Leftover}
use Rattle.sqlite.specs.declared.file.Leftover.TheVariants as left
use Rattle.sqlite_trees.proofs.Doubt.{clean_of}
use Rattle.office.specs.Office.{Office}
use Rattle.office.specs.declared.commands.Command.{Command}
use Rattle.office.specs.declared.replies.Reply.{Reply}
use Rattle.ledger.specs.Older.{LeftOf}
use Rattle.office_tables.specs.Standing.{LeftAs}
use Rattle.ledger_tables.specs.declared.openings.OpenFault.{OpenFault}
use Rattle.ledger_files.specs.Migrating.{AreNotMigrated, AreOfVersion, IsMigration}
use Rattle.ledger_files.specs.Opening.{AreOf, AreRefused, AreStoredWith, HoldsOnly}
use Rattle.ledger_files.specs.Rounds.{HasDone, HasWorkedFrom, HoldsOneOf, IsLink, IsRound, MayLeaveClosed}
use Rattle.ledger_files.specs.declared.closed.Closed.{Closed}
use Rattle.ledger_files.specs.Unfinished.{IsLeftBy, IsRefusal, IsUnfinished, MayLeaveRest}
use Rattle.ledger_files.specs.declared.unfinished.Unfinished.{Unfinished}
use Rattle.ledger_files.specs.declared.unfinished.Unfinished.TheVariants as unfinished
use Rattle.ledger_files.specs.declared.kept.Kept.TheVariants as kept
use Rattle.database_files.proofs.StopLemmas.{left_holds}

-- the files hold the office in this version, with sums on their pages or without
stored_as : (files : Image) (version : ℕ) (office : Office) (db : Trees) (held : HoldsDatabase files db) → LeftOf version db office → AreStoredWith (is_summed held.0) files (λ d. LeftOf version d office)
stored_as files version office db held here = ∣ (let f : (d : Trees) × (h : HoldsDatabase files d) × (is_summed h.0 ≡ is_summed held.0) × LeftOf version d office = (db, held, refl, here) in f) ∣₁

-- the image holds the office in the version that it had
still_of : (image : Image) (version : ℕ) (office : Office) (db : Trees) → HoldsDatabase image db → LeftOf version db office → AreOfVersion version image office ⊎ AreOf image office
still_of image version office db held here = inl ∣ (let f : (d : Trees) × HoldsDatabase image d × LeftOf version d office = (db, held, here) in f) ∣₁

-- .. or in that version or this program's
either_of : (image : Image) (version : ℕ) (office : Office) (db : Trees) → HoldsDatabase image db → LeftOf version db office ⊎ LeftAs db office → AreOfVersion version image office ⊎ AreOf image office
either_of image version office db held (inl same) = still_of image version office db held same
either_of image version office db held (inr own) = inr ∣ (let f : (d : Trees) × HoldsDatabase image d × LeftAs d office = (db, held, own) in f) ∣₁

module _ {D : Type 0} {g : Ghosts D} (files : Image) (fault : OpenFault) where
  -- ---- an open that failed

  -- the store of a connection that was opened
  pub store_refused : (conn : Held (FileStore D g)) (rest : FileStore D g) → doubt (file_state conn).is_clean ≤ doubt (view rest).is_clean
      → (IsClean (view rest) → (image : Image) → (store.state rest).may_leave image → HoldsOneOf (view rest).has_sums image (file_state conn).may_leave)
      → (HasCleanDisk (file_state conn) → AreRefused files fault (kept.Connection conn)) → IsRefusal files (MayLeaveRest {g = g} files (Some (left.Store rest)))
  store_refused conn rest late holds are image may db held =
      let was : HasCleanDisk (file_state conn) = omega (arith, late, may.0.0) in
      let only : HoldsOnly (file_state conn) db = (are was).untouched db held in
      ∥∥₁_map (holds may.0.0 image may.0.1) (λ one. subst (HoldsDatabase image) (only.left one.0 one.1) one.2)

  -- what was not opened
  pub rest_refused : (rest : Leftover D g) → (IsCleanLeft rest → AreRefused files fault (kept.Left rest)) → IsRefusal files (MayLeaveRest {g = g} files (Some rest))
  rest_refused (left.Files now) are image may db held = ∥∥₁_map ((are may.0).same db held image may.1) (λ one. subst (HoldsDatabase image) one.3 one.1)
  rest_refused (left.Unopened now) are image may db held = ∥∥₁_map ((are may.0).same db held (λ summed. may.1 db held summed) image may.2) (λ one. subst (HoldsDatabase image) one.3 one.1)
  rest_refused (left.Store now) are image may db held =
      ∥∥₁_elim ((are (clean_of _ may.0.0)).same db held) squash₁ (λ all. ∥∥₁_map (left_holds now may.1 may.2 image may.0.1) (λ one. subst (HoldsDatabase image) (all one.0 one.1) one.2))

  -- ---- a migration that failed

  -- the store of a connection that was opened
  pub store_not_migrated : (conn : Held (FileStore D g)) (rest : FileStore D g) → doubt (file_state conn).is_clean ≤ doubt (view rest).is_clean
      → (IsClean (view rest) → (image : Image) → (store.state rest).may_leave image → HoldsOneOf (view rest).has_sums image (file_state conn).may_leave)
      → (HasCleanDisk (file_state conn) → AreNotMigrated files fault (kept.Connection conn)) → IsMigration files (MayLeaveRest {g = g} files (Some (left.Store rest)))
  store_not_migrated conn rest late holds are image may version office of =
      let was : HasCleanDisk (file_state conn) = omega (arith, late, may.0.0) in
      ∥∥₁_elim of squash₁ (λ it.
      ∥∥₁_elim ((are was).keeps (is_summed it.1.0) version office (stored_as files version office it.0 it.1 it.2)) squash₁ (λ keeps.
      ∥∥₁_map (holds may.0.0 image may.0.1) (λ one. either_of image version office one.0 one.2 (keeps.1 one.0 one.1))))

  -- what was not opened
  pub rest_not_migrated : (rest : Leftover D g) → (IsCleanLeft rest → AreNotMigrated files fault (kept.Left rest)) → IsMigration files (MayLeaveRest {g = g} files (Some rest))
  rest_not_migrated (left.Files now) are image may version office of =
      ∥∥₁_elim of squash₁ (λ it.
      ∥∥₁_map ((are may.0).keeps (is_summed it.1.0) version office (stored_as files version office it.0 it.1 it.2) image may.1) (λ one. still_of image version office one.0 one.1 one.3))
  rest_not_migrated (left.Unopened now) are image may version office of =
      ∥∥₁_elim of squash₁ (λ it.
      ∥∥₁_map ((are may.0).keeps (is_summed it.1.0) version office (stored_as files version office it.0 it.1 it.2) (λ summed. may.1 it.0 it.1 summed) image may.2) (λ one. still_of image version office one.0 one.1 one.3))
  rest_not_migrated (left.Store now) are image may version office of =
      ∥∥₁_elim of squash₁ (λ it.
      ∥∥₁_elim ((are (clean_of _ may.0.0)).keeps (is_summed it.1.0) version office (stored_as files version office it.0 it.1 it.2)) squash₁ (λ all.
      ∥∥₁_map (left_holds now may.1 may.2 image may.0.1) (λ one. still_of image version office one.0 one.2 (all one.0 one.1))))

-- files that were not reached
pub nothing_refused : {D : Type 0} (g : Ghosts D) (files : Image) → IsRefusal files (MayLeaveRest {g = g} files None)
nothing_refused g files image may db held = ∣ subst (λ i. HoldsDatabase i db) (sym may) held ∣₁

-- files that were not reached
pub nothing_migrated : {D : Type 0} (g : Ghosts D) (files : Image) → IsMigration files (MayLeaveRest {g = g} files None)
nothing_migrated g files image may version office of = ∣ inl (subst (λ i. AreOfVersion version i office) (sym may) of) ∣₁

-- what an unfinished end tells, said of another form of no work done
pub idle_as : {D : Type 0} {g : Ghosts D} (files : Image) (First Then : Type 0) (Tells : List Command → List Reply → Type 0) (it : Unfinished D g) → (First → Then) → IsUnfinished files First Tells it → IsUnfinished files Then Tells it
idle_as files First Then Tells (unfinished.Unfound fault) f is = (f is.0, is.1)
idle_as files First Then Tells (unfinished.Refused fault rest) f is = (f is.0, is.1)
idle_as files First Then Tells (unfinished.Unclosed fault rest) f is = is

-- work with a bureau that was opened on files ends with closing them, or without
module _ {D : Type 0} {g : Ghosts D} (files : Image) (now : Held (FileStore D g)) (is_broken : Bool) (Tells : List Command → List Reply → Type 0) (it : HasWorkedFrom files now is_broken Tells) where
  pub ended_whole : (result : Result (Closed D g) (Unfinished D g))
      → IfOk result (λ closed. (first : Image) → (commands : List Command) → (replies : List Reply) → HasDone first now is_broken commands replies → IsLink first (MayLeaveClosed closed) commands replies)
      → IfOk result (λ closed. IsRound files (MayLeaveClosed closed) Tells)
  ended_whole (Ok closed) link = record { commands = it.commands; replies = it.replies; told = it.told; link = link files it.commands it.replies it.done }
  ended_whole (Err left) link = tt

  ended_by : (Idle : Type 0) (left : Unfinished D g) → IsLeftBy files left it.commands it.replies → IsUnfinished files Idle Tells left
  ended_by Idle (unfinished.Unfound fault) is = absurd is
  ended_by Idle (unfinished.Refused fault rest) is = absurd is
  ended_by Idle (unfinished.Unclosed fault rest) is = (it.commands, it.replies, it.told, is)

  pub ended_unclosed : (Idle : Type 0) (result : Result (Closed D g) (Unfinished D g))
      → IfErr result (λ left. (first : Image) → (commands : List Command) → (replies : List Reply) → HasDone first now is_broken commands replies → IsLeftBy first left commands replies)
      → IfErr result (IsUnfinished files Idle Tells)
  ended_unclosed Idle (Ok closed) left = tt
  ended_unclosed Idle (Err rest) left = ended_by Idle rest (left files it.commands it.replies it.done)

-- ---- what holds of a result, said of it in other words

pub if_ok : {A E : Type 0} {P Q : A → Type 0} (result : Result A E) → ((a : A) → P a → Q a) → IfOk result P → IfOk result Q
if_ok (Ok a) f p = f a p
if_ok (Err e) f p = tt

pub if_err : {A E : Type 0} {P Q : E → Type 0} (result : Result A E) → ((e : E) → P e → Q e) → IfErr result P → IfErr result Q
if_err (Ok a) f p = tt
if_err (Err e) f p = f e p
