-- From files to files.
use Rattle.std.proofs.Common.{◌≡◌, ◌⊎◌, inl, inr, ◌≤◌, ◌+◌, Bool, false, List, length, take, sym, ap, arith, Result, Ok, Err}
use Rattle.std.specs.Prelude.{IfErr, IfOk}
use Rattle.std.proofs.Math.Logic.{∥∥₁_elim, ∥∥₁_map}
use Rattle.std.proofs.Math.Seq.{take-length}
use Rattle.sqlite_disk.specs.declared.Disk.{Ghosts}
use Rattle.sqlite_store.specs.declared.store.FileStore.{FileStore}
use Rattle.sqlite.specs.FileStore as store
use Rattle.sqlite.specs.FileStore.{recovers, view}
use Rattle.sqlite.specs.Files.{HoldsDatabase, file_state, over_files}
use Rattle.sqlite.specs.Held.{Held}
use Rattle.sqlite.specs.Recovery.{Image}
use Rattle.sqlite.specs.State.{HasCleanDisk}
use Rattle.sqlite.specs.Tree.{Trees}
use Rattle.sqlite.specs.View.{IsClean, doubt}
use Rattle.sqlite.specs.WalFiles.{outcomes}
use Rattle.sqlite_wal.specs.Reads.{AreClean}
use Rattle.office.specs.Office.{Office, fold, IsLeft}
use Rattle.office.specs.declared.commands.Command.{Command}
use Rattle.office.specs.declared.replies.Reply.{Reply}
use Rattle.ledger.specs.Shifting.{LeavesWhole}
use Rattle.office_tables.specs.Standing.{LeftAs, Stands}
use Rattle.ledger.specs.Working.{HasWorked}
use Rattle.ledger_files.specs.Closing.{StandsAlone}
use Rattle.ledger_files.specs.Opening.{AreOf, IsAnswerFor}
use Rattle.ledger_files.specs.Rounds.{HasDone, HasWorkedFrom, HoldsOneOf, IsAfter, IsLink, MayLeave, MayLeaveClosed}
use Rattle.ledger_files.specs.Unfinished.{IsUnclosed}
use Rattle.ledger_files.specs.declared.closed.Closed.{Closed}
use Rattle.ledger_files.proofs.ClosingLemmas.{closed_are_of}
use Rattle.ledger_tables.specs.declared.openings.OpenFault.{OpenFault}
use Rattle.ledger_tables.specs.declared.openings.OpenFault.TheVariants.{Store}

module _ {D : Type 0} {g : Ghosts D} (files : Image) where
  -- work of a bureau that was opened on files
  pub worked_from : (Tells : List Command → List Reply → Type 0) (old now : Held (FileStore D g)) (is_broken : Bool) → doubt (file_state old).is_clean ≤ doubt (file_state now).is_clean
      → (HasCleanDisk (file_state old) → IsAnswerFor files (Ok tt)) → (HasCleanDisk (file_state old) → (o : Office) → AreOf files o → ∥ Stands (file_state old) o ∥₁)
      → HasWorked over_files old now is_broken Tells → HasWorkedFrom files now is_broken Tells
  worked_from Tells old now is_broken early version found it = record {
    commands = it.commands;
    replies = it.replies;
    told = it.told;
    done = record {
      opened = λ clean. let was : HasCleanDisk (file_state old) = omega (arith, early) in version was;
      all = elim it.works.ends [ inl whole ↦ inl whole.0 | inr broken ↦ inr broken ];
      after = λ clean o are.
          let was : HasCleanDisk (file_state old) = omega (arith, early) in
          ∥∥₁_map (found was o are) (λ s.
          let r : IsAfter now it.commands it.replies o = record {
            replied = it.are clean o s;
            left = λ db may. it.works.leads clean o s db may;
            stands = λ all. elim it.works.ends [ inl whole ↦ whole.1 clean o s | inr broken ↦ absurd (omega (arith, all, broken.1)) ];
          } in r);
    };
  }

  module _ (now : Held (FileStore D g)) (is_broken : Bool) (commands : List Command) (replies : List Reply) (it : HasDone files now is_broken commands replies) where
    -- all commands, or all but the last, were replied to
    all_but_last : length commands ≤ length replies + 1
    all_but_last = elim it.all [ inl whole ↦ omega (arith, whole) | inr broken ↦ omega (arith, broken.1) ]

    -- what a stop leaves of it
    pub link_from : (left : FileStore D g) → doubt (file_state now).is_clean ≤ doubt (view left).is_clean
        → (IsClean (view left) → (image : Image) → (store.state left).may_leave image → HoldsOneOf (view left).has_sums image (file_state now).may_leave)
        → IsLink files (MayLeave left) commands replies
    link_from left late holds = record {
      opened = λ image may. let was : HasCleanDisk (file_state now) = omega (arith, late, may.0) in it.opened was;
      all = all_but_last;
      leads = λ image may o are.
          let was : HasCleanDisk (file_state now) = omega (arith, late, may.0) in
          ∥∥₁_elim (it.after was o are) squash₁ (λ after.
          ∥∥₁_map (holds may.0 image may.1) (λ one.
          let here = after.left one.0 one.1 in
          let r : (replies ≡ (fold (take (length replies) commands) o).1) × ((x : Office) × IsLeft o commands (length replies) x × AreOf image x) =
          (after.replied, (here.left, here.beginning, ∣ (let f : (db : Trees) × HoldsDatabase image db × LeftAs db here.left = (one.0, one.2, here.rows) in f) ∣₁)) in r));
    }

    -- what is left of it once its files were closed
    closed_link_of : is_broken ≡ false → (closed : Closed D g) → (AreClean g closed.files.log closed.files.db → HasCleanDisk (file_state now))
        → (AreClean g closed.files.log closed.files.db → (o : Office) → Stands (file_state now) o → (left : Image) → outcomes g closed.files.log closed.files.db left → StandsAlone left o)
        → IsLink files (MayLeaveClosed closed) commands replies
    closed_link_of whole closed cleaned alone =
        let all : length replies ≡ length commands = elim it.all [ inl same ↦ same | inr broken ↦ absurd (let t = broken.0 in let e = whole in cc) ] in
        record {
          opened = λ image may. it.opened (cleaned may.0);
          all = all_but_last;
          leads = λ image may o are.
              ∥∥₁_map (it.after (cleaned may.0) o are) (λ after.
              let last = (fold commands o).0 in
              let taken : IsLeft o commands (length replies) last = (length commands, omega (arith, all), omega arith, ap (λ cs. (fold cs o).0) (sym (take-length commands))) in
              let r : (replies ≡ (fold (take (length replies) commands) o).1) × ((x : Office) × IsLeft o commands (length replies) x × AreOf image x) =
              (after.replied, (last, taken, closed_are_of image may.1.0 last may.1.2 (alone may.0 last (after.stands all) may.1.0 may.1.1))) in r);
        }

    -- what is left of it where its files were not closed
    pub unclosed_of : (fault : OpenFault) (left : FileStore D g) → doubt (file_state now).is_clean ≤ doubt (view left).is_clean
        → ((db : Trees) → recovers left db → (file_state now).may_leave db)
        → ((fault ≡ Store) × IsLink files (MayLeave left) commands replies) ⊎ (length replies ≡ length commands) → IsUnclosed files fault left commands replies
    unclosed_of fault left late kept ended = record {
      all = all_but_last;
      leads = λ clean o are.
          let was : HasCleanDisk (file_state now) = omega (arith, late, clean) in
          ∥∥₁_map (it.after was o are) (λ after.
          let r : (replies ≡ (fold (take (length replies) commands) o).1) × ((db : Trees) → recovers left db → LeavesWhole db o commands (length replies)) =
          (after.replied, λ db may. after.left db (kept db may)) in r);
      ended = ended;
    }

-- an end that closes the files is a link for any work before it
pub closed_link : {D : Type 0} {g : Ghosts D} (now : Held (FileStore D g)) (is_broken : Bool) → is_broken ≡ false → (result : Result (Closed D g) (OpenFault × FileStore D g))
    → IfOk result (λ closed. AreClean g closed.files.log closed.files.db → HasCleanDisk (file_state now))
    → IfOk result (λ closed. AreClean g closed.files.log closed.files.db → (o : Office) → Stands (file_state now) o → (left : Image) → outcomes g closed.files.log closed.files.db left → StandsAlone left o)
    → IfOk result (λ closed. (files : Image) → (commands : List Command) → (replies : List Reply) → HasDone files now is_broken commands replies → IsLink files (MayLeaveClosed closed) commands replies)
closed_link now is_broken whole (Ok closed) cleaned alone = λ files commands replies it. closed_link_of files now is_broken commands replies it whole closed cleaned alone
closed_link now is_broken whole (Err left) cleaned alone = tt

-- work of a bureau that is not broken, whose files were not closed
pub unclosed_whole : {D : Type 0} {g : Ghosts D} (now : Held (FileStore D g)) (is_broken : Bool) → is_broken ≡ false → (result : Result (Closed D g) (OpenFault × FileStore D g))
    → IfErr result (λ e. (db : Trees) → recovers e.1 db → (file_state now).may_leave db) → IfErr result (λ e. doubt (file_state now).is_clean ≤ doubt (view e.1).is_clean)
    → IfErr result (λ e. (files : Image) → (commands : List Command) → (replies : List Reply) → HasDone files now is_broken commands replies → IsUnclosed files e.0 e.1 commands replies)
unclosed_whole now is_broken whole (Ok closed) kept late = tt
unclosed_whole now is_broken whole (Err left) kept late = λ files commands replies it.
    let all : length replies ≡ length commands = elim it.all [ inl same ↦ same | inr broken ↦ absurd (let t = broken.0 in let e = whole in cc) ] in
    unclosed_of files now is_broken commands replies it left.0 left.1 late kept (inr all)
