-- Work after work.
use Rattle.std.proofs.Common.{◌≡◌, ◌⊎◌, inl, inr, ℕ, zero, suc, ◌+◌, ◌≤◌, ◌<◌, Bool, false, List, [], ◌∷◌, ◌++◌, length, take, Option, None, Some, refl, sym, ap, subst, ◌∙◌, arith, length-append}
use Rattle.std.proofs.lemmas.List.{take_all, take-take, length-take-le}
use Rattle.std.specs.Prelude.{IsTrue}
use Rattle.office.specs.Office as office
use Rattle.office.specs.Office.{Office, fold}
use Rattle.office.specs.declared.commands.Command.{Command}
use Rattle.office.specs.declared.replies.Reply.{Reply}
use Rattle.sqlite.specs.Effect.{Database}
use Rattle.sqlite.specs.Held.{Held, state}
use Rattle.sqlite.specs.State.{HasCleanDisk}
use Rattle.sqlite.specs.Tree.{Trees}
use Rattle.sqlite.specs.View.{doubt}
use Rattle.sqlite_trees.specs.declared.store.Store.{Ghosts}
use Rattle.ledger_tables.specs.declared.faults.Fault.{Fault}
use Rattle.ledger_tables.specs.declared.faults.Fault.TheVariants.{NoMemory, Store}
use Rattle.office_tables.specs.Standing.{Rows, Stands, LeftAs}
use Rattle.ledger.specs.Shifting.{LeavesWhole, StandsAfter, LeavesBeginning}
use Rattle.ledger.specs.Working.{AreRepliesTo, Continues, HasWorked, IsEndOf, Works, carried_out}
use Rattle.ledger.specs.WholeRows.{HaveWholeRows}
use Rattle.ledger.proofs.ShiftLemmas.{leaves_after}

-- ---- lists of commands

-- the office after commands and more commands
pub fold_both : (first second : List Command) (o : Office) → (fold (first ++ second) o).0 ≡ (fold second (fold first o).0).0
unfolding fold
fold_both [] second o = refl
fold_both (command ∷ first) second o = fold_both first second (office.take command o).0

-- .. and the replies
pub replies_both : (first second : List Command) (o : Office) → (fold (first ++ second) o).1 ≡ (fold first o).1 ++ (fold second (fold first o).0).1
unfolding fold
replies_both [] second o = refl
replies_both (command ∷ first) second o = ap (λ (rest : List Reply). (office.take command o).1 ∷ rest) (replies_both first second (office.take command o).0)

-- a beginning of lists that are joined, which holds the whole first list
pub take_both : (n k : ℕ) (first second : List Command) → k ≡ length first + n → take k (first ++ second) ≡ first ++ take n second
take_both n k [] second is = let same : k ≡ n = omega (arith, is) in ap (λ m. take m second) same
take_both n zero (c ∷ first) second is = absurd (omega (arith, is))
take_both n (suc k) (c ∷ first) second is = ap (λ (cs : List Command). c ∷ cs) (take_both n k first second (omega (arith, is)))

-- what work leaves after commands that were all acknowledged
pub leaves_on : (db : Trees) (o : Office) (first second : List Command) (acknowledged all : ℕ) → all ≡ length first + acknowledged
    → LeavesWhole db (fold first o).0 second acknowledged → LeavesWhole db o (first ++ second) all
leaves_on db o first second acknowledged all are it =
    let taken = it.beginning.0 in
    record {
      left = it.left;
      beginning = (
        length first + taken,
        omega (arith, it.beginning.1, are),
        omega (arith, it.beginning.2, length-append first second),
        it.beginning.3 ∙ sym (fold_both first (take taken second) o) ∙ ap (λ cs. (fold cs o).0) (sym (take_both taken (length first + taken) first second refl)),
      );
      rows = it.rows;
      whole = it.whole;
    }

-- ---- one work after another

-- a bureau that is not broken has acknowledged all
pub all_of : {S : Type 0} (g : Ghosts S) (old new : Held S) (commands : List Command) (n : ℕ) → IsEndOf g old new commands false n → (n ≡ length commands) × Continues g old new commands
all_of g old new commands n (inl all) = all
all_of g old new commands n (inr broken) = absurd (let e = broken.0 in cc)

module _ {S : Type 0} (g : Ghosts S) (old mid new : Held S) (first second : List Command) (early : doubt (state g mid).is_clean ≤ doubt (state g new).is_clean) where
  -- work after commands that were all acknowledged is work
  pub works_on : (is_broken : Bool) (acknowledged all : ℕ) → all ≡ length first + acknowledged → Continues g old mid first → Works g mid new second is_broken acknowledged
      → Works g old new (first ++ second) is_broken all
  works_on is_broken acknowledged all are before it = record {
    leads = λ clean o s db may.
        let was : HasCleanDisk (state g mid) = omega (arith, early) in
        leaves_on db o first second acknowledged all are (it.leads clean (fold first o).0 (before was o s) db may);
    ends = elim it.ends [
      | inl whole ↦ inl (
        omega (arith, whole.0, are, length-append first second),
        λ clean o s.
            let was : HasCleanDisk (state g mid) = omega (arith, early) in
            subst (Stands (state g new)) (sym (fold_both first second o)) (whole.1 clean (fold first o).0 (before was o s)),
      )
      | inr broken ↦ inr (broken.0, omega (arith, broken.1, are, length-append first second))
    ];
  }

  -- and so are the replies
  pub are_on : (some more : List Reply) → length some ≡ length first → Continues g old mid first → AreRepliesTo g old mid first some → AreRepliesTo g mid new second more
      → AreRepliesTo g old new (first ++ second) (some ++ more)
  are_on some more all before are rest clean o s =
      let was : HasCleanDisk (state g mid) = omega (arith, early) in
      let one : some ≡ (fold first o).1 = are was o s ∙ ap (λ cs. (fold cs o).1) (take_all (length some) first (omega (arith, all))) in
      let two : more ≡ (fold (take (length more) second) (fold first o).0).1 = rest clean (fold first o).0 (before was o s) in
      let count : length (some ++ more) ≡ length first + length more = omega (arith, all, length-append some more) in
      ap (λ rs. rs ++ more) one ∙ ap (λ rs. (fold first o).1 ++ rs) two ∙ sym (replies_both first (take (length more) second) o)
      ∙ ap (λ cs. (fold cs o).1) (sym (take_both (length more) (length (some ++ more)) first second count))

-- two works in a row, of which both things are told
pub worked_after : {S : Type 0} (g : Ghosts S) (old mid new : Held S) (is_broken : Bool) (One Two Both : List Command → List Reply → Type 0)
    → doubt (state g mid).is_clean ≤ doubt (state g new).is_clean → HasWorked g old mid false One → HasWorked g mid new is_broken Two
    → ((cs ds : List Command) (rs qs : List Reply) → One cs rs → Two ds qs → Both (cs ++ ds) (rs ++ qs)) → HasWorked g old new is_broken Both
worked_after g old mid new is_broken One Two Both early one two join =
    let ended = all_of g old mid one.commands (length one.replies) one.works.ends in
    record {
      commands = one.commands ++ two.commands;
      replies = one.replies ++ two.replies;
      told = join one.commands two.commands one.replies two.replies one.told two.told;
      works = works_on g old mid new one.commands two.commands early is_broken (length two.replies) (length (one.replies ++ two.replies)) (omega (arith, ended.0, length-append one.replies two.replies)) ended.1 two.works;
      are = are_on g old mid new one.commands two.commands early one.replies two.replies ended.0 ended.1 one.are two.are;
    }

-- what is told of work may be told in other words
pub worked_so : {S : Type 0} (g : Ghosts S) (old new : Held S) (is_broken : Bool) (One Other : List Command → List Reply → Type 0)
    → ((cs : List Command) (rs : List Reply) → One cs rs → Other cs rs) → HasWorked g old new is_broken One → HasWorked g old new is_broken Other
worked_so g old new is_broken One Other so it = record { commands = it.commands; replies = it.replies; told = so it.commands it.replies it.told; works = it.works; are = it.are }

-- ---- what one command does, and what many do

-- the bureau keeps its office
abbrev pub Keeps : {S : Type 0} → Ghosts S → Held S → Held S → Type 0
Keeps g old new = HasCleanDisk (state g new) → (o : Office) → Stands (state g old) o → Stands (state g new) o

module _ (law : (db : Database) (o : Office) → Rows db o → HaveWholeRows db o) {S : Type 0} (g : Ghosts S) (old new : Held S) (is_broken : Bool) where
  -- nothing was carried out
  pub worked_still : (Tells : List Command → List Reply → Type 0) → Keeps g old new → Tells [] [] → HasWorked g old new is_broken Tells
  unfolding fold
  worked_still Tells kept told = record {
    commands = [];
    replies = [];
    told = told;
    works = record {
      leads = λ clean o s db may.
          let rows : LeftAs db o = (kept clean o s).left db may in
          record { left = o; beginning = (0, omega arith, omega arith, refl); rows = rows; whole = law _ o rows };
      ends = inl (refl, kept);
    };
    are = λ clean o s. refl;
  }

  -- one command was carried out and replied to
  pub worked_one : (Tells : List Command → List Reply → Type 0) (command : Command) (reply : Reply)
      → (HasCleanDisk (state g new) → (o : Office) → Stands (state g old) o → (reply ≡ (office.take command o).1) × Stands (state g new) (office.take command o).0)
      → Tells (command ∷ []) (reply ∷ []) → HasWorked g old new is_broken Tells
  unfolding fold
  worked_one Tells command reply done told = record {
    commands = command ∷ [];
    replies = reply ∷ [];
    told = told;
    works = record {
      leads = λ clean o s db may.
          let rows : LeftAs db (office.take command o).0 = (done clean o s).1.left db may in
          record { left = (office.take command o).0; beginning = (1, omega arith, omega arith, refl); rows = rows; whole = law _ (office.take command o).0 rows };
      ends = inl (refl, λ clean o s. (done clean o s).1);
    };
    are = λ clean o s. ap (λ (r : Reply). r ∷ []) (done clean o s).0;
  }

  -- one command met fault 2, and may be kept
  pub worked_doubted : (Tells : List Command → List Reply → Type 0) (command : Command) → IsTrue is_broken
      → (HasCleanDisk (state g new) → (o : Office) → Stands (state g old) o → (db : Trees) → (state g new).may_leave db → LeftAs db o ⊎ LeftAs db (office.take command o).0)
      → Tells (command ∷ []) [] → HasWorked g old new is_broken Tells
  unfolding fold
  worked_doubted Tells command broken crash told = record {
    commands = command ∷ [];
    replies = [];
    told = told;
    works = record {
      leads = λ clean o s db may. elim (crash clean o s db may) [
        | inl rows ↦ (let r : LeavesWhole db o (command ∷ []) 0 = record { left = o; beginning = (0, omega arith, omega arith, refl); rows = rows; whole = law _ o rows } in r)
        | inr rows ↦ (let r : LeavesWhole db o (command ∷ []) 0 = record { left = (office.take command o).0; beginning = (1, omega arith, omega arith, refl); rows = rows; whole = law _ (office.take command o).0 rows } in r)
      ];
      ends = inr (broken, refl);
    };
    are = λ clean o s. refl;
  }

  -- commands were carried out in turn, up to the first fault
  module _ (Tells : List Command → List Reply → Type 0) (commands : List Command) (replies : List Reply)
      (are : HasCleanDisk (state g new) → (o : Office) → Stands (state g old) o → replies ≡ (fold (take (length replies) commands) o).1) where
    in_turn_kept : length replies ≤ length commands
        → (HasCleanDisk (state g new) → (o : Office) → Stands (state g old) o → Stands (state g new) (fold (take (length replies) commands) o).0)
        → Tells (take (length replies) commands) replies → HasWorked g old new is_broken Tells
    in_turn_kept within stands told =
        let n = length replies in
        let long : length (take n commands) ≡ n = length-take-le n commands within in
        record {
          commands = take n commands;
          replies = replies;
          told = told;
          works = record {
            leads = λ clean o s db may. leaves_after law db o commands n within ((stands clean o s).left db may);
            ends = inl (sym long, stands);
          };
          are = λ clean o s. are clean o s ∙ ap (λ cs. (fold cs o).1) (sym (take_all n (take n commands) (omega (arith, long))));
        }

    in_turn : (fault : Option Fault) → length replies ≤ length commands → (fault ≡ Some Store → IsTrue is_broken × (length replies < length commands))
        → StandsAfter g old new commands (length replies) fault → LeavesBeginning g old new commands (length replies) fault
        → Tells (carried_out commands (length replies) fault) replies → HasWorked g old new is_broken Tells
    in_turn None within broken stands leaves told = in_turn_kept within (λ clean o s. (stands clean (λ e. let f = e in cc) o s).0) told
    in_turn (Some NoMemory) within broken stands leaves told = in_turn_kept within (λ clean o s. (stands clean (λ e. let f = e in cc) o s).0) told
    in_turn (Some Store) within broken stands leaves told =
        let n = length replies in
        let more = broken refl in
        let long : length (take (n + 1) commands) ≡ n + 1 = length-take-le (n + 1) commands (omega (arith, more.1)) in
        record {
          commands = take (n + 1) commands;
          replies = replies;
          told = told;
          works = record { leads = leaves; ends = inr (more.0, long) };
          are = λ clean o s. are clean o s ∙ ap (λ cs. (fold cs o).1) (sym (take-take n (n + 1) commands (omega arith)));
        }

  pub worked_in_turn : (Tells : List Command → List Reply → Type 0) (commands : List Command) (replies : List Reply) (n : ℕ) → n ≡ length replies → (fault : Option Fault)
      → (HasCleanDisk (state g new) → (o : Office) → Stands (state g old) o → replies ≡ (fold (take n commands) o).1)
      → n ≤ length commands → (fault ≡ Some Store → IsTrue is_broken × (n < length commands))
      → StandsAfter g old new commands n fault → LeavesBeginning g old new commands n fault
      → Tells (carried_out commands n fault) replies → HasWorked g old new is_broken Tells
  worked_in_turn Tells commands replies n count fault are within broken stands leaves told =
      in_turn Tells commands replies (λ clean o s. are clean o s ∙ ap (λ m. (fold (take m commands) o).1) count) fault (omega (arith, within, count))
      (λ is. let b = broken is in (b.0, omega (arith, b.1, count)))
      (subst (λ m. StandsAfter g old new commands m fault) count stands)
      (subst (λ m. LeavesBeginning g old new commands m fault) count leaves)
      (subst (λ m. Tells (carried_out commands m fault) replies) count told)
