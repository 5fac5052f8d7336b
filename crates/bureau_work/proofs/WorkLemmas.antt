-- What the work tells.
use Rattle.std.proofs.Common.{◌≡◌, ◌⊎◌, inl, inr, ℕ, suc, ◌+◌, ◌≤◌, Bool, false, List, [], ◌∷◌, ◌++◌, length, Option, None, Some, refl, sym, subst, add-one}
use Rattle.sqlite.specs.Held.{Held, state}
use Rattle.sqlite.specs.View.{doubt}
use Rattle.sqlite_trees.specs.declared.store.Store.{Ghosts}
use Rattle.std.specs.List.{AllByRecursion}
use Rattle.ledger.proofs.WorkLemmas.{all_of, worked_after, worked_so}
use Rattle.ledger.specs.Working.{HasWorked}
use Rattle.ledger_tables.specs.declared.openings.OpenFault.TheVariants as opening
use Rattle.office.specs.declared.commands.Command.{Command}
use Rattle.office.specs.declared.replies.Reply.{Reply}
use Rattle.bureau_work.specs.Visits.{AreTurns, IsTurn, Serves, TellsServe}
use Rattle.bureau_work.specs.Work.{AsksForMade, Bytes, IsOnJob, TellsAsked, TellsExport, query_for}
use Rattle.bureau_work.specs.declared.exporting.Part.{Part}
use Rattle.bureau_work.specs.declared.exporting.Part.TheVariants as part
use Rattle.bureau_work.specs.declared.outcomes.Outcome.TheVariants as outcome

-- ---- serving

module _ {C : Type 0} (Came : C → C → Bytes → Bytes → Type 0) (Missed : C → C → Type 0) (Went : C → C → Bytes → Type 0) where
  -- there was no memory to begin
  pub served_none : (count : ℕ) (first : C) → Serves Came Missed Went count (outcome.Fault opening.NoMemory) first first [] []
  served_none count first = record { turns = 0; are = (refl, refl, refl); all = λ is. absurd (let e = is in cc); replied = inl refl }

  -- .. or no clients
  pub told_none : (count : ℕ) (clients : Option C) → TellsServe Came Missed Went count (outcome.Fault opening.NoMemory) clients clients [] []
  told_none count None = (inr refl, refl, refl)
  told_none count (Some first) = served_none count first

  pub no_clients : (count : ℕ) (clients after : Option C) → clients ≡ None → TellsServe Came Missed Went count outcome.Device clients after [] []
  no_clients count clients after none = subst (λ c. TellsServe Came Missed Went count outcome.Device c after [] []) (sym none) (inl refl, refl, refl)

module _ {C : Type 0} (Came : C → C → Bytes → Bytes → Type 0) (Missed : C → C → Type 0) (Went : C → C → Bytes → Type 0) {S : Type 0} (g : Ghosts S) (old new : Held S) where
  -- one turn after others
  pub served_more : (turns : ℕ) (first between last : C) (mid : Held S) (is_broken : Bool) → doubt (state g mid).is_clean ≤ doubt (state g new).is_clean
      → HasWorked g old mid false (AreTurns Came Missed Went turns first between) → HasWorked g mid new is_broken (IsTurn Came Missed Went between last)
      → HasWorked g old new is_broken (AreTurns Came Missed Went (turns + 1) first last)
  served_more turns first between last mid is_broken early one two =
      subst (λ n. HasWorked g old new is_broken (AreTurns Came Missed Went n first last)) (sym (add-one turns))
      (worked_after g old mid new is_broken (AreTurns Came Missed Went turns first between) (IsTurn Came Missed Went between last) (AreTurns Came Missed Went (suc turns) first last) early one two
      (λ cs ds rs qs a b. (between, cs, ds, rs, qs, refl, refl, a, b)))

  -- a bureau that is not broken has replied to each command
  pub served_all : (count : ℕ) (first last : C) (is_broken : Bool) → HasWorked g old new false (AreTurns Came Missed Went count first last)
      → HasWorked g old new is_broken (Serves Came Missed Went count outcome.Done first last)
  served_all count first last is_broken it =
      let whole = all_of g old new it.commands (length it.replies) it.works.ends in
      record {
        commands = it.commands;
        replies = it.replies;
        told = record { turns = count; are = it.told; all = λ is. refl; replied = inl whole.0 };
        works = record { leads = it.works.leads; ends = inl whole };
        are = it.are;
      }

  -- fault 2 came
  pub served_until : (turns count : ℕ) (first last : C) (is_broken : Bool) → HasWorked g old new is_broken (AreTurns Came Missed Went turns first last)
      → HasWorked g old new is_broken (Serves Came Missed Went count (outcome.Fault opening.Store) first last)
  served_until turns count first last is_broken =
      worked_so g old new is_broken (AreTurns Came Missed Went turns first last) (Serves Came Missed Went count (outcome.Fault opening.Store) first last)
      (λ done replies told. record { turns = turns; are = told; all = λ is. absurd (let e = is in cc); replied = inr refl })

pub not_broken : {S : Type 0} (g : Ghosts S) (old new : Held S) (Tells : List Command → List Reply → Type 0) (is_broken : Bool) → is_broken ≡ false → HasWorked g old new is_broken Tells → HasWorked g old new false Tells
not_broken g old new Tells is_broken is it = subst (λ b. HasWorked g old new b Tells) is it

module _ {S : Type 0} (g : Ghosts S) (old new : Held S) where
  -- ---- exporting

  -- it was whole, so it may be said of a bureau that is broken or not
  pub whole_so_far : (Tells : List Command → List Reply → Type 0) (is_broken : Bool) → HasWorked g old new false Tells → HasWorked g old new is_broken Tells
  whole_so_far Tells is_broken it =
      let whole = all_of g old new it.commands (length it.replies) it.works.ends in
      record { commands = it.commands; replies = it.replies; told = it.told; works = record { leads = it.works.leads; ends = inl whole }; are = it.are }

  module _ (customer : List ℕ) (number : ℕ) where
    -- the query for a part
    asks_for : (of : Part) (it : Command) → IsOnJob customer number (query_for of) it → AsksForMade customer number it
    asks_for (part.Cards from) it on = inl (from, on)
    asks_for part.Lines it on = inr on

    all_ask : (of : Part) (done : List Command) → AllByRecursion (IsOnJob customer number (query_for of)) done → AllByRecursion (AsksForMade customer number) done
    all_ask of [] all = tt
    all_ask of (it ∷ done) all = (asks_for of it all.0, all_ask of done all.1)

    -- .. after those for others
    all_asked : (of : Part) (first second : List Command) → AllByRecursion (AsksForMade customer number) first
        → AllByRecursion (IsOnJob customer number (query_for of)) second → AllByRecursion (AsksForMade customer number) (first ++ second)
    all_asked of [] second all more = all_ask of second more
    all_asked of (it ∷ first) second all more = (all.0, all_asked of first second all.1 more)

    pub asked_more : (mid : Held S) (is_broken : Bool) (of : Part) → doubt (state g mid).is_clean ≤ doubt (state g new).is_clean
        → HasWorked g old mid false (TellsExport customer number) → HasWorked g mid new is_broken (TellsAsked customer number (query_for of))
        → HasWorked g old new is_broken (TellsExport customer number)
    asked_more mid is_broken of early one two =
        worked_after g old mid new is_broken (TellsExport customer number) (TellsAsked customer number (query_for of)) (TellsExport customer number) early
        one two (λ cs ds rs qs a b. all_asked of cs ds a b)
