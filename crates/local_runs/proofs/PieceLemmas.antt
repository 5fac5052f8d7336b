-- runs in pieces
use Rattle.std.proofs.Common.{◌≡◌, ◌∙◌, ◌++◌, ◌+◌, ◌<◌, [], ℕ, List, length, append_assoc, ap, refl, sym, subst}
use Rattle.std.specs.Prelude.{Option}
use Rattle.std.specs.Io.KnownBytes.{Appends}
use Rattle.cards.specs.declared.Card.{Card}
use Rattle.core_store.specs.declared.sizes.Size.{Size}
use Rattle.units.specs.Listing.{HasListed, IsRising, Unwritten, rendered}
use Rattle.units.specs.Ranges.{the_top}
use Rattle.units.specs.declared.printer.Line.{Line}
use Rattle.units.specs.declared.profiles.Profile.TheVariants.{Selecting}
use Rattle.units.specs.declared.punch.Punched.{Punched}
use Rattle.units.specs.declared.switches.Switches.{Switches}
use Rattle.units.proofs.InRange.{lines_rise}
use Rattle.units.proofs.ListingLines.{shown_none}
use Rattle.units.proofs.ListingPieces.{nothing_shown}
use Rattle.machine.specs.Earlier.{IsBehind, with_earlier, without_outputs}
use Rattle.machine.specs.Ranges.{IsInRange}
use Rattle.machine.specs.Reports.{report_of}
use Rattle.machine.specs.Run.{State, after, lines_of, loaded}
use Rattle.machine.proofs.EarlierSteps.{after_along, aside_behind, aside_same, behind_after, report_same}
use Rattle.machine.proofs.InRange.{after_in_range}
use Rattle.machine.proofs.Steps.{after-after}
use Rattle.local_runs.specs.Pieces.{HasRun}

-- the lines of a machine in range rise
rise : (m : State) → IsInRange m → IsRising (lines_of m)
rise m h = lines_rise m.works.units.before.lines m.works.units.printer h.units.printer

-- what a listing of earlier lines becomes by these lines
abbrev pub Adds : Option (List ℕ) → Option (List ℕ) → Unwritten → Unwritten → List Line → Type 0
Adds old new w v lines = (first : Option (List ℕ)) (before : List Line) → IsRising (before ++ lines) → HasListed first old w before → HasListed first new v (before ++ lines)

module _ (start : State) (steps : ℕ) (first old new : Option (List ℕ)) (w v : Unwritten) (m : State) (in_range : IsInRange start)
    (h : HasRun start steps first old w m) (added : Adds old new w v (lines_of m)) where
  rising : IsRising (h.lines ++ lines_of m)
  rising = subst (λ (t : State). IsRising (lines_of t)) (sym h.machine) (rise (after start steps) (after_in_range start steps in_range))

  -- the lines so far and the machine's own are listed
  listed_all : HasListed first new v (h.lines ++ lines_of m)
  listed_all = added first h.lines rising h.listed

  -- what was made is set aside, and the run goes on
  pub run_further : (limit : ℕ) (last : State) → last ≡ after (without_outputs m) limit → HasRun start (steps + limit) first new v last
  run_further limit last is =
      let cards = h.cards ++ m.works.units.punch.cards in
      let lines = h.lines ++ lines_of m in
      let behind = aside_behind h.cards h.lines m h.behind in
      record {
        cards = cards;
        lines = lines;
        behind = subst (IsBehind cards lines) (sym is) (behind_after cards lines (without_outputs m) limit behind);
        machine =
            ap (with_earlier cards lines) is
            ∙ sym (after_along cards lines (without_outputs m) limit behind)
            ∙ ap (λ (t : State). after t limit) (aside_same h.cards h.lines m ∙ h.machine)
            ∙ after-after start steps limit;
        listed = listed_all;
      }

  -- all lines are those of the whole run, and so is the report
  pub lines_are : h.lines ++ lines_of m ≡ lines_of (after start steps)
  lines_are = ap lines_of h.machine

  pub report_is : report_of m ≡ report_of (after start steps)
  report_is = sym (report_same h.cards h.lines m h.behind) ∙ ap report_of h.machine

  pub whole : (last : Option (List ℕ)) → ((first : Option (List ℕ)) (lines : List Line) → HasListed first new v lines → Appends first last (rendered lines)) →
      Appends first last (rendered (lines_of (after start steps)))
  whole last finished = subst (λ (xs : List Line). Appends first last (rendered xs)) lines_are (finished first (h.lines ++ lines_of m) listed_all)

-- a loaded machine has run no step, and its listing begins
pub begun : (deck : List Card) (size : Size) (switches : Switches) (known : Option (List ℕ)) →
    HasRun (loaded deck size switches Selecting) 0 known known (record { piece = []; place = the_top }) (loaded deck size switches Selecting)
unfolding after
begun deck size switches known = record {
  cards = [];
  lines = [];
  behind = refl;
  machine = refl;
  listed = record { bytes = []; written = nothing_shown known [] refl; listed = shown_none };
}
