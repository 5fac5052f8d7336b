-- steps and runs of machines with cards and lines made earlier
use Rattle.std.proofs.Common.{ℕ, zero, suc, ◌+◌, ◌-◌, ◌≡◌, inl, inr, Bool, true, false, List, [], ◌∷◌, ◌++◌, length, length-append, append_assoc, Option, Some, None, Result, Ok, Err, ltb, refl, sym, ap, ◌∙◌, arith, if◌then◌else◌, ◌&&◌}
use Rattle.std.proofs.lemmas.List.{append-nil}
use Rattle.core_store.specs.Storage.{Storage, codes_from}
use Rattle.core_store.specs.Checked.{require, find_or, and_then}
use Rattle.core_store.specs.declared.checks.Check.{Check}
use Rattle.core_store.specs.declared.checks.Check.TheVariants.{Address, Instruction, PunchFull, PrinterFull}
use Rattle.core_store.specs.declared.registers.Registers.{Registers}
use Rattle.addresses.specs.Stored.{address_stored}
use Rattle.moves.specs.Marks.{storage_cleared}
use Rattle.units.specs.declared.devices.Devices.{Devices}
use Rattle.units.specs.declared.pockets.Pocket.{Pocket}
use Rattle.units.specs.declared.pockets.Pocket.TheVariants.{Normal}
use Rattle.units.specs.declared.printer.Line.{Line}
use Rattle.units.specs.declared.punch.Punched.{Punched}
use Rattle.units.specs.declared.reader.Hopper.{Hopper}
use Rattle.units.specs.declared.units.Counts.{Counts}
use Rattle.units.specs.declared.units.Units.{Units}
use Rattle.units.specs.declared.carriage.Carriage.{Carriage}
use Rattle.units.specs.declared.carriage.CarriageOrder.{CarriageOrder}
use Rattle.units.specs.Carriages.{after_line, ordered, carriage_moved}
use Rattle.units.specs.Pockets.{pocket_chosen}
use Rattle.units.specs.Printed.{Printed}
use Rattle.units.specs.Stacked.{Stacked, is_selecting}
use Rattle.units.specs.Ranges.{AreRising, IsOnForm, carriage_place, line_place, places_then, the_top}
use Rattle.units.specs.Units.{most_cards, most_lines, area_card, card_punched, line_printed, punch_works, printer_works, reader_works, punches, prints, together, operated, nothing_made, Makes}
use Rattle.machine.specs.declared.branches.Condition.{Condition}
use Rattle.machine.specs.declared.branches.Condition.TheVariants.{Always, IsUnequal, IsEqual, IsLow, IsHigh, Overflow, LastCard, SwitchOn, Channel12}
use Rattle.machine.specs.declared.named.Operation.{Operation}
use Rattle.machine.specs.declared.named.Operation.TheVariants.{OnFields, ClearStorage, Branch, BranchOnMarkOrZone, Operate, MoveCarriage, ChoosePocket, StoreA, StoreB, Halt, NoOperation}
use Rattle.machine.specs.declared.named.Modifier.{Modifier}
use Rattle.machine.specs.declared.named.Modifier.TheVariants.{Plain, OnCondition, OnCharacter, OnTest, ByOrder, ToPocket}
use Rattle.machine.specs.declared.named.Decoded.{Decoded}
use Rattle.machine.specs.declared.operations.Course.{Course}
use Rattle.machine.specs.Branches.{is_met}
use Rattle.machine.specs.Word.{word, decoded}
use Rattle.machine.specs.Effect.{Works, attempt, effect, filled, next_of, ordered_by, pocket_by, worked, is_taken, after_branch}
use Rattle.machine.specs.Ranges.{IsInRange}
use Rattle.machine.specs.Reports.{report_of}
use Rattle.machine.specs.Run.{State, step, after, attempts, executed, attempted, is_running, is_checked, lines_of}
use Rattle.machine.proofs.Steps.{step_keeps, stems_after, stems_same, step_running, step_stopped}
use Rattle.machine.specs.Earlier.{punch_with, printer_with, units_with, works_with, with_earlier, without_outputs, AreBehind, IsBehind}

-- ---- an outcome with each value changed

abbrev pub along : {S T : Type 0} → (S → T) → Result S Check → Result T Check
along f (Ok x) = Ok (f x)
along f (Err check) = Err check

along_require : {S T : Type 0} (f : S → T) (test : Bool) (check : Check) (p : Result T Check) (q : Result S Check) → p ≡ along f q → require test check p ≡ along f (require test check q)
along_require f true check p q h = h
along_require f false check p q h = refl

along_find : {S T U : Type 0} (f : S → T) (found : Option U) (check : Check) (p : U → Result T Check) (q : U → Result S Check) → ((x : U) → p x ≡ along f (q x)) →
    find_or found check p ≡ along f (find_or found check q)
along_find f (Some x) check p q h = h x
along_find f None check p q h = refl

along_then : {S T U : Type 0} (f : S → T) (first : Result U Check) (p : U → Result T Check) (q : U → Result S Check) → ((x : U) → p x ≡ along f (q x)) →
    and_then first p ≡ along f (and_then first q)
along_then f (Ok x) p q h = h x
along_then f (Err check) p q h = refl

-- the same where the first outcome is changed too
along_both : {S T U V : Type 0} (f : S → T) (g : U → V) (first : Result V Check) (second : Result U Check) (p : V → Result T Check) (q : U → Result S Check) → first ≡ along g second →
    ((x : U) → p (g x) ≡ along f (q x)) → and_then first p ≡ along f (and_then second q)
along_both f g first (Ok x) p q e h = ap (λ r. and_then r p) e ∙ h x
along_both f g first (Err check) p q e h = ap (λ r. and_then r p) e

-- ---- the punch and the printer

more_cards : (cards : List Punched) (s : Storage) (p : Stacked) → card_punched 0 s (punch_with cards p) ≡ along (punch_with cards) (card_punched (length cards) s p)
unfolding card_punched
more_cards cards s p =
    let one : Punched = record { card = area_card s; pocket = p.chosen } in
    let all : 0 + length (cards ++ p.cards) ≡ length cards + length p.cards = omega (arith, length-append cards p.cards) in
    rw all
    (along_require (punch_with cards) (ltb (length cards + length p.cards) most_cards) PunchFull _ _
    (ap (λ (xs : List Punched). let q : Stacked = record p { cards = xs; chosen = Normal } in Ok q) (append_assoc cards p.cards (one ∷ []))))

more_punched : (cards : List Punched) (devices : Devices) (s : Storage) (p : Stacked) →
    punch_works devices 0 s (punch_with cards p) ≡ along (punch_with cards) (punch_works devices (length cards) s p)
unfolding punch_works
more_punched cards devices s p = by_test (punches devices) where
  by_test : (test : Bool) → (if test then card_punched 0 s (punch_with cards p) else Ok (punch_with cards p)) ≡ along (punch_with cards) (if test then card_punched (length cards) s p else Ok p)
  by_test true = more_cards cards s p
  by_test false = refl

pocket_along : (cards : List Punched) (pocket : Pocket) (p : Stacked) → pocket_chosen pocket (punch_with cards p) ≡ along (punch_with cards) (pocket_chosen pocket p)
unfolding pocket_chosen
pocket_along cards pocket p = along_require (punch_with cards) (is_selecting p.profile) Instruction _ _ refl

more_lines : (lines : List Line) (s : Storage) (p : Printed) → line_printed 0 s (printer_with lines p) ≡ along (printer_with lines) (line_printed (length lines) s p)
unfolding line_printed
more_lines lines s p =
    let one : Line = record { form = p.carriage.form; line = p.carriage.line; codes = codes_from s 201 132 } in
    let all : 0 + length (lines ++ p.lines) ≡ length lines + length p.lines = omega (arith, length-append lines p.lines) in
    rw all
    (along_require (printer_with lines) (ltb (length lines + length p.lines) most_lines) PrinterFull _ _
    (along_find (printer_with lines) (after_line p.carriage) PrinterFull _ _ (λ carriage.
    ap (λ (xs : List Line). let q : Printed = record { lines = xs; carriage = carriage } in Ok q) (append_assoc lines p.lines (one ∷ [])))))

more_printed : (lines : List Line) (devices : Devices) (s : Storage) (p : Printed) →
    printer_works devices 0 s (printer_with lines p) ≡ along (printer_with lines) (printer_works devices (length lines) s p)
unfolding printer_works
more_printed lines devices s p = by_test (prints devices) where
  by_test : (test : Bool) → (if test then line_printed 0 s (printer_with lines p) else Ok (printer_with lines p)) ≡ along (printer_with lines) (if test then line_printed (length lines) s p else Ok p)
  by_test true = more_lines lines s p
  by_test false = refl

carriage_along : (lines : List Line) (order : CarriageOrder) (p : Printed) → carriage_moved order (printer_with lines p) ≡ along (printer_with lines) (carriage_moved order p)
unfolding carriage_moved
carriage_along lines order p = along_find (printer_with lines) (ordered order p.carriage) PrinterFull _ _ (λ carriage. refl)

ordered_along : (lines : List Line) (modifier : Modifier) (p : Printed) → ordered_by modifier (printer_with lines p) ≡ along (printer_with lines) (ordered_by modifier p)
ordered_along lines Plain p = refl
ordered_along lines (OnCondition condition) p = refl
ordered_along lines (OnCharacter code) p = refl
ordered_along lines (OnTest test) p = refl
ordered_along lines (ByOrder order) p = carriage_along lines order p
ordered_along lines (ToPocket pocket) p = refl

-- ---- one operation of the units

module _ (cards : List Punched) (lines : List Line) where
  abbrev made_along : Storage × Units → Storage × Units
  made_along done = (done.0, units_with cards lines done.1)

  together_along : (u : Units) (reader : Result (Storage × Hopper) Check) (punch : Result Stacked Check) (printer : Result Printed Check) →
      together (units_with cards lines u) reader (along (punch_with cards) punch) (along (printer_with lines) printer) ≡ along made_along (together u reader punch printer)
  together_along u (Ok read) (Ok made) (Ok printed) = refl
  together_along u (Ok read) (Ok made) (Err check) = refl
  together_along u (Ok read) (Err check) printer = refl
  together_along u (Err check) punch printer = refl

  operated_along : (devices : Devices) (s : Storage) (u : Units) → AreBehind cards lines u → operated devices s (units_with cards lines u) ≡ along made_along (operated devices s u)
  unfolding operated
  operated_along devices s u behind =
      let punched : punch_works devices 0 s (punch_with cards u.punch) ≡ along (punch_with cards) (punch_works devices u.before.cards s u.punch) =
      more_punched cards devices s u.punch ∙ ap (λ (n : Counts). along (punch_with cards) (punch_works devices n.cards s u.punch)) (sym behind) in
      let printed : printer_works devices 0 s (printer_with lines u.printer) ≡ along (printer_with lines) (printer_works devices u.before.lines s u.printer) =
      more_printed lines devices s u.printer ∙ ap (λ (n : Counts). along (printer_with lines) (printer_works devices n.lines s u.printer)) (sym behind) in
      ap (λ c. together (units_with cards lines u) (reader_works devices s u.hopper) c (printer_works devices 0 s (printer_with lines u.printer))) punched
      ∙ ap (together (units_with cards lines u) (reader_works devices s u.hopper) (along (punch_with cards) (punch_works devices u.before.cards s u.punch))) printed
      ∙ together_along u (reader_works devices s u.hopper) (punch_works devices u.before.cards s u.punch) (printer_works devices u.before.lines s u.printer)

  -- ---- one instruction

  met_same : (condition : Condition) (r : Registers) (u : Units) → is_met condition r (units_with cards lines u) ≡ is_met condition r u
  unfolding is_met
  met_same Always r u = refl
  met_same IsUnequal r u = refl
  met_same IsEqual r u = refl
  met_same IsLow r u = refl
  met_same IsHigh r u = refl
  met_same Overflow r u = refl
  met_same LastCard r u = refl
  met_same (SwitchOn one) r u = refl
  met_same Channel12 r u = refl

  taken_same : (modifier : Modifier) (b : ℕ) (w : Works) → is_taken modifier b (works_with cards lines w) ≡ is_taken modifier b w
  taken_same Plain b w = refl
  taken_same (OnCondition condition) b w = met_same condition w.registers w.units
  taken_same (OnCharacter code) b w = refl
  taken_same (OnTest test) b w = refl
  taken_same (ByOrder order) b w = refl
  taken_same (ToPocket pocket) b w = refl

  branch_same : (d : Decoded) (next : ℕ) (w : Works) → after_branch d next (works_with cards lines w) ≡ after_branch d next w
  branch_same d next w = rw (taken_same d.modifier d.b w) refl

  abbrev done_along : Works × Course → Works × Course
  done_along done = (works_with cards lines done.0, done.1)

  branch_along : (d : Decoded) (next : ℕ) (w : Works) (course : Course) (r q : Registers) → r ≡ q →
      ◌≡◌ {A = Result (Works × Course) Check} (Ok (record (works_with cards lines w) { registers = r }, course)) (along done_along (Ok (record w { registers = q }, course)))
  branch_along d next w course r q e = rw e refl

  effect_along : (operation : Operation) (d : Decoded) (next : ℕ) (w : Works) → AreBehind cards lines w.units → effect operation d next (works_with cards lines w) ≡ along done_along (effect operation d next w)
  unfolding effect
  effect_along (OnFields operation) d next w behind = along_then done_along (worked operation w.storage (filled d w.registers)) _ _ (λ done. refl)
  effect_along ClearStorage d next w behind = along_then done_along (storage_cleared w.storage (filled d w.registers)) _ _ (λ done. refl)
  effect_along Branch d next w behind = branch_along d next w _ _ _ (branch_same d next w)
  effect_along BranchOnMarkOrZone d next w behind = branch_along d next w _ _ _ (branch_same d next w)
  effect_along (Operate devices) d next w behind = along_both done_along made_along _ (operated devices w.storage w.units) _ _ (operated_along devices w.storage w.units behind) (λ done. refl)
  effect_along MoveCarriage d next w behind = along_both done_along (printer_with lines) _ (ordered_by d.modifier w.units.printer) _ _ (ordered_along lines d.modifier w.units.printer) (λ p. refl)
  effect_along ChoosePocket d next w behind = along_both done_along (punch_with cards) _ (pocket_chosen (pocket_by d.modifier) w.units.punch) _ _ (pocket_along cards (pocket_by d.modifier) w.units.punch) (λ stacked. refl)
  effect_along StoreA d next w behind = along_then done_along (address_stored w.storage d.a w.registers.a) _ _ (λ s. refl)
  effect_along StoreB d next w behind = along_then done_along (address_stored w.storage d.a w.registers.b) _ _ (λ s. refl)
  effect_along Halt d next w behind = refl
  effect_along NoOperation d next w behind = refl

  attempt_along : (w : Works) → AreBehind cards lines w.units → attempt (works_with cards lines w) ≡ along done_along (attempt w)
  unfolding attempt
  attempt_along w behind =
      along_require done_along _ Address _ _
      (along_find done_along (word w.storage w.registers.i) Instruction _ _ (λ codes.
      along_then done_along (decoded w.storage w.registers codes) _ _ (λ d.
      effect_along d.operation d (next_of w.registers.i (length codes)) w behind)))

  -- ---- steps and runs

  attempted_along : (m : State) (outcome : Result (Works × Course) Check) → attempted (with_earlier cards lines m) (along done_along outcome) ≡ with_earlier cards lines (attempted m outcome)
  attempted_along m (Ok done) = refl
  attempted_along m (Err check) = refl

  step_along_if : (m : State) (running : Bool) → is_running m.standing ≡ running → AreBehind cards lines m.works.units → step (with_earlier cards lines m) ≡ with_earlier cards lines (step m)
  step_along_if m true e behind =
      step_running (with_earlier cards lines m) e ∙ ap (attempted (with_earlier cards lines m)) (attempt_along m.works behind) ∙ attempted_along m (attempt m.works)
      ∙ ap (with_earlier cards lines) (sym (step_running m e))
  step_along_if m false e behind = step_stopped (with_earlier cards lines m) e ∙ ap (with_earlier cards lines) (sym (step_stopped m e))

  step_along : (m : State) → AreBehind cards lines m.works.units → step (with_earlier cards lines m) ≡ with_earlier cards lines (step m)
  step_along m behind = step_along_if m (is_running m.standing) refl behind

  behind_step : (m : State) → AreBehind cards lines m.works.units → AreBehind cards lines (step m).works.units
  behind_step m behind = (step_keeps m).before ∙ behind

  pub behind_after : (m : State) (count : ℕ) → AreBehind cards lines m.works.units → AreBehind cards lines (after m count).works.units
  behind_after m count behind = (stems_after m m count (stems_same m)).before ∙ behind

  pub after_along : (m : State) (count : ℕ) → AreBehind cards lines m.works.units → after (with_earlier cards lines m) count ≡ with_earlier cards lines (after m count)
  unfolding after
  after_along m zero behind = refl
  after_along m (suc count) behind = ap (λ t. after t count) (step_along m behind) ∙ after_along (step m) count (behind_step m behind)

  pub attempts_along : (m : State) (count : ℕ) → AreBehind cards lines m.works.units → attempts (with_earlier cards lines m) count ≡ attempts m count
  unfolding attempts
  attempts_along m zero behind = refl
  attempts_along m (suc count) behind =
      ap (λ t. (if is_running m.standing then 1 else 0) + attempts t count) (step_along m behind)
      ∙ ap (λ n. (if is_running m.standing then 1 else 0) + n) (attempts_along (step m) count (behind_step m behind))

  pub executed_along : (m : State) (count : ℕ) → AreBehind cards lines m.works.units → executed (with_earlier cards lines m) count ≡ executed m count
  unfolding executed
  executed_along m count behind =
      ap (λ n. n - (if is_running m.standing && is_checked (after (with_earlier cards lines m) count).standing then 1 else 0)) (attempts_along m count behind)
      ∙ ap (λ (t : State). attempts m count - (if is_running m.standing && is_checked t.standing then 1 else 0)) (after_along m count behind)

  pub makes_along : (m next : State) → Makes m.works.units next.works.units → Makes (with_earlier cards lines m).works.units (with_earlier cards lines next).works.units
  makes_along m next (inl more) = inl (omega (arith, more, length-append cards m.works.units.punch.cards, length-append cards next.works.units.punch.cards))
  makes_along m next (inr more) = inr (omega (arith, more, length-append lines (lines_of m), length-append lines (lines_of next)))

-- ---- a machine without its cards and lines

on_form : (carriage : Carriage) → IsOnForm (carriage_place carriage) → AreRising the_top (places_then (carriage_place carriage) [])
on_form carriage h = ((h, inl (omega (arith, h.0))), tt)

last_on_form : (carriage : Carriage) (lines : List Line) → AreRising the_top (places_then (carriage_place carriage) lines) → IsOnForm (carriage_place carriage)
last_on_form carriage [] h = h.0.0
last_on_form carriage (l ∷ lines) h = last_behind l lines h.1 where
  last_behind : (l : Line) (lines : List Line) → AreRising (line_place l) (places_then (carriage_place carriage) lines) → IsOnForm (carriage_place carriage)
  last_behind l [] h = h.0.0
  last_behind l (x ∷ lines) h = last_behind x lines h.1

pub put_back : (m : State) → m.works.units.before ≡ nothing_made → with_earlier m.works.units.punch.cards (lines_of m) (without_outputs m) ≡ m
put_back m none = rw (append-nil m.works.units.punch.cards, append-nil (lines_of m), ← none) refl

pub left_behind : (m : State) → m.works.units.before ≡ nothing_made → IsBehind m.works.units.punch.cards (lines_of m) (without_outputs m)
left_behind m none =
    let no_cards : m.works.units.before.cards ≡ 0 = ap (λ (n : Counts). n.cards) none in
    let no_lines : m.works.units.before.lines ≡ 0 = ap (λ (n : Counts). n.lines) none in
    let cards : m.works.units.before.cards + length m.works.units.punch.cards ≡ length m.works.units.punch.cards = omega (arith, no_cards) in
    let lines : m.works.units.before.lines + length (lines_of m) ≡ length (lines_of m) = omega (arith, no_lines) in
    rw (cards, lines) refl

pub without_in_range : (m : State) → IsInRange m → IsInRange (without_outputs m)
without_in_range m h = record {
  size = h.size;
  registers = h.registers;
  units = record {
    reader = record { some = h.units.reader.some; most = h.units.reader.most };
    punch = omega (arith, h.units.punch);
    printer = record {
      most = omega (arith, h.units.printer.most);
      places = on_form m.works.units.printer.carriage (last_on_form m.works.units.printer.carriage (lines_of m) h.units.printer.places);
    };
    switches = h.units.switches;
  };
}

-- ---- a machine whose cards and lines are set aside

pub aside_same : (cards : List Punched) (lines : List Line) (m : State) →
    with_earlier (cards ++ m.works.units.punch.cards) (lines ++ lines_of m) (without_outputs m) ≡ with_earlier cards lines m
aside_same cards lines m = rw (append-nil (cards ++ m.works.units.punch.cards), append-nil (lines ++ lines_of m)) refl

pub aside_behind : (cards : List Punched) (lines : List Line) (m : State) → IsBehind cards lines m →
    IsBehind (cards ++ m.works.units.punch.cards) (lines ++ lines_of m) (without_outputs m)
aside_behind cards lines m behind =
    let own = m.works.units in
    let more_cards : own.before.cards + length own.punch.cards ≡ length (cards ++ own.punch.cards) = omega (arith, ap (λ (n : Counts). n.cards) behind, length-append cards own.punch.cards) in
    let more_lines : own.before.lines + length (lines_of m) ≡ length (lines ++ lines_of m) = omega (arith, ap (λ (n : Counts). n.lines) behind, length-append lines (lines_of m)) in
    rw (more_cards, more_lines) refl

pub report_same : (cards : List Punched) (lines : List Line) (m : State) → IsBehind cards lines m → report_of (with_earlier cards lines m) ≡ report_of m
report_same cards lines m behind =
    let own = m.works.units in
    let all_cards : 0 + length (cards ++ own.punch.cards) ≡ own.before.cards + length own.punch.cards = omega (arith, ap (λ (n : Counts). n.cards) behind, length-append cards own.punch.cards) in
    let all_lines : 0 + length (lines ++ lines_of m) ≡ own.before.lines + length (lines_of m) = omega (arith, ap (λ (n : Counts). n.lines) behind, length-append lines (lines_of m)) in
    rw (all_cards, all_lines) refl
