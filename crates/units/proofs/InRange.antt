-- units in range, and what they keep
use Rattle.std.proofs.Common.{get_or, ℕ, zero, suc, ◌+◌, ◌-◌, ◌<◌, ◌≤◌, ◌≡◌, ◌⊎◌, true, false, List, [], ◌∷◌, ◌++◌, take, length, length-append, ltb, leb, Option, Some, None, IfSome, Ok, unwrap_or, refl, sym, ap, ◌∙◌, inl, inr, arith}
use Rattle.std.specs.Prelude.{slice_get}
use Rattle.std.proofs.lemmas.Bool.{ltb-true, leb-true, leb-false}
use Rattle.std.proofs.lemmas.List.{append-nil}
use Rattle.std.proofs.lemmas.List.Elements.{All-push}
use Rattle.std.proofs.lemmas.Option.{slice_get_within}
use Rattle.std.proofs.Math.Seq.{take-append_seam}
use Rattle.cards.specs.declared.decks.Card.{Card}
use Rattle.core_store.specs.Storage.{Storage, codes_from, put_codes}
use Rattle.core_store.specs.declared.checks.Check.TheVariants.{Instruction, ReaderEmpty, PunchFull, PrinterFull}
use Rattle.core_store.proofs.Fields.{length-put_codes}
use Rattle.units.specs.declared.carriage.Carriage.{Carriage}
use Rattle.units.specs.declared.carriage.CarriageOrder.{CarriageOrder}
use Rattle.units.specs.declared.carriage.CarriageOrder.TheVariants.{Now, AfterLine}
use Rattle.units.specs.declared.carriage.Motion.{Motion}
use Rattle.units.specs.declared.carriage.Motion.TheVariants.{Space, DoubleSpace, TripleSpace, SkipToChannel1}
use Rattle.units.specs.declared.devices.Devices.{Devices}
use Rattle.units.specs.declared.pockets.Pocket.{Pocket}
use Rattle.units.specs.declared.printer.Line.{Line}
use Rattle.units.specs.declared.profiles.Profile.{Profile}
use Rattle.units.specs.declared.profiles.Profile.TheVariants.{Plain, Selecting}
use Rattle.units.specs.declared.punch.Punched.{Punched}
use Rattle.units.specs.declared.ranges.Place.{Place}
use Rattle.units.specs.declared.reader.Hopper.{Hopper}
use Rattle.units.specs.declared.units.Units.{Units}
use Rattle.units.specs.Carriages.{after_line, moved_by, spaced, sensed, on_next_form, ordered, carriage_moved, lines_of_form, last_form}
use Rattle.units.specs.Listing.{IsRising, IsAbove}
use Rattle.units.specs.Pockets.{pocket_chosen}
use Rattle.units.specs.Printed.{Printed}
use Rattle.units.specs.Stacked.{Stacked, IsNormal, IsPlain, is_selecting}
use Rattle.units.specs.Ranges.{AreRising, AreUnits, HasPrinted, HasRead, IsBelow, IsOnForm, OnlyAdds, carriage_place, line_place, places_then, the_top}
use Rattle.units.specs.Units.{most_cards, most_lines, area_card, card_read, card_punched, line_printed, reads, punches, prints, reader_works, punch_works, printer_works, operated}
use Rattle.units.proofs.OperationOutcomes.{Each, each_require, each_where, each_find, each_found, each_then, each_if, some_where, some_choice, of_ok}

-- ---- the reader

abbrev LeavesRead : Storage × Hopper → Type 0
LeavesRead (s, h) = HasRead h

card_within : (deck : List Card) (taken : ℕ) (found : Option Card) → slice_get deck taken ≡ found → IfSome found (λ _. taken < length deck)
card_within deck taken (Some card) e = slice_get_within deck taken card e
card_within deck taken None e = tt

card_read_read : (s : Storage) (h : Hopper) → HasRead h → Each LeavesRead (card_read s h)
unfolding card_read
card_read_read s h read =
    each_found (λ _. h.taken < length h.deck) LeavesRead (slice_get h.deck h.taken) ReaderEmpty _ (card_within h.deck h.taken (slice_get h.deck h.taken) refl)
    (λ card within. record { some = omega arith; most = omega arith })

-- ---- the printer

abbrev GoesBelow : Carriage → Carriage → Type 0
GoesBelow c next = IsBelow (carriage_place c) (carriage_place next)

next_form_below : (c : Carriage) (line : ℕ) → 1 ≤ line → line ≤ lines_of_form → IfSome (on_next_form c line) (GoesBelow c)
next_form_below c line some most =
    some_where (GoesBelow c) (ltb c.form last_form) (Some (record c { form = c.form + 1; line = line })) (λ e.
    let below : c.form < last_form = ltb-true c.form last_form e in
    ((omega arith, omega arith, some, most), inl (omega arith)))

spaced_below : (c : Carriage) (count : ℕ) → 1 ≤ count → count ≤ 3 → IsOnForm (carriage_place c) → IfSome (spaced c count) (GoesBelow c)
spaced_below c count some most (form_some, form_most, line_some, line_most) =
    some_choice (GoesBelow c) (leb (c.line + count) lines_of_form) (Some (record c { line = c.line + count; channel_12 = sensed c count })) (on_next_form (record c { channel_12 = sensed c count }) (c.line + count - lines_of_form))
    (λ e. let within : c.line + count ≤ lines_of_form = leb-true (c.line + count) lines_of_form e in ((form_some, form_most, omega arith, within), inr (refl, omega arith)))
    (λ e. let beyond : lines_of_form < c.line + count = leb-false (c.line + count) lines_of_form e in next_form_below (record c { channel_12 = sensed c count }) (c.line + count - lines_of_form) (omega arith) (omega arith))

moved_by_below : (motion : Motion) (c : Carriage) → IsOnForm (carriage_place c) → IfSome (moved_by motion c) (GoesBelow c)
unfolding moved_by
moved_by_below Space c h = spaced_below c 1 (omega arith) (omega arith) h
moved_by_below DoubleSpace c h = spaced_below c 2 (omega arith) (omega arith) h
moved_by_below TripleSpace c h = spaced_below c 3 (omega arith) (omega arith) h
moved_by_below SkipToChannel1 c h = next_form_below (record c { channel_12 = false }) 1 (omega arith) (omega arith)

after_line_below : (c : Carriage) → IsOnForm (carriage_place c) → IfSome (after_line c) (GoesBelow c)
unfolding after_line
after_line_below c h = moved_by_below (unwrap_or c.waiting Space) (record c { waiting = None }) h

last_on_form : (above : Place) (lines : List Line) (carriage : Place) → AreRising above (places_then carriage lines) → IsOnForm carriage
last_on_form above [] carriage h = h.0.0
last_on_form above (x ∷ lines) carriage h = last_on_form (line_place x) lines carriage h.1

-- one more line, where the carriage stood, and the carriage below it
rising_more : (above : Place) (lines : List Line) (x : Line) (next : Place) → AreRising above (places_then (line_place x) lines) → IsBelow (line_place x) next → AreRising above (places_then next (lines ++ x ∷ []))
rising_more above [] x next h below = (h.0, (below, tt))
rising_more above (l ∷ lines) x next h below = (h.0, rising_more (line_place l) lines x next h.1 below)

line_printed_printed : (before : ℕ) (s : Storage) (p : Printed) → HasPrinted before p → Each (HasPrinted before) (line_printed before s p)
unfolding line_printed
line_printed_printed before s p h =
    each_where (HasPrinted before) _ PrinterFull _ (λ e.
    each_found (GoesBelow p.carriage) (HasPrinted before) (after_line p.carriage) PrinterFull _ (after_line_below p.carriage (last_on_form _ p.lines _ h.places)) (λ carriage below.
    let room : before + length p.lines < most_lines = ltb-true (before + length p.lines) most_lines e in
    record { most = omega (arith, length-append {A = Line}); places = rising_more _ p.lines _ (carriage_place carriage) h.places below }))

abbrev IsAfter : Place → Place → Type 0
IsAfter above p = (above.form < p.form) ⊎ ((above.form ≡ p.form) × (above.line < p.line))

-- below a place below
further : (above at next : Place) → IsAfter above at → IsAfter at next → IsAfter above next
further above at next first second =
    elim first [
      | inl lt ↦ elim second [ inl lt2 ↦ inl (omega arith) | inr e2 ↦ inl (omega (arith, e2.0)) ]
      | inr e ↦ elim second [ inl lt2 ↦ inl (omega (arith, e.0)) | inr e2 ↦ inr (e.0 ∙ e2.0, omega (arith, e.1, e2.1)) ]
    ]

-- the carriage further down, below the same lines
rising_moved : (above : Place) (lines : List Line) (at next : Place) → AreRising above (places_then at lines) → IsBelow at next → AreRising above (places_then next lines)
rising_moved above [] at next h below = ((below.0, further above at next h.0.1 below.1), tt)
rising_moved above (l ∷ lines) at next h below = (h.0, rising_moved (line_place l) lines at next h.1 below)

pub carriage_printed : (order : CarriageOrder) (before : ℕ) (p : Printed) → HasPrinted before p → Each (HasPrinted before) (carriage_moved order p)
unfolding carriage_moved ordered
carriage_printed (Now motion) before p h =
    each_found (GoesBelow p.carriage) (HasPrinted before) (moved_by motion p.carriage) PrinterFull _ (moved_by_below motion p.carriage (last_on_form _ p.lines _ h.places))
    (λ carriage below. record { most = h.most; places = rising_moved _ p.lines _ (carriage_place carriage) h.places below })
carriage_printed (AfterLine motion) before p h = record { most = h.most; places = h.places }

-- ---- one operation

-- the punch's cards are not too many, with so many made before them
abbrev pub HasPunched : ℕ → Stacked → Type 0
HasPunched before p = before + length p.cards ≤ most_cards

card_punched_most : (before : ℕ) (s : Storage) (p : Stacked) → HasPunched before p → Each (HasPunched before) (card_punched before s p)
unfolding card_punched
card_punched_most before s p most =
    each_where (HasPunched before) _ PunchFull _ (λ e.
    let room : before + length p.cards < most_cards = ltb-true (before + length p.cards) most_cards e in omega (arith, length-append {A = Punched}))

-- a selection of a pocket makes no card
pub pocket_chosen_most : (pocket : Pocket) (before : ℕ) (p : Stacked) → HasPunched before p → Each (HasPunched before) (pocket_chosen pocket p)
unfolding pocket_chosen
pocket_chosen_most pocket before p most = each_require (HasPunched before) (is_selecting p.profile) Instruction _ most

abbrev Leaves : Storage × Units → Type 0
Leaves (s, u) = AreUnits u

-- an operation leaves units in range
pub operated_in_range : (devices : Devices) (s : Storage) (u : Units) → AreUnits u → Each (λ done. AreUnits done.1) (operated devices s u)
unfolding operated reader_works punch_works printer_works
operated_in_range devices s u h =
    each_then LeavesRead Leaves (reader_works devices s u.hopper) _ (each_if LeavesRead (reads devices) (card_read s u.hopper) (s, u.hopper) (card_read_read s u.hopper h.reader) h.reader) (λ read has_read.
    each_then (HasPunched u.before.cards) Leaves (punch_works devices u.before.cards s u.punch) _ (each_if (HasPunched u.before.cards) (punches devices) (card_punched u.before.cards s u.punch) u.punch (card_punched_most u.before.cards s u.punch h.punch) h.punch) (λ punch most.
    each_then (HasPrinted u.before.lines) Leaves (printer_works devices u.before.lines s u.printer) _ (each_if (HasPrinted u.before.lines) (prints devices) (line_printed u.before.lines s u.printer) u.printer (line_printed_printed u.before.lines s u.printer h.printer) h.printer) (λ printed has_printed.
    record { reader = has_read; punch = most; printer = has_printed; switches = h.switches })))

-- ---- what an operation keeps

-- a list that begins with another
abbrev pub Begins : {T : Type 0} → List T → List T → Type 0
Begins {T} before after_it = (more : List T) × (after_it ≡ before ++ more)

pub begins_same : {T : Type 0} (xs : List T) → Begins xs xs
begins_same xs = ([], sym (append-nil xs))

pub begins_take : {T : Type 0} (xs ys : List T) → Begins xs ys → take (length xs) ys ≡ xs
begins_take xs ys (more, e) = ap (take (length xs)) e ∙ take-append_seam xs more

abbrev KeepsDeck : Storage → Hopper → Storage × Hopper → Type 0
KeepsDeck s h (after_it, left) = (length after_it ≡ length s) × (left.deck ≡ h.deck)

card_read_keeps : (s : Storage) (h : Hopper) → Each (KeepsDeck s h) (card_read s h)
unfolding card_read
card_read_keeps s h =
    each_find (KeepsDeck s h) (slice_get h.deck h.taken) ReaderEmpty (λ (card : Card). Ok (put_codes s 1 card.0, record h { taken = h.taken + 1 }))
    (λ card. (length-put_codes s 1 card.0, refl))

-- what the punch keeps: its profile, the cards that it had, and that it never had stacker selection
pub record KeepsPunch (p after_it : Stacked) : Type 0 where
  pub profile : after_it.profile ≡ p.profile
  pub cards : Begins p.cards after_it.cards
  pub plain : IsPlain p → IsPlain after_it

pub keeps_punch : (p : Stacked) → KeepsPunch p p
keeps_punch p = record { profile = refl; cards = begins_same p.cards; plain = λ h. h }

card_punched_keeps : (before : ℕ) (s : Storage) (p : Stacked) → Each (KeepsPunch p) (card_punched before s p)
unfolding card_punched
card_punched_keeps before s p =
    let one : Punched = record { card = area_card s; pocket = p.chosen } in
    each_require (KeepsPunch p) (ltb (before + length p.cards) most_cards) PunchFull _ (record {
      profile = refl;
      cards = (one ∷ [], refl);
      plain = λ h. record { profile = h.profile; chosen = refl; cards = All-push IsNormal p.cards one h.cards h.chosen };
    })

plain_selects_none : (profile : Profile) → is_selecting profile ≡ true → profile ≡ Plain → ⊥
plain_selects_none Selecting e same = absurd (cc)
plain_selects_none Plain e same = absurd (cc)

-- a selection keeps the cards; and in the plain profile there is none
pub pocket_chosen_keeps : (pocket : Pocket) (p : Stacked) → Each (KeepsPunch p) (pocket_chosen pocket p)
unfolding pocket_chosen
pocket_chosen_keeps pocket p =
    each_where (KeepsPunch p) (is_selecting p.profile) Instruction _ (λ e.
    record { profile = refl; cards = begins_same p.cards; plain = λ h. absurd (plain_selects_none p.profile e h.profile) })

pub pocket_chosen_cards : (pocket : Pocket) (p : Stacked) → Each (λ after_it. (after_it.cards ≡ p.cards) × (after_it.profile ≡ p.profile)) (pocket_chosen pocket p)
unfolding pocket_chosen
pocket_chosen_cards pocket p =
    each_require (λ after_it. (after_it.cards ≡ p.cards) × (after_it.profile ≡ p.profile)) (is_selecting p.profile) Instruction _ (refl, refl)

line_printed_keeps : (before : ℕ) (s : Storage) (p : Printed) → Each (λ after_it. Begins p.lines after_it.lines) (line_printed before s p)
unfolding line_printed
line_printed_keeps before s p =
    each_require (λ after_it. Begins p.lines after_it.lines) _ PrinterFull _
    (each_find (λ after_it. Begins p.lines after_it.lines) (after_line p.carriage) PrinterFull _ (λ carriage.
    (record { form = p.carriage.form; line = p.carriage.line; codes = codes_from s 201 132 } ∷ [], refl)))

-- what one operation keeps
pub record Keeps (s t : Storage) (u after_it : Units) : Type 0 where
  pub size : length t ≡ length s
  pub deck : after_it.hopper.deck ≡ u.hopper.deck
  pub before : after_it.before ≡ u.before
  pub switches : after_it.switches ≡ u.switches
  pub punch : KeepsPunch u.punch after_it.punch
  pub lines : Begins u.printer.lines after_it.printer.lines

pub operated_keeps : (devices : Devices) (s : Storage) (u : Units) → Each (λ done. Keeps s done.0 u done.1) (operated devices s u)
unfolding operated reader_works punch_works printer_works
operated_keeps devices s u =
    each_then (KeepsDeck s u.hopper) (λ done. Keeps s done.0 u done.1) (reader_works devices s u.hopper) _ (each_if (KeepsDeck s u.hopper) (reads devices) (card_read s u.hopper) (s, u.hopper) (card_read_keeps s u.hopper) (refl, refl)) (λ read kept.
    each_then (KeepsPunch u.punch) (λ done. Keeps s done.0 u done.1) (punch_works devices u.before.cards s u.punch) _ (each_if (KeepsPunch u.punch) (punches devices) (card_punched u.before.cards s u.punch) u.punch (card_punched_keeps u.before.cards s u.punch) (keeps_punch u.punch)) (λ punch keeps.
    each_then (λ after_it. Begins u.printer.lines after_it.lines) (λ done. Keeps s done.0 u done.1) (printer_works devices u.before.lines s u.printer) _
    (each_if (λ after_it. Begins u.printer.lines after_it.lines) (prints devices) (line_printed u.before.lines s u.printer) u.printer (line_printed_keeps u.before.lines s u.printer) (begins_same u.printer.lines)) (λ printed longer.
    record { size = kept.0; deck = kept.1; before = refl; switches = refl; punch = keeps; lines = longer })))

pub carriage_keeps : (order : CarriageOrder) (p : Printed) → Each (λ after_it. after_it.lines ≡ p.lines) (carriage_moved order p)
unfolding carriage_moved
carriage_keeps order p = each_find (λ after_it. after_it.lines ≡ p.lines) (ordered order p.carriage) PrinterFull _ (λ carriage. refl)

-- ---- the same of what an operation comes to

pub in_range_after : (devices : Devices) (s t : Storage) (u after_it : Units) → AreUnits u → operated devices s u ≡ Ok (t, after_it) → AreUnits after_it
in_range_after devices s t u after_it h e = of_ok (λ done. AreUnits done.1) _ (t, after_it) e (operated_in_range devices s u h)

pub carriage_in_range : (order : CarriageOrder) (before : ℕ) (p after_it : Printed) → HasPrinted before p → carriage_moved order p ≡ Ok after_it → HasPrinted before after_it
carriage_in_range order before p after_it h e = of_ok (HasPrinted before) _ after_it e (carriage_printed order before p h)

pub keeps_after : (devices : Devices) (s t : Storage) (u after_it : Units) → operated devices s u ≡ Ok (t, after_it) → Keeps s t u after_it
keeps_after devices s t u after_it e = of_ok (λ done. Keeps s done.0 u done.1) _ (t, after_it) e (operated_keeps devices s u)

pub only_adds : (devices : Devices) (s t : Storage) (u after_it : Units) → operated devices s u ≡ Ok (t, after_it) → OnlyAdds u after_it
only_adds devices s t u after_it e =
    let kept = keeps_after devices s t u after_it e in
    record { deck = kept.deck; before = kept.before; switches = kept.switches; profile = kept.punch.profile; cards = begins_take _ _ kept.punch.cards; lines = begins_take _ _ kept.lines }

pub keeps_lines : (order : CarriageOrder) (p after_it : Printed) → carriage_moved order p ≡ Ok after_it → after_it.lines ≡ p.lines
keeps_lines order p after_it e = of_ok (λ x. x.lines ≡ p.lines) _ after_it e (carriage_keeps order p)

pub keeps_cards : (pocket : Pocket) (p after_it : Stacked) → pocket_chosen pocket p ≡ Ok after_it → (after_it.cards ≡ p.cards) × (after_it.profile ≡ p.profile)
keeps_cards pocket p after_it e = of_ok (λ x. (x.cards ≡ p.cards) × (x.profile ≡ p.profile)) _ after_it e (pocket_chosen_cards pocket p)

-- ---- the lines of a printer in range rise

lines_one : (above : Place) (l : Line) → IsBelow above (line_place l) → IsRising (l ∷ [])
lines_one above l below = record { on_forms = first; in_order = λ k d lt. absurd (omega arith) } where
  first : (k : ℕ) (d : Line) → k < length (l ∷ []) → (0 < (get_or (l ∷ []) k d).form) × (0 < (get_or (l ∷ []) k d).line)
  first zero d lt = (omega (arith, below.0.0), omega (arith, below.0.2))
  first (suc k) d lt = absurd (omega arith)

lines_more : (above : Place) (l m : Line) (lines : List Line) → IsBelow above (line_place l) → IsBelow (line_place l) (line_place m) → IsRising (m ∷ lines) → IsRising (l ∷ m ∷ lines)
lines_more above l m lines below behind rest = record { on_forms = each; in_order = next } where
  each : (k : ℕ) (d : Line) → k < length (l ∷ m ∷ lines) → (0 < (get_or (l ∷ m ∷ lines) k d).form) × (0 < (get_or (l ∷ m ∷ lines) k d).line)
  each zero d lt = (omega (arith, below.0.0), omega (arith, below.0.2))
  each (suc k) d lt = rest.on_forms k d (omega arith)

  next : (k : ℕ) (d : Line) → k + 1 < length (l ∷ m ∷ lines) → IsAbove (get_or (l ∷ m ∷ lines) k d) (get_or (l ∷ m ∷ lines) (k + 1) d)
  next zero d lt = let one : 0 + 1 ≡ suc 0 = omega arith in rw one behind.1
  next (suc k) d lt = let more : suc k + 1 ≡ suc (k + 1) = omega arith in rw more (rest.in_order k d (omega arith))

lines_behind : (above carriage : Place) (lines : List Line) → AreRising above (places_then carriage lines) → IsRising lines
lines_behind above carriage [] h = record { on_forms = λ k d lt. absurd (omega arith); in_order = λ k d lt. absurd (omega arith) }
lines_behind above carriage (l ∷ []) h = lines_one above l h.0
lines_behind above carriage (l ∷ m ∷ lines) h = lines_more above l m lines h.0 h.1.0 (lines_behind (line_place l) carriage (m ∷ lines) h.1)

pub lines_rise : (before : ℕ) (p : Printed) → HasPrinted before p → IsRising p.lines
lines_rise before p h = lines_behind the_top (carriage_place p.carriage) p.lines h.places
