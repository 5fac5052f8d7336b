-- a film is read as the frames of its machine
use Rattle.std.proofs.Common.{◌≡◌, ℕ, zero, suc, ◌+◌, ◌-◌, ◌^◌, ◌<◌, ◌≤◌, ◌==◌, Bool, true, false, if◌then◌else◌, List, [], ◌∷◌, ◌++◌, length, length-append, map, take, drop, get_or, refl, sym, ap, ◌∙◌, arith, append-nil, append_assoc, subst}
use Rattle.std.specs.Prelude.{Option, Some, None}
use Rattle.std.specs.List.{All}
use Rattle.std.proofs.Math.Decide.{dec_lt}
use Rattle.std.proofs.lemmas.List.{drop_all, drop-map, drop-take, length-drop, length-map, length-replicate, map-append, take_all, take-append-le, take-map}
use Rattle.std.proofs.lemmas.List.Elements.{All-get_or}
use Rattle.std.proofs.lemmas.List.Sums.{fold-append}
use Rattle.cards.specs.Decks.{largest_deck}
use Rattle.core_store.specs.Storage.{blank_cell, largest_size, positions_of}
use Rattle.core_store.specs.declared.sizes.Size.{Size}
use Rattle.core_store.specs.declared.sizes.Size.TheVariants.{Positions1400, Positions2000, Positions4000, Positions8000, Positions12000, Positions16000}
use Rattle.core_store.specs.declared.checks.Check.{Check}
use Rattle.core_store.specs.declared.checks.Check.TheVariants.{Address, Instruction, Data, Overlap, ReaderEmpty, PunchFull, PrinterFull}
use Rattle.core_store.specs.declared.registers.Compared.{Compared}
use Rattle.core_store.specs.declared.registers.Compared.TheVariants.{Equal, Low, High}
use Rattle.units.specs.declared.carriage.Motion.{Motion}
use Rattle.units.specs.declared.carriage.Motion.TheVariants.{Space, DoubleSpace, TripleSpace, SkipToChannel1}
use Rattle.units.specs.declared.pockets.Pocket.{Pocket}
use Rattle.units.specs.declared.pockets.Pocket.TheVariants.{Normal, Four, Eight}
use Rattle.units.specs.declared.printer.Line.{Line}
use Rattle.units.specs.declared.punch.Punched.{Punched}
use Rattle.units.specs.declared.ranges.Place.{Place}
use Rattle.units.specs.Pockets.{pocket_number}
use Rattle.units.specs.Ranges.{AreRising, IsOnForm, carriage_place, line_place, places_then, the_top}
use Rattle.units.proofs.InRange.{begins_take}
use Rattle.machine.specs.Ranges.{HasSize, IsInRange}
use Rattle.machine.specs.Run.{State, after, lines_of, step}
use Rattle.machine.specs.declared.standings.Standing.{Standing}
use Rattle.machine.specs.declared.standings.Standing.TheVariants.{Running, Halted, Checked}
use Rattle.machine.proofs.Steps.{after-after, after_one, stems_after, stems_same}
use Rattle.run_traces.specs.Names.{Named}
use Rattle.films.specs.Changes.{Item, all_played, cell_is, cell_items, change, differences, is_same_cell, number_is, number_items, played, printed, punched}
use Rattle.films.specs.Films.{film_text}
use Rattle.machine.specs.Numbers.{check_number, compare_number, standing_number, waiting_number}
use Rattle.films.specs.Frames.{ComesBehind, Frame, card_shown, cards_before, cards_of, frame_of, indicator_number, line_shown, lines_before, nothing, numbers_of}
use Rattle.films.specs.Laws.{IsReadable, Shows}
use Rattle.films.specs.Reading.{changes_read}
use Rattle.films.specs.Steps.{change_lines, step_lines}
use Rattle.films.specs.Texts.{change_line, first_line, item_texts, said, step_line}
use Rattle.films.specs.Worked.{worked}
use Rattle.films.specs.declared.signs.Surface.TheVariants.{OnCard, OnPaper}
use Rattle.films.proofs.ChangeLaw.{change_played}
use Rattle.films.proofs.SignsRead.{signs_clean}
use Rattle.films.proofs.StatementsRead.{lead_other}
use Rattle.films.proofs.TextsRead.{AreItems, before_read, both_items, change_again, none_read}

-- ---- the numbers of a machine can be read

abbrev AreSmall : List ℕ → Type 0
AreSmall [] = Unit {0}
AreSmall (n ∷ ns) = (n < 2 ^ 64) × AreSmall ns

small_at : (ns : List ℕ) → AreSmall ns → (k : ℕ) → get_or ns k 0 < 2 ^ 64
small_at [] all k = omega arith
small_at (n ∷ ns) all zero = all.0
small_at (n ∷ ns) all (suc k) = small_at ns all.1 k

compared_small : (c : Compared) → compare_number c < 2 ^ 64
compared_small Equal = omega arith
compared_small Low = omega arith
compared_small High = omega arith

indicator_small : (b : Bool) → indicator_number b < 2 ^ 64
indicator_small true = omega arith
indicator_small false = omega arith

waiting_small : (w : Option Motion) → waiting_number w < 2 ^ 64
waiting_small None = omega arith
waiting_small (Some Space) = omega arith
waiting_small (Some DoubleSpace) = omega arith
waiting_small (Some TripleSpace) = omega arith
waiting_small (Some SkipToChannel1) = omega arith

check_small : (c : Check) → check_number c < 2 ^ 64
check_small Address = omega arith
check_small Instruction = omega arith
check_small Data = omega arith
check_small Overlap = omega arith
check_small ReaderEmpty = omega arith
check_small PunchFull = omega arith
check_small PrinterFull = omega arith

standing_small : (s : Standing) → standing_number s < 2 ^ 64
standing_small Running = omega arith
standing_small Halted = omega arith
standing_small (Checked check) = check_small check

pocket_small : (p : Pocket) → pocket_number p < 2 ^ 64
pocket_small Normal = omega arith
pocket_small Four = omega arith
pocket_small Eight = omega arith

abbrev AreLines : List Line → Type 0
AreLines [] = Unit {0}
AreLines (line ∷ lines) = (line.form < 2 ^ 64) × (line.line < 2 ^ 64) × AreLines lines

-- lines on forms, and the carriage below them
lines_on : (above : Place) (lines : List Line) (carriage : Place) → AreRising above (places_then carriage lines) → AreLines lines × IsOnForm carriage
lines_on above [] carriage h = (tt, h.0.0)
lines_on above (line ∷ lines) carriage h =
    let rest = lines_on (line_place line) lines carriage h.1 in
    let on = h.0.0 in
    ((omega (arith, on.1), omega (arith, on.3), rest.0), rest.1)

lines_dropped : (k : ℕ) (lines : List Line) → AreLines lines → AreLines (drop k lines)
lines_dropped zero lines all = all
lines_dropped (suc k) [] all = tt
lines_dropped (suc k) (line ∷ lines) all = lines_dropped k lines all.2

numbers_small : (m : State) → IsInRange m → length m.works.units.hopper.deck ≤ largest_deck → AreSmall (numbers_of m)
unfolding numbers_of
numbers_small m range few =
    let r = range.registers in
    let u = range.units in
    let on = (lines_on the_top (lines_of m) (carriage_place m.works.units.printer.carriage) u.printer.places).1 in (
      omega (arith, r.i),
      (
        omega (arith, r.a),
        (
          omega (arith, r.b),
          (
            compared_small m.works.registers.compare,
            (
              indicator_small m.works.registers.overflow,
              (
                indicator_small m.works.units.printer.carriage.channel_12,
                (
                  waiting_small m.works.units.printer.carriage.waiting,
                  (
                    omega (arith, on.1),
                    (
                      omega (arith, on.3),
                      (
                        omega (arith, u.reader.most, few),
                        (
                          pocket_small m.works.units.punch.chosen,
                          (
                            standing_small m.standing,
                            (
                              omega (arith, u.printer.most),
                              (
                                omega (arith, u.punch),
                                tt,
                              ),
                            ),
                          ),
                        ),
                      ),
                    ),
                  ),
                ),
              ),
            ),
          ),
        ),
      ),
    )

positions_small : (size : Size) → positions_of size ≤ largest_size
positions_small Positions1400 = omega arith
positions_small Positions2000 = omega arith
positions_small Positions4000 = omega arith
positions_small Positions8000 = omega arith
positions_small Positions12000 = omega arith
positions_small Positions16000 = omega arith

size_small : (m : State) → HasSize m.works.storage → length m.works.storage ≤ largest_size
size_small m has = omega (arith, has.1, positions_small has.0)

-- ---- the items of a change can be read

number_by : (n v : ℕ) (b : Bool) → n < 14 → v < 2 ^ 64 → AreItems (map (λ (d : ℕ × ℕ). number_is d.0 d.1) (if b then [] else (n, v) ∷ []))
number_by n v true low small = tt
number_by n v false low small = ((low, small), tt)

numbers_are : (old new : List ℕ) → AreSmall new → (n : ℕ) → n ≤ 14 → AreItems (map (λ d. number_is d.0 d.1) (differences ◌==◌ 0 old new n))
unfolding differences
numbers_are old new all zero within = tt
numbers_are old new all (suc n) within =
    let tail = if get_or old n 0 == get_or new n 0 then [] else (n, get_or new n 0) ∷ [] in
    subst AreItems (sym (map-append (λ (d : ℕ × ℕ). number_is d.0 d.1) (differences ◌==◌ 0 old new n) tail))
    (both_items (map (λ d. number_is d.0 d.1) (differences ◌==◌ 0 old new n)) (map (λ d. number_is d.0 d.1) tail) (numbers_are old new all n (omega arith))
    (number_by n (get_or new n 0) (get_or old n 0 == get_or new n 0) (omega arith) (small_at new all n)))

cell_by : (n : ℕ) (v : ℕ × Bool) (b : Bool) → n < 2 ^ 64 → v.0 < 64 → AreItems (map (λ (d : ℕ × (ℕ × Bool)). cell_is d.0 d.1) (if b then [] else (n, v) ∷ []))
cell_by n v true small low = tt
cell_by n v false small low = ((small, low), tt)

cells_are : (old new : List (ℕ × Bool)) → All (λ cell. cell.0 < 64) new → length new ≤ largest_size → (n : ℕ) → n ≤ length new
    → AreItems (map (λ d. cell_is d.0 d.1) (differences is_same_cell blank_cell old new n))
unfolding differences
cells_are old new all long zero within = tt
cells_are old new all long (suc n) within =
    let same = is_same_cell (get_or old n blank_cell) (get_or new n blank_cell) in
    let tail = if same then [] else (n, get_or new n blank_cell) ∷ [] in
    subst AreItems (sym (map-append (λ (d : ℕ × (ℕ × Bool)). cell_is d.0 d.1) (differences is_same_cell blank_cell old new n) tail))
    (both_items (map (λ d. cell_is d.0 d.1) (differences is_same_cell blank_cell old new n)) (map (λ d. cell_is d.0 d.1) tail) (cells_are old new all long n (omega arith))
    (cell_by n (get_or new n blank_cell) same (omega arith) (All-get_or (λ cell. cell.0 < 64) new n blank_cell (omega arith) all)))

lines_are : (lines : List Line) → AreLines lines → AreItems (map printed (map line_shown lines))
lines_are [] all = tt
lines_are (line ∷ lines) all = ((all.0, all.1, signs_clean OnPaper line.codes), lines_are lines all.2)

cards_are : (cards : List Punched) → AreItems (map punched (map card_shown cards))
cards_are [] = tt
cards_are (card ∷ cards) = ((pocket_small card.pocket, signs_clean OnCard card.card.0), cards_are cards)

lines_from : (j k : ℕ) (lines : List Line) → AreLines lines → AreItems (map printed (drop j (map line_shown (drop k lines))))
lines_from j k lines all =
    subst (λ shown. AreItems (map printed shown)) (sym (drop-map line_shown j (drop k lines)))
    (lines_are (drop j (drop k lines)) (lines_dropped j (drop k lines) (lines_dropped k lines all)))

cards_from : (j k : ℕ) (cards : List Punched) → AreItems (map punched (drop j (map card_shown (drop k cards))))
cards_from j k cards =
    subst (λ shown. AreItems (map punched shown)) (sym (drop-map card_shown j (drop k cards))) (cards_are (drop j (drop k cards)))

numbers_here : (old : List ℕ) (m : State) → IsReadable m → AreItems (number_items old (numbers_of m))
unfolding numbers_of
numbers_here old m can = numbers_are old (numbers_of m) (numbers_small m can.range can.few) 14 (omega arith)

change_is_read : (old : Frame) (lines cards : ℕ) (m : State) → IsReadable m → AreItems (change old (frame_of lines cards m))
unfolding change frame_of
change_is_read old lines cards m can =
    let ns = number_items old.numbers (numbers_of m) in
    let ls = map printed (drop (length old.paper) (map line_shown (drop lines (lines_of m)))) in
    let cs = map punched (drop (length old.punched) (map card_shown (drop cards (cards_of m)))) in
    let ps = cell_items old.storage m.works.storage in
    let all_lines = (lines_on the_top (lines_of m) (carriage_place m.works.units.printer.carriage) can.range.units.printer.places).0 in
    let n = numbers_here old.numbers m can in
    let l = lines_from (length old.paper) lines (lines_of m) all_lines in
    let c = cards_from (length old.punched) cards (cards_of m) in
    let p = cells_are old.storage m.works.storage can.characters (size_small m can.range.size) (length m.works.storage) (omega arith) in
    both_items ((ns ++ ls) ++ cs) ps (both_items (ns ++ ls) cs (both_items ns ls n l) c) p

-- ---- the lines of steps are read as their changes

changes_made : ℕ → ℕ → State → ℕ → List (List Item)
changes_made lines cards m zero = []
changes_made lines cards m (suc n) =
    changes_made lines cards m n ++ change (frame_of lines cards (after m n)) (frame_of lines cards (step (after m n))) ∷ []

next : (m : State) (n : ℕ) → step (after m n) ≡ after m (n + 1)
next m n = sym (after_one (after m n)) ∙ after-after m n 1

steps_read : (names : Option Named) (lines cards : ℕ) (m : State) (n : ℕ) (rest : List ℕ) → ((k : ℕ) → k ≤ n → IsReadable (after m k))
    → changes_read (step_lines names lines cards m n ++ rest) ≡ changes_made lines cards m n ++ changes_read rest
unfolding step_lines step_line changes_made
steps_read names lines cards m zero rest can = refl
steps_read names lines cards m (suc n) rest can =
    let x = after m n in
    let items = change (frame_of lines cards x) (frame_of lines cards (step x)) in
    let line = change_line (said names x ++ worked x ++ item_texts items) in
    let one : n + 1 ≡ suc n = omega arith in
    let here : IsReadable (step x) = subst IsReadable (sym (next m n ∙ ap (after m) one)) (can (suc n) (omega arith)) in
    let lead = lead_other names x in
    ap changes_read (append_assoc (step_lines names lines cards m n) line rest)
    ∙ steps_read names lines cards m n (line ++ rest) (λ k within. can k (omega arith))
    ∙ ap (λ read. changes_made lines cards m n ++ read) (change_again (said names x ++ worked x) items rest lead.0 lead.1 (change_is_read (frame_of lines cards x) lines cards (step x) here))
    ∙ sym (append_assoc (changes_made lines cards m n) (items ∷ []) (changes_read rest))

first_read : (lines cards : ℕ) (m : State) (rest : List ℕ) → IsReadable m
    → changes_read (first_line lines cards m ++ rest) ≡ change (nothing (length m.works.storage)) (frame_of lines cards m) ∷ changes_read rest
unfolding first_line
first_read lines cards m rest can =
    change_again [] (change (nothing (length m.works.storage)) (frame_of lines cards m)) rest tt refl (change_is_read (nothing (length m.works.storage)) lines cards m can)

film_read : (names : Option Named) (made : ℕ) (m : State) (steps : ℕ) → ((k : ℕ) → k ≤ steps → IsReadable (after m k))
    → changes_read (film_text names made m steps)
    ≡ change (nothing (length m.works.storage)) (frame_of (lines_before m) (cards_before m) m) ∷ changes_made (lines_before m) (cards_before m) m steps
unfolding film_text change_lines after
film_read names made m steps can =
    let l = lines_before m in
    let c = cards_before m in
    let first = change (nothing (length m.works.storage)) (frame_of l c m) in
    before_read names made m.works.units.hopper.taken (after m steps) (change_lines names m steps)
    ∙ first_read l c m (step_lines names l c m steps) (can 0 (omega arith))
    ∙ ap (λ text. first ∷ changes_read text) (sym (append-nil (step_lines names l c m steps)))
    ∙ ap (λ read. first ∷ read) (steps_read names l c m steps [] can ∙ ap (λ read. changes_made l c m steps ++ read) none_read ∙ append-nil (changes_made l c m steps))

-- ---- the changes are played

begins_shown : {A B : Type 0} (f : A → B) (xs ys : List A) (k : ℕ) → take (length xs) ys ≡ xs → take (length (map f (drop k xs))) (map f (drop k ys)) ≡ map f (drop k xs)
begins_shown f xs ys k front =
    let count : length (map f (drop k xs)) ≡ length xs - k = length-map (drop k xs) f ∙ length-drop k xs in
    ap (λ n. take n (map f (drop k ys))) count
    ∙ take-map f (length xs - k) (drop k ys)
    ∙ ap (map f) (elim (dec_lt (length xs) k) [
      | yes past ↦
          let none : length xs - k ≡ 0 = omega arith in
          ap (λ n. take n (drop k ys)) none ∙ sym (drop_all k xs (omega arith))
      | no within ↦
          let whole : k + (length xs - k) ≡ length xs = omega arith in
          sym (drop-take k (length xs - k) ys) ∙ ap (λ n. drop k (take n ys)) whole ∙ ap (drop k) front
    ])

step_behind : (lines cards : ℕ) (m : State) → ComesBehind (frame_of lines cards m) (frame_of lines cards (step m))
unfolding frame_of numbers_of after
step_behind lines cards m =
    let stems = stems_after m m 1 (stems_same m) in
    record {
      old_numbers = refl;
      numbers = refl;
      storage = sym stems.size;
      paper = begins_shown line_shown (lines_of m) (lines_of (step m)) lines (begins_take (lines_of m) (lines_of (step m)) stems.lines);
      punched = begins_shown card_shown (cards_of m) (cards_of (step m)) cards (begins_take (cards_of m) (cards_of (step m)) stems.punch.cards);
    }

first_behind : (lines cards : ℕ) (m : State) → ComesBehind (nothing (length m.works.storage)) (frame_of lines cards m)
unfolding frame_of numbers_of
first_behind lines cards m = record {
  old_numbers = refl;
  numbers = refl;
  storage = length-replicate (length m.works.storage) blank_cell;
  paper = refl;
  punched = refl;
}

steps_played : (lines cards : ℕ) (m : State) (n : ℕ) → all_played (frame_of lines cards m) (changes_made lines cards m n) ≡ frame_of lines cards (after m n)
unfolding changes_made after
steps_played lines cards m zero = refl
steps_played lines cards m (suc n) =
    let x = after m n in
    let items = change (frame_of lines cards x) (frame_of lines cards (step x)) in
    let one : n + 1 ≡ suc n = omega arith in
    fold-append played (frame_of lines cards m) (changes_made lines cards m n) (items ∷ [])
    ∙ ap (λ f. played f items) (steps_played lines cards m n)
    ∙ change_played (frame_of lines cards x) (frame_of lines cards (step x)) (step_behind lines cards x)
    ∙ ap (frame_of lines cards) (next m n ∙ ap (after m) one)

made_count : (lines cards : ℕ) (m : State) (n : ℕ) → length (changes_made lines cards m n) ≡ n
unfolding changes_made
made_count lines cards m zero = refl
made_count lines cards m (suc n) =
    let x = after m n in
    let items = change (frame_of lines cards x) (frame_of lines cards (step x)) in
    omega (arith, length-append (changes_made lines cards m n) (items ∷ []), made_count lines cards m n)

made_first : (lines cards : ℕ) (m : State) (n steps : ℕ) → n ≤ steps → take n (changes_made lines cards m steps) ≡ changes_made lines cards m n
unfolding changes_made
made_first lines cards m n zero within =
    let none : n ≡ zero = omega arith in
    ap (λ k. take k (changes_made lines cards m zero)) none ∙ ap (changes_made lines cards m) (sym none)
made_first lines cards m n (suc steps) within =
    let x = after m steps in
    let items = change (frame_of lines cards x) (frame_of lines cards (step x)) in
    elim (dec_lt steps n) [
      | yes all ↦
          let whole : n ≡ suc steps = omega arith in
          take_all n (changes_made lines cards m (suc steps)) (omega (arith, made_count lines cards m (suc steps))) ∙ ap (changes_made lines cards m) (sym whole)
      | no few ↦
          take-append-le n (changes_made lines cards m steps) (items ∷ []) (omega (arith, made_count lines cards m steps)) ∙ made_first lines cards m n steps (omega arith)
    ]

-- the changes that are read of a film, played one after the other
pub film_again : (names : Option Named) (made : ℕ) (m : State) (steps : ℕ) → ((k : ℕ) → k ≤ steps → IsReadable (after m k)) → Shows (film_text names made m steps) m steps
film_again names made m steps can = λ n within.
    let l = lines_before m in
    let c = cards_before m in
    let first = change (nothing (length m.works.storage)) (frame_of l c m) in
    let one : n + 1 ≡ suc n = omega arith in
    ap (λ read. all_played (nothing (length m.works.storage)) (take (n + 1) read)) (film_read names made m steps can)
    ∙ ap (λ k. all_played (nothing (length m.works.storage)) (take k (first ∷ changes_made l c m steps))) one
    ∙ ap (λ made. all_played (nothing (length m.works.storage)) (first ∷ made)) (made_first l c m n steps within)
    ∙ ap (λ f. all_played f (changes_made l c m n)) (change_played (nothing (length m.works.storage)) (frame_of l c m) (first_behind l c m))
    ∙ steps_played l c m n
