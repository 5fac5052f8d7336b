-- the lines of a film's steps
use Rattle.std.proofs.Common.{◌≡◌, ℕ, zero, suc, ◌+◌, ◌-◌, ◌<◌, ◌≤◌, ◌==◌, Bool, true, false, cond, List, [], ◌∷◌, ◌++◌, length, length-append, map, drop, replicate, refl, sym, ap, ◌∙◌, arith, append-nil, append_assoc, subst}
use Rattle.std.specs.Prelude.{Option, Some, None, nat_lt, unwrap_or}
use Rattle.std.specs.List.{All, position_or_len}
use Rattle.std.proofs.Math.Decide.{dec_lt}
use Rattle.std.proofs.lemmas.List.{drop-drop, drop-map, length-drop, length-map}
use Rattle.std.proofs.lemmas.List.Concat.{flat_map-append}
use Rattle.std.proofs.lemmas.List.Sums.{prefix_len-le-length}
use Rattle.core_store.specs.Storage.{Storage, blank_storage}
use Rattle.machine.specs.Run.{State, after, attempts, is_running, lines_of, step}
use Rattle.machine.proofs.Steps.{after-after, after_one, after_stopped, attempts-add, attempts_one, attempts_stopped, stems_after, stems_same}
use Rattle.run_traces.specs.Names.{Named}
use Rattle.run_traces.specs.Statements.{statement_next}
use Rattle.films.specs.Changes.{Item, change, items_since, printed, punched}
use Rattle.films.specs.Frames.{card_shown, cards_before, cards_of, form_of, frame_of, line_shown, lines_before, nothing, number_count, numbers_of, shown_of}
use Rattle.films.specs.Steps.{Fits, IsMost, change_lines, most_bytes, step_lines}
use Rattle.films.specs.Texts.{change_line, first_line, item_texts, items_text, said, spaced, statement_words, step_line, words_text}
use Rattle.films.specs.Worked.{instruction_span, place_of, work_of, work_spans, worked}
use Rattle.films.specs.declared.filming.Place.{Place}
use Rattle.films.specs.declared.items.Shown.{Shown}
use Rattle.machine.specs.Word.{word_length}

-- ---- lines that are added

words_append : (xs ys : List (List ℕ)) → words_text (xs ++ ys) ≡ words_text xs ++ words_text ys
words_append xs ys = flat_map-append spaced xs ys

line_pushed : (o a b d : List ℕ) (words : List (List ℕ)) → a ≡ o ++ 67 ∷ [] → b ≡ a ++ words_text words → d ≡ b ++ 10 ∷ [] → d ≡ o ++ change_line words
unfolding change_line
line_pushed o a b d words is_a is_b is_d =
    is_d
    ∙ ap (λ t. t ++ 10 ∷ []) (is_b ∙ ap (λ t. t ++ words_text words) is_a ∙ append_assoc o (67 ∷ []) (words_text words))
    ∙ append_assoc o (67 ∷ words_text words) (10 ∷ [])

-- words behind a text, and more words behind these
then_words : (a b c : List ℕ) (xs ys : List (List ℕ)) → b ≡ a ++ words_text xs → c ≡ b ++ words_text ys → c ≡ a ++ words_text (xs ++ ys)
then_words a b c xs ys is_b is_c =
    is_c ∙ ap (λ t. t ++ words_text ys) is_b ∙ append_assoc a (words_text xs) (words_text ys) ∙ ap (λ t. a ++ t) (sym (words_append xs ys))

pub step_line_pushed : (o a s b c d e : List ℕ) (ss is fs : List (List ℕ)) (items : List Item) → a ≡ o ++ 67 ∷ [] → s ≡ a ++ words_text ss → b ≡ s ++ words_text is → c ≡ b ++ words_text fs
    → d ≡ c ++ items_text items → e ≡ d ++ 10 ∷ [] → e ≡ o ++ change_line (ss ++ (is ++ fs) ++ item_texts items)
step_line_pushed o a s b c d e ss is fs items is_a is_s is_b is_c is_d is_e =
    line_pushed o a d e (ss ++ (is ++ fs) ++ item_texts items) is_a
    (then_words a c d (ss ++ (is ++ fs)) (item_texts items) (then_words a s c ss (is ++ fs) is_s (then_words s b c is fs is_b is_c)) is_d)
    is_e

-- ---- a change between two frames of a machine

map_twice : {A B C : Type 0} (g : B → C) (f : A → B) (xs : List A) → map g (map f xs) ≡ map (λ x. g (f x)) xs
map_twice g f [] = refl
map_twice g f (x ∷ xs) = ap (λ ys. g (f x) ∷ ys) (map_twice g f xs)

behind_shown : {A B C : Type 0} (g : B → C) (f : A → B) (xs ys : List A) (k : ℕ) → k ≤ length xs
    → map g (drop (length (map f (drop k xs))) (map f (drop k ys))) ≡ map (λ x. g (f x)) (drop (length xs) ys)
behind_shown g f xs ys k within =
    let whole : k + (length xs - k) ≡ length xs = omega arith in
    ap (λ n. map g (drop n (map f (drop k ys)))) (length-map (drop k xs) f ∙ length-drop k xs)
    ∙ ap (map g) (drop-map f (length xs - k) (drop k ys) ∙ ap (map f) (drop-drop (length xs - k) k ys ∙ ap (λ n. drop n ys) whole))
    ∙ map_twice g f (drop (length xs) ys)

change_since : (lines cards : ℕ) (m n : State) → lines ≤ length (lines_of m) → cards ≤ length (cards_of m)
    → change (frame_of lines cards m) (frame_of lines cards n) ≡ items_since (numbers_of m) (length (lines_of m)) (length (cards_of m)) m.works.storage n
unfolding change frame_of
change_since lines cards m n in_lines in_cards =
    rw (behind_shown printed line_shown (lines_of m) (lines_of n) lines in_lines, behind_shown punched card_shown (cards_of m) (cards_of n) cards in_cards) refl

first_since : (lines cards size : ℕ) (m : State) → change (nothing size) (frame_of lines cards m) ≡ items_since (replicate number_count 0) lines cards (blank_storage size) m
unfolding change frame_of
first_since lines cards size m =
    rw (map_twice printed line_shown (drop lines (lines_of m)), map_twice punched card_shown (drop cards (cards_of m))) refl

pub step_since : (names : Option Named) (lines cards : ℕ) (m : State) → lines ≤ length (lines_of m) → cards ≤ length (cards_of m)
    → change_line (statement_words (statement_next names m) ++ (instruction_span m.works.registers.i (word_length m.works.storage m.works.registers.i) ++ work_spans (work_of m.works) (step m))
    ++ item_texts (items_since (numbers_of m) (length (lines_of m)) (length (cards_of m)) m.works.storage (step m))) ≡ step_line names lines cards m
unfolding step_line said worked
step_since names lines cards m in_lines in_cards =
    let front = statement_words (statement_next names m) ++ (instruction_span m.works.registers.i (word_length m.works.storage m.works.registers.i) ++ work_spans (work_of m.works) (step m)) in
    ap (λ items. change_line (front ++ item_texts items)) (sym (change_since lines cards m (step m) in_lines in_cards))

pub first_line_pushed : (lines cards : ℕ) (m : State) (blank : Storage) (o a b d : List ℕ) → blank ≡ blank_storage (length m.works.storage) → a ≡ o ++ 67 ∷ []
    → b ≡ a ++ items_text (items_since (replicate number_count 0) lines cards blank m) → d ≡ b ++ 10 ∷ [] → d ≡ o ++ first_line lines cards m
unfolding first_line
first_line_pushed lines cards m blank o a b d is_blank is_a is_b is_d =
    line_pushed o a b d (item_texts (change (nothing (length m.works.storage)) (frame_of lines cards m))) is_a
    (is_b ∙ ap (λ s. a ++ items_text (items_since (replicate number_count 0) lines cards s m)) is_blank ∙ ap (λ items. a ++ items_text items) (sym (first_since lines cards (length m.works.storage) m)))
    is_d

-- ---- what a step keeps

pub size_stays : (m : State) → length (step m).works.storage ≡ length m.works.storage
unfolding after
size_stays m = (stems_after m m 1 (stems_same m)).size

pub lines_stay : (m : State) (count : ℕ) → length (lines_of m) ≤ length (lines_of (after m count))
lines_stay m count =
    let stays = (stems_after m m count (stems_same m)).lines in
    omega (arith, ap length stays.1, length-append (lines_of m) stays.0)

pub cards_stay : (m : State) (count : ℕ) → length (cards_of m) ≤ length (cards_of (after m count))
cards_stay m count =
    let stays = (stems_after m m count (stems_same m)).punch.cards in
    omega (arith, ap length stays.1, length-append (cards_of m) stays.0)

within_by : (place count : ℕ) (b : Bool) → place ≤ count → unwrap_or (cond b (Some place) None) count ≤ count
within_by place count true within = within
within_by place count false within = omega arith

pub lines_before_within : (m : State) → lines_before m ≤ length (lines_of m)
unfolding lines_before
lines_before_within m =
    let at = position_or_len (λ l. l.form == form_of m) (lines_of m) in
    within_by at (length (lines_of m)) (nat_lt at (length (lines_of m))) (prefix_len-le-length _ (lines_of m))

pub cards_before_within : (m : State) → cards_before m ≤ length (cards_of m)
unfolding cards_before
cards_before_within m = omega arith

-- ---- one step more, and how many there are

pub change_more : (names : Option Named) (m : State) (made : ℕ) (before new : List ℕ) → before ≡ change_lines names m made
    → new ≡ before ++ step_line names (lines_before m) (cards_before m) (after m made) → new ≡ change_lines names m (made + 1)
unfolding change_lines step_lines
change_more names m made before new is more =
    let l = lines_before m in
    let c = cards_before m in
    let one : suc made ≡ made + 1 = omega arith in
    more ∙ ap (λ t. t ++ step_line names l c (after m made)) is
    ∙ append_assoc (first_line l c m) (step_lines names l c m made) (step_line names l c (after m made))
    ∙ ap (λ n. first_line l c m ++ step_lines names l c m n) one

pub change_none : (names : Option Named) (m : State) → change_lines names m 0 ≡ first_line (lines_before m) (cards_before m) m
unfolding change_lines step_lines
change_none names m = append-nil (first_line (lines_before m) (cards_before m) m)

pub next_is : (m : State) (made : ℕ) → step (after m made) ≡ after m (made + 1)
next_is m made = sym (after_one (after m made)) ∙ after-after m made 1

steps_longer : (names : Option Named) (l c : ℕ) (m : State) (a b : ℕ) → a ≤ b → length (step_lines names l c m a) ≤ length (step_lines names l c m b)
unfolding step_lines
steps_longer names l c m a zero within = let none : a ≡ zero = omega arith in omega (arith, ap (λ n. length (step_lines names l c m n)) none)
steps_longer names l c m a (suc b) within =
    elim (dec_lt b a) [
      | yes all ↦ let whole : a ≡ suc b = omega arith in omega (arith, ap (λ n. length (step_lines names l c m n)) whole)
      | no few ↦ omega (arith, steps_longer names l c m a b (omega arith), length-append (step_lines names l c m b) (step_line names l c (after m b)))
    ]

lines_longer : (names : Option Named) (m : State) (a b : ℕ) → a ≤ b → length (change_lines names m a) ≤ length (change_lines names m b)
unfolding change_lines
lines_longer names m a b within =
    let l = lines_before m in
    let c = cards_before m in
    omega (arith, steps_longer names l c m a b within, length-append (first_line l c m) (step_lines names l c m a), length-append (first_line l c m) (step_lines names l c m b))

-- the greatest number of steps that fits, where one step more does not
pub is_most : (names : Option Named) (m : State) (asked made : ℕ) (text : List ℕ) → made + 1 ≤ asked → Fits names m made → text ≡ change_lines names m (made + 1) → most_bytes < length text → IsMost names m asked made
is_most names m asked made text within fits is long = record {
  too_long = λ short. omega (arith, short, lines_longer names m (made + 1) asked within, ap length is, long);
  fits = λ some. fits;
  greatest = λ other short. elim (dec_lt made other) [
    | yes more ↦ absurd (omega (arith, short, lines_longer names m (made + 1) other (omega arith), ap length is, long))
    | no few ↦ omega arith
  ];
}

-- none fits
pub none_fits : (names : Option Named) (m : State) (asked : ℕ) (text : List ℕ) → text ≡ change_lines names m 0 → most_bytes < length text → IsMost names m asked 0
none_fits names m asked text is long = record {
  too_long = λ short. omega (arith, short, lines_longer names m 0 asked (omega arith), ap length is, long);
  fits = λ some. absurd (omega arith);
  greatest = λ other short. absurd (omega (arith, short, lines_longer names m 0 other (omega arith), ap length is, long));
}

-- a machine that stopped before all steps were made
pub stops : (m : State) (made limit : ℕ) → made ≤ limit → is_running (after m made).standing ≡ false → attempts m made ≡ made → (after m made ≡ after m limit) × (made ≡ attempts m limit)
stops m made limit within stopped all =
    let whole : made + (limit - made) ≡ limit = omega arith in (
      sym (after_stopped (after m made) (limit - made) stopped) ∙ after-after m made (limit - made) ∙ ap (after m) whole,
      omega (arith, all, attempts-add m made (limit - made), attempts_stopped (after m made) (limit - made) stopped, ap (attempts m) whole),
    )

-- one that goes on
pub goes_on : (m : State) (made : ℕ) → is_running (after m made).standing ≡ true → attempts m made ≡ made → attempts m (made + 1) ≡ made + 1
goes_on m made runs all = omega (arith, all, attempts-add m made 1, attempts_one (after m made) runs)

pub asked_more : (m : State) (made limit : ℕ) → made < limit → attempts m (made + 1) ≡ made + 1 → made + 1 ≤ attempts m limit
asked_more m made limit within all =
    let whole : (made + 1) + (limit - (made + 1)) ≡ limit = omega arith in
    omega (arith, all, attempts-add m (made + 1) (limit - (made + 1)), ap (attempts m) whole)

-- ---- what each storage holds

pub after_none : (m : State) → m ≡ after m 0
unfolding after
after_none m = refl

pub held_first : (m : State) → All (λ cell. cell.0 < 64) m.works.storage → (k : ℕ) → k ≤ 0 → All (λ cell. cell.0 < 64) (after m k).works.storage
held_first m held k within =
    let none : 0 ≡ k = omega arith in
    subst (λ (x : State). All (λ cell. cell.0 < 64) x.works.storage) (after_none m ∙ ap (after m) none) held

pub held_on : (m next : State) (made : ℕ) → next ≡ after m (made + 1) → ((k : ℕ) → k ≤ made → All (λ cell. cell.0 < 64) (after m k).works.storage) → All (λ cell. cell.0 < 64) next.works.storage
    → (k : ℕ) → k ≤ made + 1 → All (λ cell. cell.0 < 64) (after m k).works.storage
held_on m next made is before held k within =
    elim (dec_lt made k) [
      | yes last ↦
          let same : made + 1 ≡ k = omega arith in
          subst (λ (x : State). All (λ cell. cell.0 < 64) x.works.storage) (is ∙ ap (after m) same) held
      | no earlier ↦ before k (omega arith)
    ]

-- ---- the line of a step

pub lines_within : (m now : State) (lines : ℕ) → lines ≡ length (lines_of m) → now ≡ step m → lines ≤ length (lines_of now)
lines_within m now lines is after_it =
    omega (arith, is, lines_stay m 1, ap (λ (x : State). length (lines_of x)) (after_one m), ap (λ (x : State). length (lines_of x)) after_it)

pub cards_within : (m now : State) (cards : ℕ) → cards ≡ length (cards_of m) → now ≡ step m → cards ≤ length (cards_of now)
cards_within m now cards is after_it =
    omega (arith, is, cards_stay m 1, ap (λ (x : State). length (cards_of x)) (after_one m), ap (λ (x : State). length (cards_of x)) after_it)

pub size_within : (m now : State) (storage : Storage) → storage ≡ m.works.storage → now ≡ step m → length storage ≡ length now.works.storage
size_within m now storage is after_it =
    ap length is ∙ sym (size_stays m) ∙ ap (λ (x : State). length x.works.storage) (sym after_it)

pub step_text : (names : Option Named) (place : Place) (shown : Shown) (statement : List ℕ) (storage : Storage) (m now : State) (lines cards : ℕ) → statement ≡ statement_next names m → place ≡ place_of m
    → shown ≡ shown_of m → storage ≡ m.works.storage → now ≡ step m → lines ≤ length (lines_of m) → cards ≤ length (cards_of m)
    → change_line (statement_words statement ++ (instruction_span place.i place.count ++ work_spans place.work now) ++ item_texts (items_since shown.numbers shown.lines shown.cards storage now)) ≡ step_line names lines cards m
step_text names place shown statement storage m now lines cards is_statement is_place is_shown is_storage is_now in_lines in_cards =
    let line = λ (w : List ℕ) (p : Place) (s : Shown) (c : Storage) (x : State).
    change_line (statement_words w ++ (instruction_span p.i p.count ++ work_spans p.work x) ++ item_texts (items_since s.numbers s.lines s.cards c x)) in
    ap (λ w. line w place shown storage now) is_statement
    ∙ ap (λ p. line (statement_next names m) p shown storage now) is_place
    ∙ ap (λ s. line (statement_next names m) (place_of m) s storage now) is_shown
    ∙ ap (λ c. line (statement_next names m) (place_of m) (shown_of m) c now) is_storage
    ∙ ap (λ x. line (statement_next names m) (place_of m) (shown_of m) m.works.storage x) is_now
    ∙ step_since names lines cards m in_lines in_cards

-- ---- where a film begins

pub attempts_none : (m : State) → attempts m 0 ≡ 0
unfolding attempts
attempts_none m = refl

pub lines_here : (m x : State) (made : ℕ) → x ≡ after m made → lines_before m ≤ length (lines_of x)
lines_here m x made is = omega (arith, lines_before_within m, lines_stay m made, ap (λ (y : State). length (lines_of y)) is)

pub cards_here : (m x : State) (made : ℕ) → x ≡ after m made → cards_before m ≤ length (cards_of x)
cards_here m x made is = omega (arith, cards_before_within m, cards_stay m made, ap (λ (y : State). length (cards_of y)) is)

pub first_is : (names : Option Named) (m p : State) (old new : List ℕ) → old ≡ [] → p ≡ m → new ≡ old ++ first_line (lines_before p) (cards_before p) p → new ≡ change_lines names m 0
first_is names m p old new empty picture is =
    is ∙ ap (λ o. o ++ first_line (lines_before p) (cards_before p) p) empty
    ∙ ap (λ (x : State). first_line (lines_before x) (cards_before x) x) picture
    ∙ sym (change_none names m)
