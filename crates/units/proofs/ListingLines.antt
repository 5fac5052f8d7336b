-- listings that grow line by line
use Rattle.std.proofs.Common.{set, length-set, get_or-set_other, List, [], ◌∷◌, ◌++◌, ◌≡◌, ◌≢◌, ◌⊎◌, inl, inr, ℕ, zero, suc, ◌+◌, ◌-◌, ◌<◌, ◌≤◌, max, map, take, length, get_or, replicate, Bool, true, false, cond, eqb, ◌&&◌, Option, Some, None, refl, sym, ◌∙◌, ap, ap₂, subst, arith}
use Rattle.std.specs.List.{AllAdjacentBelow, fold, filter, find, flat_map, join_with_byte, dedup_from, range_with_len}
use Rattle.std.specs.Option.{option_or}
use Rattle.std.proofs.Math.Seq.{take-append-add}
use Rattle.std.proofs.lemmas.List.{length-append, get_or-append-add, length-replicate, get_or-replicate, take_more_set, map_more, length-map, get_or-map, take-map, take_more, append-nil, append_assoc, map-append}
use Rattle.std.proofs.lemmas.List.Concat.{flat_map-append}
use Rattle.std.proofs.lemmas.List.Elements.{filter-append}
use Rattle.std.proofs.lemmas.List.Folds.{find-append}
use Rattle.std.proofs.lemmas.List.Sums.{suffix_len_is, fold_push}
use Rattle.std.proofs.lemmas.Bool.{eq-eqb, ne_eqb, cases_eq}
use Rattle.units.specs.declared.printer.Line.{Line}
use Rattle.units.specs.Listing.{shown, blank, text_of, form_feed, printed_at, listed_line, last_line, page, rendered, added_after, last_form, IsAbove, IsListedTo, IsRising}
use Rattle.cards.specs.Files.{line_feed}

-- what a print area shows, by where its trailing blanks begin
pub text_is : (codes : List ℕ) (n : ℕ) → n ≤ length codes → ((k : ℕ) → n ≤ k → k < length codes → shown (get_or codes k 0) ≡ blank) →
    (0 < n → shown (get_or codes (n - 1) 0) ≢ blank) → text_of codes ≡ map shown (take n codes)
unfolding text_of
text_is codes n within rest last =
    let text = map shown codes in
    let long : length text ≡ length codes = length-map codes shown in
    let at : (k : ℕ) → k < length codes → get_or text k 0 ≡ shown (get_or codes k 0) = λ k h. get_or-map shown codes k 0 0 h in
    let cut = suffix_len_is (λ g. eqb g blank) text n 0 (omega arith)
    (λ k from below. eq-eqb (get_or text k 0) blank (at k (omega arith) ∙ rest k from (omega arith)))
    (λ some. ne_eqb (get_or text (n - 1) 0) blank (λ e. last some (sym (at (n - 1) (omega arith)) ∙ e))) in
    let left : length text - (length text - n) ≡ n = omega arith in
    ap (λ k. take (length text - k) text) cut ∙ ap (λ k. take k text) left ∙ take-map shown n codes

-- a line that was filled up to a place: what follows is its end
pub record IsFilled (codes : List ℕ) (place : ℕ) (line : List ℕ) : Type 0 where
  pub within : place ≤ 132
  pub shows : take place line ≡ map shown (take place codes)
  pub rest : (k : ℕ) → place ≤ k → k < 133 → get_or line k 0 ≡ line_feed
  pub size : length line ≡ 133

pub filled_none : (codes : List ℕ) → IsFilled codes 0 (replicate 133 line_feed)
filled_none codes =
    record { within = omega arith; shows = refl; rest = λ k le lt. get_or-replicate 133 k line_feed 0 lt; size = length-replicate 133 line_feed }

pub filled_step : (codes line : List ℕ) (place code byte : ℕ) → place < length codes → place < 132 → code ≡ get_or codes place code → byte ≡ shown code →
    IsFilled codes place line → IsFilled codes (place + 1) (set line place byte)
filled_step codes line place code byte inside room code_is byte_is before =
    let here : place < length line = omega (arith, before.size) in
    record {
      within = omega arith;
      shows =
          take_more_set line place byte here
          ∙ ap (λ xs. xs ++ byte ∷ []) before.shows
          ∙ ap (λ x. map shown (take place codes) ++ x ∷ []) (byte_is ∙ ap shown code_is)
          ∙ sym (map_more shown codes place code inside);
      rest = λ k le lt. let other : k ≢ place = omega arith in get_or-set_other line place k byte 0 other ∙ before.rest k (omega arith) lt;
      size = length-set line place byte ∙ before.size;
    }

-- a filled line pushed with its end
pub line_pushed : (old new codes line : List ℕ) (n : ℕ) → n ≤ 132 → IsFilled codes n line → text_of codes ≡ map shown (take n codes) → new ≡ old ++ take (n + 1) line →
    new ≡ old ++ (text_of codes ++ line_feed ∷ [])
line_pushed old new codes line n le filled text new_is =
    let here : n < length line = omega (arith, filled.size) in
    new_is
    ∙ ap (λ xs. old ++ xs)
    (take_more line n 0 here ∙ ap (λ x. take n line ++ x ∷ []) (filled.rest n (omega arith) (omega arith)) ∙ ap (λ xs. xs ++ line_feed ∷ []) (filled.shows ∙ sym text))

-- ---- the lines of a form

-- pieces that agree on a range
same_pieces : (f g : ℕ → List ℕ) (a n : ℕ) → ((k : ℕ) → a ≤ k → k < a + n → f k ≡ g k) → flat_map f (range_with_len a n) ≡ flat_map g (range_with_len a n)
same_pieces f g a zero h = refl
same_pieces f g a (suc n) h =
    ap (λ r. r ++ flat_map f (range_with_len (a + 1) n)) (h a (omega arith) (omega arith))
    ∙ ap (λ r. g a ++ r) (same_pieces f g (a + 1) n (λ k from below. h k (omega arith) (omega arith)))

-- pieces of one byte each
equal_pieces : (f : ℕ → List ℕ) (a n byte : ℕ) → ((k : ℕ) → a ≤ k → k < a + n → f k ≡ byte ∷ []) → flat_map f (range_with_len a n) ≡ replicate n byte
equal_pieces f a zero byte h = refl
equal_pieces f a (suc n) byte h =
    ap (λ r. r ++ flat_map f (range_with_len (a + 1) n)) (h a (omega arith) (omega arith))
    ∙ ap (λ r. byte ∷ r) (equal_pieces f (a + 1) n byte (λ k from below. h k (omega arith) (omega arith)))

-- a range in two parts
range-add : (a n m : ℕ) → range_with_len a (n + m) ≡ range_with_len a n ++ range_with_len (a + n) m
range-add a zero m = let none : 0 + m ≡ m = omega arith in let same : a + 0 ≡ a = omega arith in rw (none, same) refl
range-add a (suc n) m =
    let more : suc n + m ≡ suc (n + m) = omega arith in
    let from : a + 1 + n ≡ a + suc n = omega arith in
    ap (range_with_len a) more ∙ ap (λ r. a ∷ r) (range-add (a + 1) n m ∙ ap (λ b. range_with_len (a + 1) n ++ range_with_len b m) from)

or_none : (o : Option Line) → option_or o None ≡ o
or_none (Some x) = refl
or_none None = refl

-- a greatest number is none of the lesser
max_from : (a : ℕ) (xs : List ℕ) → a ≤ fold max a xs
max_from a [] = omega arith
max_from a (x ∷ xs) = omega (arith, max_from (max a x) xs)

-- a line stands at a place
abbrev stands : ℕ → ℕ → Line → Bool
stands form number l = eqb l.form form && eqb l.line number

below_last : (xs : List Line) (form number a : ℕ) → fold max a (map (λ l. l.line) (filter (λ l. eqb l.form form) xs)) < number → find (stands form number) xs ≡ None
below_last [] form number a h = refl
below_last (x ∷ xs) form number a h =
    (elim (eqb x.form form) as (λ b. fold max a (map (λ l. l.line) (cond b (x ∷ filter (λ l. eqb l.form form) xs) (filter (λ l. eqb l.form form) xs))) < number →
    cond (b && eqb x.line number) (Some x) (find (stands form number) xs) ≡ None) [
      | true ↦ λ lt.
          let least = max_from (max a x.line) (map (λ (l : Line). l.line) (filter (λ l. eqb l.form form) xs)) in
          let other : eqb x.line number ≡ false = ne_eqb x.line number (omega arith) in
          rw other (below_last xs form number (max a x.line) lt)
      | false ↦ λ lt. below_last xs form number a lt
    ]) h

-- a list and its lines with one line more
module _ (xs : List Line) (y : Line) where
  listed_other : (form number : ℕ) → stands form number y ≡ false → listed_line (xs ++ y ∷ []) form number ≡ listed_line xs form number
  unfolding listed_line printed_at
  listed_other form number away = rw (find-append (stands form number) xs (y ∷ []), away, or_none (find (stands form number) xs)) refl

  listed_own : find (stands y.form y.line) xs ≡ None → listed_line (xs ++ y ∷ []) y.form y.line ≡ text_of y.codes ++ line_feed ∷ []
  unfolding listed_line printed_at
  listed_own none = rw (find-append (stands y.form y.line) xs (y ∷ []), none, eq-eqb y.form y.form refl, eq-eqb y.line y.line refl) refl

  last_line_other : (form : ℕ) → eqb y.form form ≡ false → last_line (xs ++ y ∷ []) form ≡ last_line xs form
  unfolding last_line
  last_line_other form away = rw (filter-append (λ l. eqb l.form form) xs (y ∷ []), away, append-nil (filter (λ l. eqb l.form form) xs)) refl

  last_line_own : last_line (xs ++ y ∷ []) y.form ≡ max (last_line xs y.form) y.line
  unfolding last_line
  last_line_own =
      let before = filter (λ (l : Line). eqb l.form y.form) xs in
      rw (filter-append (λ l. eqb l.form y.form) xs (y ∷ []), eq-eqb y.form y.form refl, map-append (λ (l : Line). l.line) before (y ∷ []))
      (fold_push max 0 (map (λ l. l.line) before) y.line)

  page_other : (form : ℕ) → form ≢ y.form → page (xs ++ y ∷ []) form ≡ page xs form
  unfolding page
  page_other form ne =
      let away : eqb y.form form ≡ false = ne_eqb y.form form (λ e. ne (sym e)) in
      ap (λ n. flat_map (listed_line (xs ++ y ∷ []) form) (range_with_len 1 n)) (last_line_other form away)
      ∙ same_pieces (listed_line (xs ++ y ∷ []) form) (listed_line xs form) 1 (last_line xs form) (λ k from below. listed_other form k (rw away refl))

  listed_beside : (number : ℕ) → number ≢ y.line → listed_line (xs ++ y ∷ []) y.form number ≡ listed_line xs y.form number
  listed_beside number ne =
      let own : eqb y.form y.form ≡ true = eq-eqb y.form y.form refl in
      let away : eqb y.line number ≡ false = ne_eqb y.line number (λ e. ne (sym e)) in
      listed_other y.form number (rw (own, away) refl)

-- nothing was printed below the last line
below_last_line : (xs : List Line) (form number : ℕ) → last_line xs form < number → find (stands form number) xs ≡ None
unfolding last_line
below_last_line xs form number h = below_last xs form number 0 h

listed_none : (xs : List Line) (form number : ℕ) → last_line xs form < number → listed_line xs form number ≡ line_feed ∷ []
unfolding listed_line printed_at
listed_none xs form number h = rw (below_last_line xs form number h) refl

-- what the next line adds to its form
abbrev pub added : Line → ℕ → List ℕ
added y last = replicate (y.line - last - 1) line_feed ++ (text_of y.codes ++ line_feed ∷ [])

-- the pages of a range, then of the empty lines below it, then of one line more
three_parts : (f : ℕ → List ℕ) (last empty : ℕ) →
    flat_map f (range_with_len 1 (last + (empty + 1))) ≡ flat_map f (range_with_len 1 last) ++ (flat_map f (range_with_len (1 + last) empty) ++ f (1 + last + empty))
three_parts f last empty =
    let below = range_with_len (1 + last) empty in
    ap (flat_map f) (range-add 1 last (empty + 1) ∙ ap (λ r. range_with_len 1 last ++ r) (range-add (1 + last) empty 1))
    ∙ flat_map-append f (range_with_len 1 last) (below ++ (1 + last + empty) ∷ [])
    ∙ ap (λ r. flat_map f (range_with_len 1 last) ++ r) (flat_map-append f below ((1 + last + empty) ∷ []) ∙ ap (λ r. flat_map f below ++ r) (append-nil (f (1 + last + empty))))

page_more : (xs : List Line) (y : Line) (last : ℕ) → last ≡ last_line xs y.form → last < y.line → page (xs ++ y ∷ []) y.form ≡ page xs y.form ++ added y last
unfolding page
page_more xs y last is lt =
    let before = listed_line xs y.form in
    let after_it = listed_line (xs ++ y ∷ []) y.form in
    let empty : ℕ = y.line - last - 1 in
    let long : last_line (xs ++ y ∷ []) y.form ≡ last + (empty + 1) = last_line_own xs y ∙ omega arith in
    let here : 1 + last + empty ≡ y.line = omega arith in
    let above = same_pieces after_it before 1 last (λ k from below. listed_beside xs y k (omega arith)) in
    let between_them = equal_pieces after_it (1 + last) empty line_feed (λ k from below. listed_beside xs y k (omega arith) ∙ listed_none xs y.form k (omega arith)) in
    let own = ap after_it here ∙ listed_own xs y (below_last_line xs y.form y.line (omega arith)) in
    ap (λ n. flat_map after_it (range_with_len 1 n)) long
    ∙ three_parts after_it last empty
    ∙ ap (λ r. r ++ (flat_map after_it (range_with_len (1 + last) empty) ++ after_it (1 + last + empty))) (above ∙ ap (λ n. flat_map before (range_with_len 1 n)) is)
    ∙ ap (λ r. page xs y.form ++ (r ++ after_it (1 + last + empty))) between_them
    ∙ ap (λ r. page xs y.form ++ (replicate empty line_feed ++ r)) own

-- ---- the forms one after another

-- the last of a row of forms
abbrev final : ℕ → List ℕ → ℕ
final k ks = fold (λ _ x. x) k ks

-- the forms do not fall, up to one
abbrev Climbs : ℕ → List ℕ → ℕ → Type 0
Climbs k [] form = k ≤ form
Climbs k (x ∷ ks) form = (k ≤ x) × Climbs x ks form

climbs_below : (k : ℕ) (ks : List ℕ) (form : ℕ) → Climbs k ks form → k ≤ form
climbs_below k [] form h = h
climbs_below k (x ∷ ks) form h = omega (arith, h.0, climbs_below x ks form h.1)

-- the first piece, and the rest behind the byte
join_first : (byte : ℕ) (p : ℕ → List ℕ) (front : List ℕ) (k : ℕ) (ks : List ℕ) →
    join_with_byte byte (front ∷ map p (dedup_from eqb k ks)) ≡ front ++ (byte ∷ join_with_byte byte (map p (dedup_from eqb k ks)))
join_first byte p front k [] = refl
join_first byte p front k (x ∷ ks) =
    elim (eqb x k) as (λ b. join_with_byte byte (front ∷ map p (cond b (dedup_from eqb k ks) (k ∷ dedup_from eqb x ks)))
    ≡ front ++ (byte ∷ join_with_byte byte (map p (cond b (dedup_from eqb k ks) (k ∷ dedup_from eqb x ks))))) [
      | true ↦ join_first byte p front k ks
      | false ↦ refl
    ]

module _ (byte form : ℕ) (p q : ℕ → List ℕ) (more : List ℕ) (others : (k : ℕ) → k ≢ form → q k ≡ p k) (own : q form ≡ p form ++ more) where
  -- what joined pieces gain where the piece of one form, the last or a new one, does
  abbrev grown : ℕ → List ℕ
  grown last = cond (eqb form last) [] (byte ∷ []) ++ more

  pieces_grow : (k : ℕ) (ks : List ℕ) → Climbs k ks form → (final k ks ≢ form → p form ≡ []) →
      join_with_byte byte (map q (dedup_from eqb k (ks ++ form ∷ []))) ≡ join_with_byte byte (map p (dedup_from eqb k ks)) ++ grown (final k ks)
  pieces_grow k [] climbs new =
      elim (cases_eq form k) [
        | inl same ↦
            let yes_same : eqb form k ≡ true = eq-eqb form k same in
            rw yes_same (ap q (sym same) ∙ own ∙ ap (λ f. p f ++ more) same)
        | inr apart ↦
            let away : eqb form k ≡ false = ne_eqb form k apart in
            let ne : k ≢ form = λ e. apart (sym e) in
            rw away (ap (λ r. r ++ (byte ∷ q form)) (others k ne) ∙ ap (λ r. p k ++ (byte ∷ r)) (own ∙ ap (λ r. r ++ more) (new ne)))
      ]
  pieces_grow k (x ∷ ks) climbs new =
      elim (cases_eq x k) [
        | inl same ↦
            let yes_same : eqb x k ≡ true = eq-eqb x k same in
            rw yes_same
            (subst (λ k. join_with_byte byte (map q (dedup_from eqb k (ks ++ form ∷ []))) ≡ join_with_byte byte (map p (dedup_from eqb k ks)) ++ grown (final x ks)) same
            (pieces_grow x ks climbs.1 new))
        | inr apart ↦
            let away : eqb x k ≡ false = ne_eqb x k apart in
            let least = climbs_below x ks form climbs.1 in
            let ne : k ≢ form = λ e. apart (omega (arith, climbs.0)) in
            rw away
            (join_first byte q (q k) x (ks ++ form ∷ [])
            ∙ ap (λ r. q k ++ (byte ∷ r)) (pieces_grow x ks climbs.1 new)
            ∙ ap (λ r. r ++ (byte ∷ (join_with_byte byte (map p (dedup_from eqb x ks)) ++ grown (final x ks)))) (others k ne)
            ∙ sym (append_assoc (p k) (byte ∷ join_with_byte byte (map p (dedup_from eqb x ks))) (grown (final x ks)))
            ∙ ap (λ r. r ++ grown (final x ks)) (sym (join_first byte p (p k) x ks)))
      ]

-- ---- lines that rise

-- a line stands above a place
abbrev Above : Line → ℕ → ℕ → Type 0
Above x form number = (x.form < form) ⊎ ((x.form ≡ form) × (x.line < number))

-- lines rise, and up to a place
abbrev Rises : List Line → ℕ → ℕ → Type 0
Rises [] form number = Unit {0}
Rises (x ∷ []) form number = Above x form number
Rises (x ∷ z ∷ xs) form number = IsAbove x z × Rises (z ∷ xs) form number

above_above : (x z : Line) (form number : ℕ) → IsAbove x z → Above z form number → Above x form number
above_above x z form number first second =
    elim first [
      | inl lt ↦ elim second [ inl lt2 ↦ inl (omega arith) | inr e2 ↦ inl (omega (arith, e2.0)) ]
      | inr e ↦ elim second [ inl lt2 ↦ inl (omega (arith, e.0)) | inr e2 ↦ inr (e.0 ∙ e2.0, omega (arith, e.1, e2.1)) ]
    ]

first_above : (x : Line) (xs : List Line) (form number : ℕ) → Rises (x ∷ xs) form number → Above x form number
first_above x [] form number h = h
first_above x (z ∷ xs) form number h = above_above x z form number h.0 (first_above z xs form number h.1)

rest_rises : (x : Line) (xs : List Line) (form number : ℕ) → Rises (x ∷ xs) form number → Rises xs form number
rest_rises x [] form number h = tt
rest_rises x (z ∷ xs) form number h = h.1

above_climbs : (x : Line) (form number : ℕ) → Above x form number → x.form ≤ form
above_climbs x form number h = elim h [ inl lt ↦ omega arith | inr e ↦ omega (arith, e.0) ]

climbs : (x : Line) (xs : List Line) (form number : ℕ) → Rises (x ∷ xs) form number → Climbs x.form (map (λ l. l.form) xs) form
climbs x [] form number h = above_climbs x form number h
climbs x (z ∷ xs) form number h = (above_climbs x z.form z.line h.0, climbs z xs form number h.1)

last_above : (xs : List Line) (form number a : ℕ) → Rises xs form number → a < number → fold max a (map (λ l. l.line) (filter (λ l. eqb l.form form) xs)) < number
last_above [] form number a h lt = lt
last_above (x ∷ xs) form number a h lt =
    let rest = rest_rises x xs form number h in
    elim (first_above x xs form number h) [
      | inl before ↦ let away : eqb x.form form ≡ false = ne_eqb x.form form (omega arith) in rw away (last_above xs form number a rest lt)
      | inr here ↦ rw (eq-eqb x.form form here.0) (last_above xs form number (max a x.line) rest (omega (arith, here.1)))
    ]

-- the last line of a form stands above the place too
last_line_above : (xs : List Line) (form number : ℕ) → Rises xs form number → 0 < number → last_line xs form < number
unfolding last_line
last_line_above xs form number h some = last_above xs form number 0 h some

-- above a new form lines stand above its line 1 too
new_form : (xs : List Line) (form number : ℕ) → Rises xs form number → last_form xs ≢ form → Rises xs form 1
new_form [] form number h ne = tt
new_form (x ∷ []) form number h ne = elim h [ inl lt ↦ inl lt | inr e ↦ absurd (ne e.0) ]
new_form (x ∷ z ∷ xs) form number h ne = (h.0, new_form (z ∷ xs) form number h.1 ne)

none_on_new_form : (xs : List Line) (form number : ℕ) → Rises xs form number → last_form xs ≢ form → last_line xs form ≡ 0
none_on_new_form xs form number h ne = let below = last_line_above xs form 1 (new_form xs form number h ne) (omega arith) in omega arith

-- lines in order rise up to each of them
rises : (xs : List Line) (i : ℕ) (d : Line) → i < length xs → AllAdjacentBelow IsAbove xs (length xs) → Rises (take i xs) (get_or xs i d).form (get_or xs i d).line
rises [] i d lt h = absurd (omega arith)
rises (x ∷ xs) zero d lt h = tt
rises (x ∷ []) (suc i) d lt h = absurd (omega arith)
rises (x ∷ z ∷ xs) (suc zero) d lt h = h 0 d (omega arith)
rises (x ∷ z ∷ xs) (suc (suc i)) d lt h = (
  h 0 d (omega arith),
  rises (z ∷ xs) (suc i) d (omega arith) (λ k e below. let up : suc k + 1 ≡ suc (k + 1) = omega arith in rw up at (h (suc k) e (omega arith))),
)

-- ---- one line more

-- what stands between the lines so far and the next
abbrev between : List Line → ℕ → List ℕ
between [] form = []
between (x ∷ xs) form = cond (eqb form (last_form (x ∷ xs))) [] (form_feed ∷ [])

page_none : (xs : List Line) (form : ℕ) → last_line xs form ≡ 0 → page xs form ≡ []
unfolding page
page_none xs form none = ap (λ n. flat_map (listed_line xs form) (range_with_len 1 n)) none

-- what one line more adds to a listing
rendered_more : (xs : List Line) (y : Line) (last : ℕ) → Rises xs y.form y.line → 0 < y.line → last ≡ last_line xs y.form →
    rendered (xs ++ y ∷ []) ≡ rendered xs ++ (between xs y.form ++ added y last)
unfolding rendered page last_line
rendered_more [] y last h some is = page_more [] y last is (omega (arith, is))
rendered_more (x ∷ xs) y last h some is =
    let lower = last_line_above (x ∷ xs) y.form y.line h some in
    ap (λ ks. join_with_byte form_feed (map (page (x ∷ (xs ++ y ∷ []))) (dedup_from eqb x.form ks))) (map-append (λ (l : Line). l.form) xs (y ∷ []))
    ∙ pieces_grow form_feed y.form (page (x ∷ xs)) (page (x ∷ (xs ++ y ∷ []))) (added y last)
    (page_other (x ∷ xs) y) (page_more (x ∷ xs) y last is (omega arith)) x.form (map (λ l. l.form) xs) (climbs x xs y.form y.line h)
    (λ ne. page_none (x ∷ xs) y.form (none_on_new_form (x ∷ xs) y.form y.line h ne))

pub shown_none : IsListedTo [] [] 0 0
unfolding rendered last_line
shown_none = record { text = refl; form = refl; done = refl; none = λ _. refl }

between_same : (xs : List Line) (form : ℕ) → last_form xs ≡ form → between xs form ≡ []
between_same [] form e = refl
between_same (x ∷ xs) form e = rw (eq-eqb form (last_form (x ∷ xs)) (sym e)) refl

between_new : (xs : List Line) (form : ℕ) → 0 < last_form xs → last_form xs ≢ form → between xs form ≡ form_feed ∷ []
between_new [] form some ne = absurd (omega arith)
between_new (x ∷ xs) form some ne = rw (ne_eqb form (last_form (x ∷ xs)) (λ e. ne (sym e))) refl

module _ (xs : List Line) (y : Line) (bytes : List ℕ) (on last : ℕ) (so_far : IsListedTo xs bytes on last) where
  -- the form feed before another form
  feed : last_form xs ≢ y.form → cond (eqb on 0) [] (form_feed ∷ []) ≡ between xs y.form
  feed new = elim (cases_eq on 0) [
    | inl none ↦ rw (eq-eqb on 0 none, so_far.none none) refl
    | inr some ↦ rw (ne_eqb on 0 some) (sym (between_new xs y.form (omega (arith, so_far.form)) new))
  ]

  -- what the next line adds
  adds : Rises xs y.form y.line → added_after on last y ≡ between xs y.form ++ added y (last_line xs y.form)
  unfolding added_after
  adds above = elim (cases_eq on y.form) [
    | inl same ↦
        rw (eq-eqb on y.form same, between_same xs y.form (sym so_far.form ∙ same))
        (ap (added y) (so_far.done ∙ ap (last_line xs) same))
    | inr other ↦
        let new : last_form xs ≢ y.form = λ e. other (so_far.form ∙ e) in
        rw (ne_eqb on y.form other)
        (ap₂ (λ front last. front ++ added y last) (feed new) (sym (none_on_new_form xs y.form y.line above new)))
  ]

module _ (lines : List Line) (i : ℕ) (y : Line) (rising : IsRising lines) (inside : i < length lines) (at : y ≡ get_or lines i y) where
  -- the lines so far stand above the next
  rises_to : Rises (take i lines) y.form y.line
  rises_to = subst (λ (z : Line). Rises (take i lines) z.form z.line) (sym at) (rises lines i y inside rising.in_order)

  -- the listing of one line more
  pub shown_more : (bytes : List ℕ) (on last : ℕ) → IsListedTo (take i lines) bytes on last → IsListedTo (take (i + 1) lines) (bytes ++ added_after on last y) y.form y.line
  shown_more bytes on last so_far =
      let xs = take i lines in
      let stands : (0 < y.form) × (0 < y.line) = subst (λ (z : Line). (0 < z.form) × (0 < z.line)) (sym at) (rising.on_forms i y inside) in
      let lower = last_line_above xs y.form y.line rises_to stands.1 in
      let longer : take (i + 1) lines ≡ xs ++ y ∷ [] = take_more lines i y inside ∙ ap (λ z. xs ++ z ∷ []) (sym at) in
      subst (λ ys. IsListedTo ys (bytes ++ added_after on last y) y.form y.line) (sym longer) (record {
        text =
            ap (λ bs. bs ++ added_after on last y) so_far.text
            ∙ ap (λ more. rendered xs ++ more) (adds xs y bytes on last so_far rises_to)
            ∙ sym (rendered_more xs y (last_line xs y.form) rises_to stands.1 refl);
        form = sym (ap (final 0) (map-append (λ (l : Line). l.form) xs (y ∷ [])) ∙ fold_push (λ _ x. x) 0 (map (λ l. l.form) xs) y.form);
        done = omega (arith, last_line_own xs y);
        none = λ zeroth. absurd (omega (arith, stands.0));
      })

-- the same where these lines stand behind earlier ones
pub shown_behind : (before lines : List Line) (i : ℕ) (y : Line) → IsRising (before ++ lines) → i < length lines → y ≡ get_or lines i y →
    (bytes : List ℕ) (on last : ℕ) → IsListedTo (before ++ take i lines) bytes on last →
    IsListedTo (before ++ take (i + 1) lines) (bytes ++ added_after on last y) y.form y.line
shown_behind before lines i y rising inside at bytes on last so_far =
    let whole = before ++ lines in
    let here = length before + i in
    let within : here < length whole = omega (arith, length-append before lines) in
    let at_whole : y ≡ get_or whole here y = at ∙ sym (get_or-append-add before lines i y) in
    let next : here + 1 ≡ length before + (i + 1) = omega arith in
    let found = shown_more whole here y rising within at_whole bytes on last (subst (λ xs. IsListedTo xs bytes on last) (sym (take-append-add before lines i)) so_far) in
    subst (λ xs. IsListedTo xs (bytes ++ added_after on last y) y.form y.line) (ap (λ n. take n whole) next ∙ take-append-add before lines (i + 1)) found
