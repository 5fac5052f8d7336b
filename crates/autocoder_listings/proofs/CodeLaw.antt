-- for the law of `laws`: the code that is shown of a source without faults is its image
use Rattle.std.proofs.Common.{◌≡◌, ◌≢◌, ℕ, zero, suc, ◌+◌, ◌<◌, ◌≤◌, Bool, false, List, [], ◌∷◌, ◌++◌, length, take, drop, get_or, Option, Some, None, refl, sym, ◌∙◌, ap, subst, arith, nat_eq, nat_le, inl, inr, eq-eqb}
use Rattle.std.proofs.Math.Decide.{dec_lt}
use Rattle.std.specs.List.{All, AllPairs, Contains, list_any, flat_map}
use Rattle.std.proofs.lemmas.Bool.{leb-false, ne_eqb}
use Rattle.std.proofs.lemmas.Bool.Decides.{eqb_tells}
use Rattle.std.proofs.lemmas.List.{take_more, take_all, append-nil}
use Rattle.std.proofs.lemmas.Grind.{flat_map-append}
use Rattle.std.proofs.lemmas.List.Elements.{All-nil, All-cons, All-head, All-tail, All-append, All-contains, All-contains_itself, All-from_get_or}
use Rattle.std.proofs.lemmas.List.Kept.{AllPairs-cons}
use Rattle.cards.specs.declared.decks.Card.{Card}
use Rattle.autocoder_layout.specs.Source.{Line, silent, has_end, lines_of}
use Rattle.autocoder_layout.specs.Literals.{literals_of}
use Rattle.autocoder_layout.specs.Judging.{fills_outside, is_filled, is_overlapping}
use Rattle.autocoder_layout.specs.Layout.{Laid, Satisfies, IsLayout, fills_of, slots_of, nothing, layout_of}
use Rattle.autocoder_layout.specs.declared.cells.Cell.{Cell}
use Rattle.autocoder_layout.proofs.LayoutLemmas.{there_is_one}
use Rattle.autocoder_layout.specs.Image.{cell_at, cons_some, cells_from, image_of}
use Rattle.autocoder.specs.Programs.{size_for, layout_for, image_for, IsFaultless}
use Rattle.autocoder.proofs.LoadingLaw.{image_of_cells}
use Rattle.autocoder_statements.proofs.Tests.{neither}
use Rattle.autocoder_listings.specs.Reading.{read_from, rows_read, code_shown}
use Rattle.autocoder_listings.proofs.CardLemmas.{no_fault}
use Rattle.autocoder_layout.proofs.FaultLemmas.{no_faults_of}
use Rattle.autocoder_listings.proofs.ReadingLemmas.{Follow, laid_follows, rows_are_read}

-- two cells are in different positions
abbrev pub AreApart : Cell → Cell → Type 0
AreApart c d = c.position ≢ d.position

-- ---- cells in turn are apart

follow_at : (place : ℕ) (c : Cell) (cells : List Cell) → Follow place (c ∷ cells) → c.position ≡ place
unfolding read_from
follow_at place c cells f = sym (ap (λ (l : List Cell). (get_or l 0 c).position) f)

follow_rest : (place : ℕ) (c : Cell) (cells : List Cell) → Follow place (c ∷ cells) → Follow (place + 1) cells
unfolding read_from
follow_rest place c cells f = ap (drop 1) f

follow_from : (least place : ℕ) (cells : List Cell) → least ≤ place → Follow place cells → All (λ c. least ≤ c.position) cells
follow_from least place [] h f = All-nil (λ c. least ≤ c.position)
follow_from least place (c ∷ cells) h f =
    All-cons (λ c. least ≤ c.position) c cells (omega (arith, follow_at place c cells f)) (follow_from least (place + 1) cells (omega arith) (follow_rest place c cells f))

further_apart : (c : Cell) (cells : List Cell) → All (λ d. c.position + 1 ≤ d.position) cells → All (AreApart c) cells
further_apart c cells all = λ k d h. λ e. absurd (omega (arith, all k d h, e))

follow_apart : (place : ℕ) (cells : List Cell) → Follow place cells → AllPairs AreApart cells
follow_apart place [] f = λ i j d h within. absurd (omega arith)
follow_apart place (c ∷ cells) f =
    let rest : Follow (place + 1) cells = follow_rest place c cells f in
    AllPairs-cons AreApart c cells (further_apart c cells (follow_from (c.position + 1) (place + 1) cells (omega (arith, follow_at place c cells f)) rest)) (follow_apart (place + 1) cells rest)

-- ---- cells of two cards are apart

none_passes : {X : Type 0} (p : X → Bool) (xs : List X) → list_any p xs ≡ false → All (λ x. p x ≡ false) xs
none_passes p [] e = All-nil (λ x. p x ≡ false)
none_passes p (x ∷ xs) e =
    let both = neither (p x) (list_any p xs) e in
    All-cons (λ x. p x ≡ false) x xs both.0 (none_passes p xs both.1)

different : (a b : ℕ) → nat_eq a b ≡ false → a ≢ b
different a b unequal same = absurd (cc (eq-eqb a b same))

not_filled : (filled : List Cell) (c : Cell) → is_filled filled c.position ≡ false → All (λ d. AreApart d c) filled
not_filled filled c e = λ k d h. different (get_or filled k d).position c.position (none_passes (λ d. nat_eq d.position c.position) filled e k d h)

-- none of the cells is filled already
abbrev Clear : List Cell → List Cell → Type 0
Clear filled cells = All (λ c. All (λ d. AreApart d c) filled) cells

clear : (filled cells : List Cell) → is_overlapping filled cells ≡ false → Clear filled cells
clear filled cells e = λ k d h. not_filled filled (get_or cells k d) (none_passes (λ c. is_filled filled c.position) cells e k d h)

apart_append : (one two : List Cell) → AllPairs AreApart one → AllPairs AreApart two → Clear one two → AllPairs AreApart (one ++ two)
apart_append [] two a b c = b
apart_append (d ∷ one) two a b c =
    AllPairs-cons AreApart d (one ++ two)
    (All-append (AreApart d) one two (λ k e h. a 0 (suc k) e (omega arith) (omega arith)) (λ k e h. All-head (λ x. AreApart x (get_or two k e)) d one (c k e h)))
    (apart_append one two (λ i j e h within. a (suc i) (suc j) e (omega arith) (omega arith)) b (λ k e h. All-tail (λ x. AreApart x (get_or two k e)) d one (c k e h)))

-- ---- a source without faults

inside : (size : ℕ) (cells : List Cell) → fills_outside size cells ≡ false → All (λ c. c.position < size) cells
inside size cells e = λ k d h. leb-false size (get_or cells k d).position (none_passes (λ c. nat_le size c.position) cells e k d h)

abbrev FollowsLaid : Laid → Type 0
FollowsLaid laid = Follow laid.slot.before laid.fills

module _ (size : ℕ) (lines : List Line) (faultless : All (λ laid. laid.fault ≡ None) (layout_of size lines)) where
  abbrev whole : List Laid
  whole = layout_of size lines

  rules : IsLayout size lines whole
  rules = there_is_one size lines

  at : (k : ℕ) → k < length whole → Satisfies size (literals_of lines (slots_of whole)) whole (take k whole) (drop (k + 1) whole) (get_or lines k silent) (get_or whole k nothing)
  at k h = rules.satisfied k (omega (arith, rules.one_each))

  good : (k : ℕ) → k < length whole → (fills_outside size (get_or whole k nothing).fills ≡ false) × (is_overlapping (fills_of (take k whole)) (get_or whole k nothing).fills ≡ false)
  good k h =
      no_fault size (slots_of whole) (fills_of (take k whole)) (get_or whole k nothing).slot (get_or whole k nothing).fills (get_or lines k silent)
      (sym ((at k h).fault) ∙ faultless k nothing h)

  pub follows_at : (k : ℕ) → k < length whole → FollowsLaid (get_or whole k nothing)
  follows_at k h = laid_follows size (literals_of lines (slots_of whole)) whole (take k whole) (drop (k + 1) whole) (get_or lines k silent) (get_or whole k nothing) (at k h)

  pub all_follow : All FollowsLaid whole
  all_follow = All-from_get_or FollowsLaid whole nothing follows_at

  fills_more : (k : ℕ) → k < length whole → fills_of (take (k + 1) whole) ≡ fills_of (take k whole) ++ (get_or whole k nothing).fills
  fills_more k h =
      ap fills_of (take_more whole k nothing h)
      ∙ flat_map-append (λ (laid : Laid). laid.fills) (take k whole) (get_or whole k nothing ∷ [])
      ∙ ap (λ f. fills_of (take k whole) ++ f) (append-nil (get_or whole k nothing).fills)

  apart_to : (k : ℕ) → k ≤ length whole → AllPairs AreApart (fills_of (take k whole))
  apart_to zero h = λ i j d lt within. absurd (omega arith)
  apart_to (suc k) h =
      let within : k < length whole = omega arith in
      let laid : Laid = get_or whole k nothing in
      let next : k + 1 ≡ suc k = omega arith in
      subst (λ n. AllPairs AreApart (fills_of (take n whole))) next
      (subst (λ f. AllPairs AreApart f) (sym (fills_more k within))
      (apart_append (fills_of (take k whole)) laid.fills (apart_to k (omega arith)) (follow_apart laid.slot.before laid.fills (follows_at k within)) (clear (fills_of (take k whole)) laid.fills ((good k within).1))))

  pub all_apart : AllPairs AreApart (fills_of whole)
  all_apart = subst (λ l. AllPairs AreApart (fills_of l)) (take_all (length whole) whole (omega arith)) (apart_to (length whole) (omega arith))

  inside_to : (k : ℕ) → k ≤ length whole → All (λ c. c.position < size) (fills_of (take k whole))
  inside_to zero h = All-nil (λ c. c.position < size)
  inside_to (suc k) h =
      let within : k < length whole = omega arith in
      let laid : Laid = get_or whole k nothing in
      let next : k + 1 ≡ suc k = omega arith in
      subst (λ n. All (λ c. c.position < size) (fills_of (take n whole))) next
      (subst (λ f. All (λ c. c.position < size) f) (sym (fills_more k within))
      (All-append (λ c. c.position < size) (fills_of (take k whole)) laid.fills (inside_to k (omega arith)) (inside size laid.fills ((good k within).0))))

  pub all_inside : All (λ c. c.position < size) (fills_of whole)
  all_inside = subst (λ l. All (λ c. c.position < size) (fills_of l)) (take_all (length whole) whole (omega arith)) (inside_to (length whole) (omega arith))

-- what is shown of a layout whose cards each fill positions in turn
shown_is : (layout : List Laid) → All FollowsLaid layout → flat_map (λ laid. rows_read laid.fills) layout ≡ fills_of layout
shown_is [] all = refl
shown_is (laid ∷ layout) all =
    ap (λ x. x ++ flat_map (λ laid. rows_read laid.fills) layout) (rows_are_read laid.slot.before laid.fills (All-head FollowsLaid laid layout all))
    ∙ ap (λ x. laid.fills ++ x) (shown_is layout (All-tail FollowsLaid laid layout all))

-- ---- the image of cells that are apart

found_at : (cells : List Cell) (c : Cell) → AllPairs AreApart cells → (k : ℕ) → k < length cells → get_or cells k c ≡ c → cell_at cells c.position ≡ Some c
unfolding cell_at
found_at [] c apart k h e = absurd (omega arith)
found_at (d ∷ cells) c apart zero h e = rw (eq-eqb d.position c.position (ap (λ (x : Cell). x.position) e)) (ap Some e)
found_at (d ∷ cells) c apart (suc k) h e =
    let other : d.position ≢ c.position = subst (λ (x : Cell). d.position ≢ x.position) e (apart 0 (suc k) c (omega arith) h) in
    rw (ne_eqb d.position c.position other) (found_at cells c (λ i j x lt within. apart (suc i) (suc j) x (omega arith) (omega arith)) k (omega arith) e)

contains_more : (o : Option Cell) (cells : List Cell) (c : Cell) → Contains cells c → Contains (cons_some o cells) c
contains_more None cells c has = has
contains_more (Some d) cells c has = let h = has.1 in (suc (has.0), omega arith, has.2)

distinct : (a b : ℕ) → a ≢ b → a ≤ b → a < b
distinct a b ne le =
    elim (dec_lt a b) [
      | yes below ↦ below
      | no above ↦ absurd (ne (omega (arith, above, le)))
    ]

image_has : (filled : List Cell) (first count : ℕ) (c : Cell) → first ≤ c.position → c.position < first + count → cell_at filled c.position ≡ Some c → Contains (cells_from filled first count) c
unfolding cells_from
image_has filled first zero c low high e = absurd (omega arith)
image_has filled first (suc count) c low high e =
    let rest : List Cell = cells_from filled (first + 1) count in
    elim (eqb_tells first c.position) [
      | inl same ↦
          let here : cell_at filled first ≡ Some c = ap (cell_at filled) (same.1) ∙ e in
          subst (λ o. Contains (cons_some o rest) c) (sym here) (0, omega arith, refl)
      | inr other ↦ contains_more (cell_at filled first) rest c (image_has filled (first + 1) count c (omega (arith, distinct first c.position other.1 low)) (omega arith) e)
    ]

-- ---- the law

module _ (source : List Card) (faultless : IsFaultless source) where
  none_faulty : All (λ laid. laid.fault ≡ None) (layout_for source)
  none_faulty = no_faults_of (has_end source) (layout_for source) faultless

  shown_filled : code_shown source ≡ fills_of (layout_for source)
  unfolding code_shown
  shown_filled = shown_is (layout_for source) (all_follow (size_for source) (lines_of false source) none_faulty)

  pub each_once : AllPairs AreApart (code_shown source)
  each_once = subst (λ f. AllPairs AreApart f) (sym shown_filled) (all_apart (size_for source) (lines_of false source) none_faulty)

  pub image_shown : (c : Cell) → Contains (image_for source) c → Contains (code_shown source) c
  unfolding image_of
  image_shown c has =
      subst (λ f. Contains f c) (sym shown_filled)
      (All-contains (Contains (fills_of (layout_for source))) (image_for source) c (image_of_cells (Contains (fills_of (layout_for source))) (fills_of (layout_for source)) 0 (size_for source) (All-contains_itself (fills_of (layout_for source)))) has)

  pub shown_in_image : (c : Cell) → Contains (code_shown source) c → Contains (image_for source) c
  unfolding image_of
  shown_in_image c has =
      let filled : List Cell = fills_of (layout_for source) in
      let in_fills : Contains filled c = subst (λ f. Contains f c) shown_filled has in
      let below : c.position < size_for source = All-contains (λ c. c.position < size_for source) filled c (all_inside (size_for source) (lines_of false source) none_faulty) in_fills in
      image_has filled 0 (size_for source) c (omega arith) (omega arith)
      (found_at filled c (all_apart (size_for source) (lines_of false source) none_faulty) (in_fills.0) (in_fills.1) (in_fills.2))
