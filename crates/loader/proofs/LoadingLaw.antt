-- all cards of a program
use Rattle.std.proofs.Common.{◌≡◌, ℕ, zero, suc, ◌+◌, ◌*◌, ◌<◌, ◌≤◌, Bool, true, false, List, [], ◌∷◌, ◌++◌, Some, refl, sym, ◌∙◌, ap, ap₂, subst, arith, length, get_or, set, map, take, drop, replicate, codes, slice_get, ext_get_or, if◌then◌else◌, length-append, get_or-set_other, drop-drop, flat_map, All, zero-add, nat_le, take_all, drop_of_length-le, ◌==◌}
use Rattle.std.proofs.lemmas.List.{length-map, length-replicate}
use Rattle.std.specs.List.{list_any}
use Rattle.std.proofs.Math.Decide.{dec_lt}
use Rattle.cards.specs.declared.decks.Card.{Card}
use Rattle.core_store.specs.Storage.{Storage, is_marked, put_cells, blank_storage, blank_cell, positions_of}
use Rattle.core_store.specs.declared.sizes.Size.{Size}
use Rattle.core_store.proofs.SizeLemmas.{within}
use Rattle.core_store.specs.declared.registers.Compared.TheVariants.{Equal}
use Rattle.core_store.proofs.Fields.{length-put_cells, cell-put_cells, cell-put_cells_above}
use Rattle.addresses.specs.Addresses.{written}
use Rattle.units.specs.declared.profiles.Profile.{Profile}
use Rattle.units.specs.declared.switches.Switches.{Switches}
use Rattle.units.specs.declared.units.Units.{Units}
use Rattle.autocoder_layout.specs.declared.cells.Cell.{Cell}
use Rattle.machine.specs.declared.standings.Standing.TheVariants.{Running}
use Rattle.machine.specs.Run.{State, step, after, loaded}
use Rattle.machine.proofs.Steps.{after-after}
use Rattle.autocoder.specs.Loadable.{IsLoadable, CanBeLoaded}
use Rattle.autocoder.specs.Assembly.{Assembly}
use Rattle.loader.specs.Cards.{boot_card, load_card, start_card, loading_cards, instruction}
use Rattle.loader.specs.Stretches.{is_lawful, is_contiguous, marks_of, stretches_from, stretches_of}
use Rattle.loader.specs.Loading.{Loads, IsBetweenCards, loading_marks, filled_with, at_the_start, instructions_to_load}
use Rattle.loader.proofs.LoadingFronts.{Holds}
use Rattle.loader.proofs.PlaceEffects.{Runs, runs}
use Rattle.loader.proofs.PieceBounds.{lawful_contiguous, lawful_length, lawful_marks}
use Rattle.loader.proofs.StretchLaw.{is_split}
use Rattle.loader.proofs.PlaceOrders.{orders_of, few_orders, three_of}
use Rattle.loader.proofs.LoadingSteps.{At, units_with, ends_at, by_start}
use Rattle.loader.proofs.LoadingBoot.{repeated, booted}
use Rattle.loader.proofs.PieceTexts.{card_size}
use Rattle.loader.proofs.LoadingCards.{position_is, orders_high, carries}

-- ---- stretches that cards can carry

abbrev pub Ranged : ℕ → List Cell → Type 0
Ranged size [] = Unit {0}
Ranged size (c ∷ cells) = ((80 < c.position) × (c.position < size)) × Ranged size cells

abbrev pub Good : ℕ → List Cell → Type 0
Good size [] = ⊥
Good size (c ∷ cells) = (is_lawful (c ∷ cells) ≡ true) × Ranged size (c ∷ cells)

abbrev pub AllGood : ℕ → List (List Cell) → Type 0
AllGood size [] = Unit {0}
AllGood size (stretch ∷ stretches) = Good size stretch × AllGood size stretches

abbrev flat : List (List Cell) → List Cell
flat stretches = flat_map (λ stretch. stretch) stretches

ranged_append : (size : ℕ) (xs : List Cell) (c : Cell) → Ranged size xs → (80 < c.position) × (c.position < size) → Ranged size (xs ++ c ∷ [])
ranged_append size [] c rx rc = (rc, tt)
ranged_append size (x ∷ xs) c rx rc = (rx.0, ranged_append size xs c rx.1 rc)

good_append : (size : ℕ) (x : Cell) (xs : List Cell) (c : Cell) → Good size (x ∷ xs) → (80 < c.position) × (c.position < size) → is_lawful ((x ∷ xs) ++ c ∷ []) ≡ true → Good size ((x ∷ xs) ++ c ∷ [])
good_append size x xs c good rc lawful = (lawful, (good.1.0, ranged_append size xs c good.1.1 rc))

single : (size : ℕ) (c : Cell) → (80 < c.position) × (c.position < size) → Good size (c ∷ [])
unfolding is_lawful is_contiguous marks_of
single size c rc = (elim c.marked as (λ b. nat_le 0 (if b then 6 else 4) ≡ true) [ true ↦ refl | false ↦ refl ], (rc, tt))

pub split_good : (size : ℕ) (cells : List Cell) (x : Cell) (xs : List Cell) → Good size (x ∷ xs) → Ranged size cells → AllGood size (stretches_from (x ∷ xs) cells)
unfolding stretches_from
split_good size [] x xs good ranged = (good, tt)
split_good size (c ∷ cells) x xs good ranged =
    (elim (is_lawful ((x ∷ xs) ++ c ∷ [])) as (λ b. is_lawful ((x ∷ xs) ++ c ∷ []) ≡ b →
    AllGood size (if b then stretches_from ((x ∷ xs) ++ c ∷ []) cells else (x ∷ xs) ∷ stretches_from (c ∷ []) cells)) [
      | true ↦ λ lawful. split_good size cells x (xs ++ c ∷ []) (good_append size x xs c good ranged.0 lawful) ranged.1
      | false ↦ λ _. (good, split_good size cells c [] (single size c ranged.0) ranged.1)
    ]) refl

pub all_good : (size : ℕ) (image : List Cell) → Ranged size image → AllGood size (stretches_of image)
unfolding stretches_of
all_good size [] ranged = tt
all_good size (c ∷ cells) ranged = split_good size cells c [] (single size c ranged.0) ranged.1

ranged_at : (size : ℕ) (cells : List Cell) (k : ℕ) (d : Cell) → Ranged size cells → k < length cells → (get_or cells k d).position < size
ranged_at size [] k d ranged lt = absurd (omega arith)
ranged_at size (c ∷ cells) zero d ranged lt = ranged.0.1
ranged_at size (c ∷ cells) (suc k) d ranged lt = ranged_at size cells k d ranged.1 (omega arith)

-- a good stretch ends below the size
ends_inside : (size : ℕ) (first : Cell) (others : List Cell) → Good size (first ∷ others) → first.position + length (first ∷ others) ≤ size
ends_inside size first others good =
    let contiguous : Runs first.position (first ∷ others) = runs first others (lawful_contiguous (first ∷ others) good.0) in
    omega (arith, position_is (first ∷ others) first.position (length others) first contiguous (omega arith), ranged_at size (first ∷ others) (length others) first good.1 (omega arith))

pub ranged_of : (size : ℕ) (image : List Cell) → All (λ c. 81 ≤ c.position) image → All (λ c. c.position < size) image → Ranged size image
ranged_of size [] free inside = tt
ranged_of size (c ∷ cells) free inside =
    ((free 0 c (omega arith), inside 0 c (omega arith)), ranged_of size cells (λ k d lt. free (suc k) d (omega arith)) (λ k d lt. inside (suc k) d (omega arith)))

-- ---- storage

pub filled_append : (xs ys : List Cell) (s : Storage) → filled_with s (xs ++ ys) ≡ filled_with (filled_with s xs) ys
unfolding filled_with
filled_append [] ys s = refl
filled_append (c ∷ xs) ys s = filled_append xs ys (set s c.position (c.code, c.marked))

filled_low : (size : ℕ) (cells : List Cell) (s : Storage) (p : ℕ) → Ranged size cells → p ≤ 80 → get_or (filled_with s cells) p (0, false) ≡ get_or s p (0, false)
unfolding filled_with
filled_low size [] s p ranged low = refl
filled_low size (c ∷ cells) s p ranged low =
    filled_low size cells (set s c.position (c.code, c.marked)) p ranged.1 low
    ∙ get_or-set_other s c.position p (c.code, c.marked) (0, false) (omega (arith, ranged.0.0))

-- the cards' positions cleared leave the program alone
cleared : (s : Storage) (size : ℕ) (card : List ℕ) (image : List Cell) → Ranged size image → Holds s size loading_marks card (filled_with (blank_storage size) image) →
    put_cells s 0 (replicate 81 blank_cell) ≡ filled_with (blank_storage size) image
cleared s size card image ranged holds =
    let long : length (replicate 81 blank_cell) ≡ 81 = length-replicate 81 blank_cell in
    let left : length (put_cells s 0 (replicate 81 blank_cell)) ≡ size = length-put_cells s 0 (replicate 81 blank_cell) ∙ holds.size_is in
    ext_get_or (0, false) (put_cells s 0 (replicate 81 blank_cell)) (filled_with (blank_storage size) image) (left ∙ sym holds.rest_size) (λ p lt.
    elim (dec_lt p 81) [
      | yes low ↦
          ap (λ q. get_or (put_cells s 0 (replicate 81 blank_cell)) q (0, false)) (sym (zero-add p))
          ∙ cell-put_cells s 0 (replicate 81 blank_cell) p (omega (arith, long)) (omega (arith, long, holds.size_is, holds.large))
          ∙ repeated 81 p (0, false)
          ∙ sym (filled_low size image (blank_storage size) p ranged (omega arith) ∙ repeated size p (0, false))
      | no high ↦ cell-put_cells_above s 0 (replicate 81 blank_cell) p (omega (arith, long)) ∙ holds.above p (omega arith)
    ])

-- ---- the deck

-- the card in the read area before these stretches are loaded, and those behind it
abbrev pub card_before : List (List Cell) → ℕ → Card
card_before [] start = start_card start
card_before (stretch ∷ stretches) start = load_card stretch

abbrev pub cards_behind : List (List Cell) → ℕ → List Card → List Card
cards_behind [] start data_cards = data_cards
cards_behind (stretch ∷ stretches) start data_cards = card_before stretches start ∷ cards_behind stretches start data_cards

cards_are : (stretches : List (List Cell)) (start : ℕ) (data_cards : List Card) →
    (map load_card stretches ++ start_card start ∷ []) ++ data_cards ≡ card_before stretches start ∷ cards_behind stretches start data_cards
cards_are [] start data_cards = refl
cards_are (stretch ∷ stretches) start data_cards = ap (λ cards. load_card stretch ∷ cards) (cards_are stretches start data_cards)

get_drop : (deck : List Card) (n : ℕ) → slice_get deck n ≡ slice_get (drop n deck) 0
get_drop deck zero = refl
get_drop [] (suc n) = refl
get_drop (card ∷ deck) (suc n) = get_drop deck n

start_size : (start : ℕ) → length (start_card start).0 ≡ 80
unfolding start_card written
start_size start = refl

card_long : (size : ℕ) (first : Cell) (others : List Cell) → Good size (first ∷ others) → length (load_card (first ∷ others)).0 ≡ 80
card_long size first others good =
    card_size size (first ∷ others) (lawful_length (first ∷ others) good.0)
    (three_of size (orders_of (first ∷ others)) (few_orders (first ∷ others) (lawful_marks (first ∷ others) good.0))
    (orders_high size first others (runs first others (lawful_contiguous (first ∷ others) good.0)) good.1.0.0 (ends_inside size first others good)))

before_size : (size : ℕ) (stretches : List (List Cell)) (start : ℕ) → AllGood size stretches → length (card_before stretches start).0 ≡ 80
before_size size [] start good = start_size start
before_size size ([] ∷ stretches) start good = absurd good.0
before_size size ((first ∷ others) ∷ stretches) start good = card_long size first others good.0

-- ---- every load card

module _ (deck : List Card) (switches : Switches) (profile : Profile) (size : ℕ) (small : size ≤ 16000) (start : ℕ) (data_cards : List Card) where
  load_some : (stretches : List (List Cell)) → AllGood size stretches → (k : ℕ) → k ≤ length stretches → (m : State) (taken : ℕ) (rest : Storage) →
      At deck switches profile size m 40 taken loading_marks (card_before stretches start).0 rest → drop taken deck ≡ cards_behind stretches start data_cards →
      At deck switches profile size (after m (5 * k)) 40 (taken + k) loading_marks (card_before (drop k stretches) start).0 (filled_with rest (flat (take k stretches)))
  unfolding after filled_with
  load_some stretches good zero fits m taken rest here unread =
      let none : taken ≡ taken + 0 = omega arith in
      subst (λ n. At deck switches profile size m 40 n loading_marks (card_before stretches start).0 rest) none here
  load_some [] good (suc k) fits m taken rest here unread = absurd (omega arith)
  load_some ([] ∷ stretches) good (suc k) fits m taken rest here unread = absurd good.0
  load_some ((first ∷ others) ∷ stretches) good (suc k) fits m taken rest here unread =
      let stretch : List Cell = first ∷ others in
      let next : Card = card_before stretches start in
      let there : slice_get deck taken ≡ Some next = get_drop deck taken ∙ ap (λ cards. slice_get cards 0) unread in
      let left : drop (taken + 1) deck ≡ cards_behind stretches start data_cards = sym (drop-drop 1 taken deck) ∙ ap (drop 1) unread in
      let loaded_one : At deck switches profile size (after m 5) 40 (taken + 1) loading_marks next.0 (filled_with rest stretch) =
      carries deck switches profile size small first others good.0.0 good.0.1.0.0 (ends_inside size first others good.0) m taken rest here next there (before_size size stretches start good.1) in
      let others_loaded = load_some stretches good.1 k (omega arith) (after m 5) (taken + 1) (filled_with rest stretch) loaded_one left in
      let sum : 5 + 5 * k ≡ 5 * suc k = omega arith in
      let steps : after (after m 5) (5 * k) ≡ after m (5 * suc k) = after-after m 5 (5 * k) ∙ ap (after m) sum in
      let count : taken + 1 + k ≡ taken + suc k = omega arith in
      let program : List Cell = flat (take k stretches) in
      subst (λ n. At deck switches profile size (after m (5 * suc k)) 40 n loading_marks (card_before (drop k stretches) start).0 (filled_with rest (stretch ++ program))) count
      (subst (λ s. At deck switches profile size s 40 (taken + 1 + k) loading_marks (card_before (drop k stretches) start).0 (filled_with rest (stretch ++ program))) steps
      (subst (λ t. At deck switches profile size (after (after m 5) (5 * k)) 40 (taken + 1 + k) loading_marks (card_before (drop k stretches) start).0 t) (sym (filled_append stretch program rest))
      others_loaded))

-- ---- the whole deck

-- the machine that the last card leaves
abbrev left_by : List Card → ℕ → List Cell → ℕ → Size → Switches → Profile → State
left_by deck taken image start size switches profile = record {
  works = record {
    storage = filled_with (blank_storage (positions_of size)) image;
    registers = record { i = start; a = start; b = 47; compare = Equal; overflow = false };
    units = units_with deck taken switches profile;
  };
  standing = Running;
}

start_says : (start : ℕ) → take 7 (drop 39 (start_card start).0) ≡ instruction (codes "/") start 80
unfolding start_card written
start_says start = refl

module _ (size : Size) (image : List Cell) (start : ℕ) (data_cards : List Card) (switches : Switches) (profile : Profile) (loadable : IsLoadable (positions_of size) image start) where
  abbrev stretches : List (List Cell)
  stretches = stretches_of image

  abbrev deck_read : List Card
  deck_read = boot_card ∷ (card_before stretches start ∷ cards_behind stretches start data_cards)

  ranged : Ranged (positions_of size) image
  ranged = ranged_of (positions_of size) image loadable.free loadable.inside

  good : AllGood (positions_of size) stretches
  good = all_good (positions_of size) image ranged

  small : positions_of size ≤ 16000
  small = (within size).1

  all_of : (xs : List (List Cell)) → length xs ≤ length xs
  all_of xs = omega arith

  -- the machine that has carried out the boot card and so many load cards
  abbrev now_at : ℕ → State
  now_at k = after (after (loaded deck_read size switches profile) 11) (5 * k)

  at_card : (k : ℕ) → k ≤ length stretches →
      At deck_read switches profile (positions_of size) (now_at k) 40 (2 + k) loading_marks (card_before (drop k stretches) start).0 (filled_with (blank_storage (positions_of size)) (flat (take k stretches)))
  at_card k fits =
      load_some deck_read switches profile (positions_of size) small start data_cards stretches good k fits (after (loaded deck_read size switches profile) 11) 2 (blank_storage (positions_of size))
      (booted switches profile size (cards_behind stretches start data_cards) (card_before stretches start) (before_size (positions_of size) stretches start good)) refl

  abbrev now : State
  now = now_at (length stretches)

  at_last : At deck_read switches profile (positions_of size) now 40 (2 + length stretches) loading_marks (start_card start).0 (filled_with (blank_storage (positions_of size)) image)
  at_last =
      subst (λ cells. At deck_read switches profile (positions_of size) now 40 (2 + length stretches) loading_marks (start_card start).0 (filled_with (blank_storage (positions_of size)) cells)) ((is_split image).all)
      (subst (λ all. At deck_read switches profile (positions_of size) now 40 (2 + length stretches) loading_marks (start_card start).0 (filled_with (blank_storage (positions_of size)) (flat all)))
      (take_all (length stretches) stretches (omega arith))
      (subst (λ left. At deck_read switches profile (positions_of size) now 40 (2 + length stretches) loading_marks (card_before left start).0 (filled_with (blank_storage (positions_of size)) (flat (take (length stretches) stretches))))
      (drop_of_length-le stretches (all_of stretches)) (at_card (length stretches) (omega arith))))

  begun : step now ≡ left_by deck_read (2 + length stretches) image start size switches profile
  begun =
      by_start deck_read switches profile (positions_of size) small now 40 (2 + length stretches) loading_marks (start_card start).0 (filled_with (blank_storage (positions_of size)) image)
      at_last (omega arith) (omega arith) 7 (omega arith)
      (ends_at now.works.storage (positions_of size) loading_marks (start_card start).0 (filled_with (blank_storage (positions_of size)) image) at_last.storage 40 7 (omega arith) (omega arith) (omega arith) refl refl)
      start 80 loadable.start (omega (arith, at_last.storage.large)) refl (start_says start) refl
      ∙ ap (λ t. record (left_by deck_read (2 + length stretches) image start size switches profile) { works = record (left_by deck_read (2 + length stretches) image start size switches profile).works { storage = t } })
      (cleared now.works.storage (positions_of size) (start_card start).0 image ranged at_last.storage)

  deck_is : loading_cards image start ++ data_cards ≡ deck_read
  unfolding loading_cards
  deck_is = ap (λ cards. boot_card ∷ cards) (cards_are stretches start data_cards)

  taken_is : 2 + length stretches ≡ length (loading_cards image start)
  unfolding loading_cards
  taken_is = omega (arith, length-append (map load_card stretches) (start_card start ∷ []), length-map stretches load_card)

  pub brought : after (loaded (loading_cards image start ++ data_cards) size switches profile) (instructions_to_load image) ≡ at_the_start image start data_cards size switches profile
  unfolding after
  brought =
      ap (λ deck. after (loaded deck size switches profile) (instructions_to_load image)) deck_is
      ∙ sym (after-after (loaded deck_read size switches profile) (11 + 5 * length stretches) 1)
      ∙ ap step (sym (after-after (loaded deck_read size switches profile) 11 (5 * length stretches)))
      ∙ begun
      ∙ ap₂ (λ deck taken. left_by deck taken image start size switches profile) (sym deck_is) taken_is

  at_marks : (m : State) (taken : ℕ) (card : List ℕ) (rest : Storage) → At deck_read switches profile (positions_of size) m 40 taken loading_marks card rest →
      (p : ℕ) → p ≤ 80 → is_marked m.works.storage p ≡ list_any (λ q. q == p) loading_marks
  at_marks m taken card rest here zero low = ap (λ (c : ℕ × Bool). c.1) here.storage.zero_is
  at_marks m taken card rest here (suc p) low = here.storage.mark_is (suc p) (omega arith) low

  -- between two cards
  pub by_cards : (k : ℕ) → k ≤ length stretches →
      IsBetweenCards (flat_map (λ stretch. stretch) (take k stretches)) (2 + k) size (after (loaded (loading_cards image start ++ data_cards) size switches profile) (11 + 5 * k))
  by_cards k fits =
      let here = at_card k fits in
      let same : after (loaded (loading_cards image start ++ data_cards) size switches profile) (11 + 5 * k) ≡ now_at k =
      ap (λ deck. after (loaded deck size switches profile) (11 + 5 * k)) deck_is ∙ sym (after-after (loaded deck_read size switches profile) 11 (5 * k)) in
      subst (IsBetweenCards (flat (take k stretches)) (2 + k) size) (sym same)
      (record {
        running = here.running;
        at_the_move = here.at;
        marks = at_marks (now_at k) (2 + k) (card_before (drop k stretches) start).0 (filled_with (blank_storage (positions_of size)) (flat (take k stretches))) here;
        program = here.storage.above;
        cards_read = ap (λ (u : Units). u.hopper.taken) here.units;
        no_card = ap (λ (u : Units). u.punch.cards) here.units;
        no_line = ap (λ (u : Units). u.printer.lines) here.units;
      })

-- what a machine of the program's size can take a larger one can
pub wider : (size larger : ℕ) (image : List Cell) (start : ℕ) → size ≤ larger → IsLoadable size image start → IsLoadable larger image start
wider size larger image start fits loadable =
    record { free = loadable.free; inside = λ k d lt. omega (arith, loadable.inside k d lt); start = omega (arith, loadable.start) }

-- the deck of a program loads it
pub deck_loads : (program : Assembly) (deck : List Card) → CanBeLoaded program → deck ≡ loading_cards program.image program.start → Loads program deck
deck_loads program deck loadable is size data_cards switches profile fits =
    ap (λ cards. after (loaded (cards ++ data_cards) size switches profile) (instructions_to_load program.image)) is
    ∙ brought size program.image program.start data_cards switches profile (wider (positions_of program.size) (positions_of size) program.image program.start fits loadable)
