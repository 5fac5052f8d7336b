-- the words for what differs, one after the other
use Rattle.std.proofs.Common.{◌≡◌, ℕ, suc, ◌+◌, ◌<◌, ◌==◌, Bool, true, false, if◌then◌else◌, List, [], ◌∷◌, ◌++◌, map, get_or, refl, sym, ap, ◌∙◌, arith, append-nil, append_assoc, subst}
use Rattle.std.specs.List.{flat_map}
use Rattle.std.proofs.Math.Decide.{dec_lt}
use Rattle.std.proofs.lemmas.List.{map-append}
use Rattle.std.proofs.lemmas.List.Concat.{flat_map-append}
use Rattle.core_store.specs.Storage.{blank_cell}
use Rattle.units.specs.declared.printer.Line.{Line}
use Rattle.units.specs.declared.punch.Punched.{Punched}
use Rattle.films.specs.Changes.{Item, cell_is, differences, is_same_cell, number_is, printed, punched}
use Rattle.films.specs.Frames.{card_shown, line_shown}
use Rattle.films.specs.Texts.{card_words, cell_words, item_text, items_text, line_words, number_words, spaced}

pub texts_append : (xs ys : List Item) → items_text (xs ++ ys) ≡ items_text xs ++ items_text ys
texts_append xs ys = ap (flat_map spaced) (map-append item_text xs ys) ∙ flat_map-append spaced (map item_text xs) (map item_text ys)

-- one place more
more_by : {A : Type 0} (item : ℕ → A → Item) (same : A → A → Bool) (other : A) (old new : List A) (n : ℕ) (b : Bool) (start before : List ℕ)
    → before ≡ start ++ items_text (map (λ d. item d.0 d.1) (differences same other old new n))
    → before ++ (if b then [] else spaced (item_text (item n (get_or new n other))))
    ≡ start ++ items_text (map (λ d. item d.0 d.1) (differences same other old new n ++ (if b then [] else (n, get_or new n other) ∷ [])))
more_by item same other old new n true start before is =
    append-nil before ∙ is
    ∙ ap (λ ds. start ++ items_text (map (λ d. item d.0 d.1) ds)) (sym (append-nil (differences same other old new n)))
more_by item same other old new n false start before is =
    let ds = differences same other old new n in
    let d = (n, get_or new n other) ∷ [] in
    let one = spaced (item_text (item n (get_or new n other))) in
    ap (λ text. text ++ one) is
    ∙ append_assoc start (items_text (map (λ d. item d.0 d.1) ds)) one
    ∙ ap (λ text. start ++ (items_text (map (λ d. item d.0 d.1) ds) ++ text)) (sym (append-nil one))
    ∙ ap (λ text. start ++ text) (sym (texts_append (map (λ d. item d.0 d.1) ds) (map (λ d. item d.0 d.1) d)))
    ∙ ap (λ items. start ++ items_text items) (sym (map-append (λ d. item d.0 d.1) ds d))

pub number_on : (old new : List ℕ) (n : ℕ) (start before : List ℕ)
    → before ≡ start ++ items_text (map (λ d. number_is d.0 d.1) (differences ◌==◌ 0 old new n))
    → before ++ number_words n (get_or old n 0) (get_or new n 0) ≡ start ++ items_text (map (λ d. number_is d.0 d.1) (differences ◌==◌ 0 old new (n + 1)))
unfolding differences
number_on old new n start before is =
    let one : suc n ≡ n + 1 = omega arith in
    more_by number_is ◌==◌ 0 old new n (get_or old n 0 == get_or new n 0) start before is
    ∙ ap (λ k. start ++ items_text (map (λ d. number_is d.0 d.1) (differences ◌==◌ 0 old new k))) one

pub cell_on : (old new : List (ℕ × Bool)) (n : ℕ) (start before : List ℕ)
    → before ≡ start ++ items_text (map (λ d. cell_is d.0 d.1) (differences is_same_cell blank_cell old new n))
    → before ++ cell_words n (get_or old n blank_cell) (get_or new n blank_cell) ≡ start ++ items_text (map (λ d. cell_is d.0 d.1) (differences is_same_cell blank_cell old new (n + 1)))
unfolding differences
cell_on old new n start before is =
    let one : suc n ≡ n + 1 = omega arith in
    more_by cell_is is_same_cell blank_cell old new n (is_same_cell (get_or old n blank_cell) (get_or new n blank_cell)) start before is
    ∙ ap (λ k. start ++ items_text (map (λ d. cell_is d.0 d.1) (differences is_same_cell blank_cell old new k))) one

pub none_differ : {A : Type 0} (item : ℕ → A → Item) (same : A → A → Bool) (other : A) (old new : List A) (start : List ℕ)
    → start ≡ start ++ items_text (map (λ d. item d.0 d.1) (differences same other old new 0))
unfolding differences
none_differ item same other old new start = sym (append-nil start)

-- one more position has one of the 64 characters
pub held_more : (cells : List (ℕ × Bool)) (n : ℕ) (cell : ℕ × Bool) → ((k : ℕ) → k < n → (get_or cells k blank_cell).0 < 64) → cell ≡ get_or cells n blank_cell → cell.0 < 64
    → (k : ℕ) → k < n + 1 → (get_or cells k blank_cell).0 < 64
held_more cells n cell before is low k within =
    elim (dec_lt k n) [
      | yes below ↦ before k below
      | no last ↦
          let same : n ≡ k = omega arith in
          subst (λ (c : ℕ × Bool). c.0 < 64) (is ∙ ap (λ p. get_or cells p blank_cell) same) low
    ]

-- ---- the items of a machine

lines_together : (lines : List Line) → items_text (map (λ l. printed (line_shown l)) lines) ≡ flat_map line_words lines
lines_together [] = refl
lines_together (line ∷ lines) = ap (λ text. line_words line ++ text) (lines_together lines)

cards_together : (cards : List Punched) → items_text (map (λ c. punched (card_shown c)) cards) ≡ flat_map card_words cards
cards_together [] = refl
cards_together (card ∷ cards) = ap (λ text. card_words card ++ text) (cards_together cards)

-- the words for the four kinds, one behind the other
pub items_together : (ns ps : List Item) (lines : List Line) (cards : List Punched) (o a b c d : List ℕ) → a ≡ o ++ items_text ns → b ≡ a ++ flat_map line_words lines
    → c ≡ b ++ flat_map card_words cards → d ≡ c ++ items_text ps
    → d ≡ o ++ items_text (ns ++ map (λ l. printed (line_shown l)) lines ++ map (λ c. punched (card_shown c)) cards ++ ps)
items_together ns ps lines cards o a b c d is_a is_b is_c is_d =
    let ls = map (λ l. printed (line_shown l)) lines in
    let cs = map (λ c. punched (card_shown c)) cards in
    let e1 : b ≡ o ++ items_text (ns ++ ls) =
    is_b ∙ ap (λ t. t ++ flat_map line_words lines) is_a ∙ ap (λ t. o ++ items_text ns ++ t) (sym (lines_together lines))
    ∙ append_assoc o (items_text ns) (items_text ls) ∙ ap (λ t. o ++ t) (sym (texts_append ns ls)) in
    let e2 : c ≡ o ++ items_text (ns ++ ls ++ cs) =
    is_c ∙ ap (λ t. t ++ flat_map card_words cards) e1 ∙ ap (λ t. o ++ items_text (ns ++ ls) ++ t) (sym (cards_together cards))
    ∙ append_assoc o (items_text (ns ++ ls)) (items_text cs) ∙ ap (λ t. o ++ t) (sym (texts_append (ns ++ ls) cs)) in
    is_d ∙ ap (λ t. t ++ items_text ps) e2 ∙ append_assoc o (items_text (ns ++ ls ++ cs)) (items_text ps)
    ∙ ap (λ t. o ++ t) (sym (texts_append (ns ++ ls ++ cs) ps))
