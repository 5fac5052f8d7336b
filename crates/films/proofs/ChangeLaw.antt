-- a change that is played on a frame
use Rattle.std.proofs.Common.{◌≡◌, ℕ, zero, suc, ◌+◌, ◌<◌, ◌≤◌, ◌==◌, ◌&&◌, not, Bool, true, false, if◌then◌else◌, List, [], ◌∷◌, ◌++◌, length, map, take, drop, set, get_or, refl, sym, ap, ap₂, ◌∙◌, arith, append-nil, append_assoc}
use Rattle.std.specs.List.{fold}
use Rattle.std.proofs.lemmas.Bool.{eqb-true}
use Rattle.std.proofs.lemmas.List.{take-append-drop, take_more, take_all, drop_more, drop_all, set_at, length-take-le}
use Rattle.std.proofs.lemmas.List.Sums.{fold-append}
use Rattle.core_store.specs.Storage.{blank_cell}
use Rattle.films.specs.Changes.{cell_is, cell_items, change, differences, is_same_cell, number_is, number_items, played, printed, punched, with_item}
use Rattle.films.specs.Frames.{CardShown, ComesBehind, Frame, LineShown}

-- ---- differences, put into the list from which they differ

-- a list with other values at some places
placed : {A : Type 0} → List A → List (ℕ × A) → List A
placed xs ds = fold (λ ys d. set ys d.0 d.1) xs ds

-- one place more, where the two lists have the same and where they have not
place_more : {A : Type 0} (other : A) (old new : List A) (n : ℕ) (b : Bool) → n < length new → length old ≡ length new → (b ≡ true → get_or old n other ≡ get_or new n other)
    → placed (take n new ++ drop n old) (if b then [] else (n, get_or new n other) ∷ []) ≡ take (n + 1) new ++ drop (n + 1) old
unfolding placed
place_more other old new n true within even same =
    ap (λ xs. take n new ++ xs) (drop_more old n other (omega (arith, even)))
    ∙ ap (λ x. take n new ++ x ∷ drop (n + 1) old) (same refl)
    ∙ sym (append_assoc (take n new) (get_or new n other ∷ []) (drop (n + 1) old))
    ∙ ap (λ xs. xs ++ drop (n + 1) old) (sym (take_more new n other within))
place_more other old new n false within even same =
    ap (λ xs. set (take n new ++ xs) n (get_or new n other)) (drop_more old n other (omega (arith, even)))
    ∙ set_at (take n new) (get_or old n other) (drop (n + 1) old) (get_or new n other) n (length-take-le n new (omega arith))
    ∙ sym (append_assoc (take n new) (get_or new n other ∷ []) (drop (n + 1) old))
    ∙ ap (λ xs. xs ++ drop (n + 1) old) (sym (take_more new n other within))

-- the first so many places are those of the new list
places_new : {A : Type 0} (same : A → A → Bool) (other : A) → ((x y : A) → same x y ≡ true → x ≡ y) → (old new : List A) (n : ℕ) → n ≤ length new → length old ≡ length new
    → placed old (differences same other old new n) ≡ take n new ++ drop n old
unfolding placed differences
places_new same other sound old new zero within even = refl
places_new same other sound old new (suc n) within even =
    let one : n + 1 ≡ suc n = omega arith in
    let here = same (get_or old n other) (get_or new n other) in
    let tail = if here then [] else (n, get_or new n other) ∷ [] in
    fold-append (λ ys d. set ys d.0 d.1) old (differences same other old new n) tail
    ∙ ap (λ xs. placed xs tail) (places_new same other sound old new n (omega arith) even)
    ∙ place_more other old new n here (omega arith) even (sound (get_or old n other) (get_or new n other))
    ∙ ap (λ k. take k new ++ drop k old) one

-- all places are
all_new : {A : Type 0} (same : A → A → Bool) (other : A) → ((x y : A) → same x y ≡ true → x ≡ y) → (old new : List A) → length old ≡ length new
    → placed old (differences same other old new (length new)) ≡ new
all_new same other sound old new even =
    places_new same other sound old new (length new) (omega arith) even
    ∙ ap (λ xs. xs ++ drop (length new) old) (take_all (length new) new (omega arith))
    ∙ ap (λ xs. new ++ xs) (drop_all (length new) old (omega (arith, even)))
    ∙ append-nil new

-- ---- one kind of items after the other

numbers_played : (f : Frame) (ds : List (ℕ × ℕ)) → played f (map (λ d. number_is d.0 d.1) ds) ≡ record f { numbers = placed f.numbers ds }
unfolding placed
numbers_played f [] = refl
numbers_played f (d ∷ ds) = numbers_played (record f { numbers = set f.numbers d.0 d.1 }) ds

cells_played : (f : Frame) (ds : List (ℕ × (ℕ × Bool))) → played f (map (λ d. cell_is d.0 d.1) ds) ≡ record f { storage = placed f.storage ds }
unfolding placed
cells_played f [] = refl
cells_played f (d ∷ ds) = cells_played (record f { storage = set f.storage d.0 d.1 }) ds

lines_played : (f : Frame) (lines : List LineShown) → played f (map printed lines) ≡ record f { paper = f.paper ++ lines }
lines_played f [] = ap (λ paper. record f { paper = paper }) (sym (append-nil f.paper))
lines_played f (line ∷ lines) =
    lines_played (record f { paper = f.paper ++ line ∷ [] }) lines
    ∙ ap (λ paper. record f { paper = paper }) (append_assoc f.paper (line ∷ []) lines)

cards_played : (f : Frame) (cards : List CardShown) → played f (map punched cards) ≡ record f { punched = f.punched ++ cards }
cards_played f [] = ap (λ cards. record f { punched = cards }) (sym (append-nil f.punched))
cards_played f (card ∷ cards) =
    cards_played (record f { punched = f.punched ++ card ∷ [] }) cards
    ∙ ap (λ all. record f { punched = all }) (append_assoc f.punched (card ∷ []) cards)

same_numbers : (x y : ℕ) → (x == y) ≡ true → x ≡ y
same_numbers x y is = eqb-true x y is

same_marks : (x y : Bool) → (if x then y else not y) ≡ true → x ≡ y
same_marks true true is = refl
same_marks true false is = absurd (cc)
same_marks false true is = absurd (cc)
same_marks false false is = refl

both : (a b : Bool) → (a && b) ≡ true → (a ≡ true) × (b ≡ true)
both true b h = (refl, h)
both false b h = absurd (cc)

pub same_cells : (x y : ℕ × Bool) → is_same_cell x y ≡ true → x ≡ y
same_cells x y is =
    let parts = both (x.0 == y.0) (if x.1 then y.1 else not y.1) is in
    ap₂ (λ (code : ℕ) (mark : Bool). (code, mark)) (eqb-true x.0 y.0 parts.0) (same_marks x.1 y.1 parts.1)

-- what stands behind the beginning of a list, put behind it
whole : {A : Type 0} (old new : List A) → take (length old) new ≡ old → old ++ drop (length old) new ≡ new
whole old new front = ap (λ xs. xs ++ drop (length old) new) (sym front) ∙ take-append-drop (length old) new

-- ---- the law

-- a change played on the frame from which it leads gives the one to which it leads
pub change_played : (old new : Frame) → ComesBehind old new → played old (change old new) ≡ new
unfolding change
change_played old new behind =
    let ns = number_items old.numbers new.numbers in
    let ls = map printed (drop (length old.paper) new.paper) in
    let cs = map punched (drop (length old.punched) new.punched) in
    let ps = cell_items old.storage new.storage in
    let f1 = record old { numbers = new.numbers } in
    let f2 = record f1 { paper = new.paper } in
    let f3 = record f2 { punched = new.punched } in
    let e1 : played old ns ≡ f1 =
    numbers_played old (differences ◌==◌ 0 old.numbers new.numbers (length new.numbers))
    ∙ ap (λ xs. record old { numbers = xs }) (all_new ◌==◌ 0 same_numbers old.numbers new.numbers (behind.old_numbers ∙ sym behind.numbers)) in
    let e2 : played f1 ls ≡ f2 =
    lines_played f1 (drop (length old.paper) new.paper) ∙ ap (λ xs. record f1 { paper = xs }) (whole old.paper new.paper behind.paper) in
    let e3 : played f2 cs ≡ f3 =
    cards_played f2 (drop (length old.punched) new.punched) ∙ ap (λ xs. record f2 { punched = xs }) (whole old.punched new.punched behind.punched) in
    let e4 : played f3 ps ≡ new =
    cells_played f3 (differences is_same_cell blank_cell old.storage new.storage (length new.storage))
    ∙ ap (λ xs. record f3 { storage = xs }) (all_new is_same_cell blank_cell same_cells old.storage new.storage behind.storage) in
    fold-append with_item old ((ns ++ ls) ++ cs) ps
    ∙ ap (λ f. played f ps) (fold-append with_item old (ns ++ ls) cs)
    ∙ ap (λ f. played (played f cs) ps) (fold-append with_item old ns ls)
    ∙ ap (λ f. played (played (played f ls) cs) ps) e1
    ∙ ap (λ f. played (played f cs) ps) e2
    ∙ ap (λ f. played f ps) e3
    ∙ e4
