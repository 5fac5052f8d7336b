-- for the loops of `cards_shown`, `names` and `rows`: one more line of a listing with code
use Rattle.std.proofs.Common.{◌≡◌, ℕ, suc, ◌+◌, ◌-◌, ◌<◌, ◌≤◌, Bool, true, false, List, [], ◌∷◌, ◌++◌, length, map, drop, get_or, refl, sym, ◌∙◌, ap, arith, append_assoc}
use Rattle.std.specs.List.{flat_map, range_with_len, items_where_true}
use Rattle.std.proofs.lemmas.List.{at_drop_more, at_drop_all, append-nil}
use Rattle.cards.specs.declared.decks.Card.{Card}
use Rattle.autocoder_statements.specs.declared.names.Name.{Name}
use Rattle.autocoder_layout.specs.Source.{Line, silent}
use Rattle.autocoder_layout.specs.Layout.{Laid, nothing}
use Rattle.autocoder_layout.specs.declared.cells.Cell.{Cell}
use Rattle.autocoder_layout.specs.declared.slots.Slot.{Slot}
use Rattle.autocoder_listings.specs.Listing.{lines_in, cards_in}
use Rattle.autocoder_listings.specs.declared.widths.Width.{Width}
use Rattle.autocoder_listings.specs.Names.{uses}

-- ---- numbers in turn

-- one more text of a number
pub number_step : (f : ℕ → List ℕ) (old new more : List ℕ) (n end : ℕ) → n < end → more ≡ f n → new ≡ old ++ more →
    new ++ flat_map f (range_with_len (n + 1) (end - (n + 1))) ≡ old ++ flat_map f (range_with_len n (end - n))
number_step f old new more n end h m e =
    let left : end - n ≡ suc (end - (n + 1)) = omega arith in
    ap (λ t. t ++ flat_map f (range_with_len (n + 1) (end - (n + 1)))) (e ∙ ap (λ x. old ++ x) m)
    ∙ append_assoc old (f n) (flat_map f (range_with_len (n + 1) (end - (n + 1))))
    ∙ ap (λ k. old ++ flat_map f (range_with_len n k)) (sym left)

pub number_past : (f : ℕ → List ℕ) (old : List ℕ) (n end : ℕ) → end ≤ n → old ≡ old ++ flat_map f (range_with_len n (end - n))
number_past f old n end h =
    let none : end - n ≡ 0 = omega arith in
    sym (append-nil old) ∙ ap (λ k. old ++ flat_map f (range_with_len n k)) (sym none)

-- ---- cards

pub cards_step : (width : Width) (old new more : List ℕ) (cards : List Card) (layout : List Laid) (i : ℕ) (card d : Card) (slot : Slot) (cells : List Cell) → i < length cards → i < length layout →
    card ≡ get_or cards i d → slot ≡ (get_or layout i nothing).slot → cells ≡ (get_or layout i nothing).fills → more ≡ lines_in width (i + 1) slot card cells → new ≡ old ++ more →
    new ++ cards_in width (i + 1 + 1) (drop (i + 1) cards) (drop (i + 1) layout) ≡ old ++ cards_in width (i + 1) (drop i cards) (drop i layout)
unfolding cards_in
cards_step width old new more cards layout i card d slot cells h k c s f m n =
    let rest : List ℕ = cards_in width (i + 1 + 1) (drop (i + 1) cards) (drop (i + 1) layout) in
    let laid : Laid = get_or layout i nothing in
    let more_is : more ≡ lines_in width (i + 1) laid.slot (get_or cards i d) laid.fills =
    m ∙ ap (λ x. lines_in width (i + 1) x card cells) s ∙ ap (λ x. lines_in width (i + 1) laid.slot x cells) c ∙ ap (lines_in width (i + 1) laid.slot (get_or cards i d)) f in
    ap (λ t. t ++ rest) (n ∙ ap (λ x. old ++ x) more_is)
    ∙ append_assoc old (lines_in width (i + 1) laid.slot (get_or cards i d) laid.fills) rest
    ∙ ap (λ t. old ++ t) (sym (at_drop_more (λ x. cards_in width (i + 1) x (drop i layout)) cards i d h ∙ at_drop_more (λ x. cards_in width (i + 1) (get_or cards i d ∷ drop (i + 1) cards) x) layout i nothing k))

pub cards_past : (width : Width) (old : List ℕ) (cards : List Card) (layout : List Laid) (i first : ℕ) → length cards ≤ i → old ≡ old ++ cards_in width first (drop i cards) layout
unfolding cards_in
cards_past width old cards layout i first h = sym (append-nil old) ∙ ap (λ t. old ++ t) (sym (at_drop_all (λ x. cards_in width first x layout) cards i h))

-- ---- the cards that use a name

items_cons : (b : Bool) (n : ℕ) (bs : List Bool) (ns : List ℕ) → items_where_true (b ∷ []) (n ∷ []) ++ items_where_true bs ns ≡ items_where_true (b ∷ bs) (n ∷ ns)
items_cons true n bs ns = refl
items_cons false n bs ns = refl

module _ (wanted : Name) (lines : List Line) where
  -- the cards from the place i on that use the name
  abbrev pub users_from : ℕ → List ℕ
  users_from i = items_where_true (map (uses wanted) (drop i lines)) (range_with_len (i + 1) (length (drop i lines)))

  pub users_step : (old new : List ℕ) (i : ℕ) (line : Line) (is_user : Bool) → i < length lines → line ≡ get_or lines i silent → is_user ≡ uses wanted line →
      new ≡ old ++ items_where_true (is_user ∷ []) ((i + 1) ∷ []) → new ++ users_from (i + 1) ≡ old ++ users_from i
  users_step old new i line is_user h l u n =
      let rest : List ℕ = users_from (i + 1) in
      let used : is_user ≡ uses wanted (get_or lines i silent) = u ∙ ap (uses wanted) l in
      ap (λ t. t ++ rest) n
      ∙ append_assoc old (items_where_true (is_user ∷ []) ((i + 1) ∷ [])) rest
      ∙ ap (λ t. old ++ t) (items_cons is_user (i + 1) (map (uses wanted) (drop (i + 1) lines)) (range_with_len (i + 1 + 1) (length (drop (i + 1) lines))))
      ∙ ap (λ b. old ++ items_where_true (b ∷ map (uses wanted) (drop (i + 1) lines)) ((i + 1) ∷ range_with_len (i + 1 + 1) (length (drop (i + 1) lines)))) used
      ∙ ap (λ t. old ++ t) (sym (at_drop_more (λ l. items_where_true (map (uses wanted) l) (range_with_len (i + 1) (length l))) lines i silent h))

  pub users_past : (old : List ℕ) (i : ℕ) → length lines ≤ i → old ≡ old ++ users_from i
  users_past old i h = sym (append-nil old) ∙ ap (λ t. old ++ t) (sym (at_drop_all (λ l. items_where_true (map (uses wanted) l) (range_with_len (i + 1) (length l))) lines i h))
