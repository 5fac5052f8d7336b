-- for `read_lines` and `size_of` of `source`: the cards of a source, read one after the other
use Rattle.std.proofs.Common.{◌≡◌, ℕ, suc, ◌+◌, ◌<◌, ◌≤◌, Bool, true, false, ◌||◌, List, [], ◌∷◌, ◌++◌, length, drop, take, set, subst, get_or, Some, None, refl, sym, ◌∙◌, ap, append_assoc, arith}
use Rattle.std.specs.Prelude.{find, position, cond, not, nat_lt}
use Rattle.std.specs.List.{position_or_len}
use Rattle.std.proofs.lemmas.Bool.{ltb-true, ltb-false}
use Rattle.std.proofs.lemmas.List.{at_drop_more, at_drop_all, take_more_set, get_or-set_same, get_or-set_other}
use Rattle.std.proofs.Math.Decide.{dec_lt}
use Rattle.cards.specs.declared.decks.Card.{Card}
use Rattle.core_store.specs.declared.sizes.Size.TheVariants.{Positions4000}
use Rattle.autocoder_statements.specs.Statements.{statement_on}
use Rattle.autocoder_layout.specs.Source.{Line, IsInRange, silent, is_control, size_in, size_by, size_of, line_on, lines_of}

pub length-lines_of : (has_size : Bool) (source : List Card) → length (lines_of has_size source) ≡ length source
unfolding lines_of
length-lines_of has_size [] = refl
length-lines_of has_size (card ∷ source) = ap suc (length-lines_of (has_size || is_control card) source)

-- one card more
pub line_step : (has_size more : Bool) (cards : List Card) (i : ℕ) (card d : Card) (line : Line) (old : List Line) → i < length cards → length old ≡ length cards →
    card ≡ get_or cards i d → line ≡ line_on has_size card → more ≡ (has_size || is_control card) →
    take (i + 1) (set old i line) ++ lines_of more (drop (i + 1) cards) ≡ take i old ++ lines_of has_size (drop i cards)
unfolding lines_of
line_step has_size more cards i card d line old h size c l m =
    let rest : List Line = lines_of (has_size || is_control (get_or cards i d)) (drop (i + 1) cards) in
    ap (λ b. take (i + 1) (set old i line) ++ lines_of b (drop (i + 1) cards)) (m ∙ ap (λ x. has_size || is_control x) c)
    ∙ ap (λ t. t ++ rest) (take_more_set old i line (omega arith) ∙ ap (λ x. take i old ++ x ∷ []) (l ∙ ap (line_on has_size) c))
    ∙ append_assoc (take i old) (line_on has_size (get_or cards i d) ∷ []) rest
    ∙ ap (λ t. take i old ++ t) (sym (at_drop_more (lines_of has_size) cards i d h))

-- the lines up to this one are in range
pub range_step : (old : List Line) (i : ℕ) (line : Line) → i < length old → IsInRange line → ((k : ℕ) → k < i → IsInRange (get_or old k silent)) →
    (k : ℕ) → k < i + 1 → IsInRange (get_or (set old i line) k silent)
range_step old i line h here before k below =
    elim (dec_lt k i) [
      | yes less ↦ subst IsInRange (sym (get_or-set_other old i k line silent (λ e. absurd (omega arith)))) (before k less)
      | no last ↦
          let same : k ≡ i = omega arith in
          subst IsInRange (sym (ap (λ j. get_or (set old i line) j silent) same ∙ get_or-set_same old i line silent h)) here
    ]

pub lines_past : (has_size : Bool) (cards : List Card) (i : ℕ) → length cards ≤ i → lines_of has_size (drop i cards) ≡ []
unfolding lines_of
lines_past has_size cards i h = at_drop_all (lines_of has_size) cards i h

-- ---- the size

size_below : (cards : List Card) → position_or_len is_control cards < length cards → size_of cards ≡ size_in (get_or (lines_of false cards) (position_or_len is_control cards) silent)
unfolding size_of lines_of line_on
size_below [] h = absurd (omega arith)
size_below (card ∷ cards) h =
    (elim (is_control card) as (λ b. cond (not b) (1 + position_or_len is_control cards) 0 < suc (length cards) →
    size_by (cond b (Some card) (find is_control cards)) ≡ size_in (get_or (statement_on card ∷ lines_of (false || b) cards) (cond (not b) (1 + position_or_len is_control cards) 0) silent)) [
      | true ↦ λ h. refl
      | false ↦ λ h.
          let next : 1 + position_or_len is_control cards ≡ suc (position_or_len is_control cards) = omega arith in
          let below : size_of cards ≡ size_in (get_or (lines_of false cards) (position_or_len is_control cards) silent) = size_below cards (omega arith) in
          below ∙ ap (λ k. size_in (get_or (statement_on card ∷ lines_of false cards) k silent)) (sym next)
    ]) h

size_past : (cards : List Card) → length cards ≤ position_or_len is_control cards → size_of cards ≡ Positions4000
unfolding size_of
size_past [] h = refl
size_past (card ∷ cards) h =
    (elim (is_control card) as (λ b. suc (length cards) ≤ cond (not b) (1 + position_or_len is_control cards) 0 → size_by (cond b (Some card) (find is_control cards)) ≡ Positions4000) [
      | true ↦ λ h. absurd (omega arith)
      | false ↦ λ h. size_past cards (omega arith)
    ]) h

module _ (cards : List Card) where
  abbrev first : ℕ
  first = position_or_len is_control cards

  -- a CTL card at this index
  pub size_at : (i : ℕ) → Some i ≡ position is_control cards → (i < length cards) × (size_of cards ≡ size_in (get_or (lines_of false cards) i silent))
  size_at i e =
      (elim (nat_lt first (length cards)) as (λ b. nat_lt first (length cards) ≡ b → (i < length cards) × (size_of cards ≡ size_in (get_or (lines_of false cards) i silent))) [
        | true ↦ λ t.
            let some : Some i ≡ Some first = e ∙ ap (λ b. cond b (Some first) None) t in
            let same : i ≡ first = cc in
            let below : first < length cards = ltb-true first (length cards) t in
            (omega arith, size_below cards below ∙ ap (λ k. size_in (get_or (lines_of false cards) k silent)) (sym same))
        | false ↦ λ f. let none : Some i ≡ None = e ∙ ap (λ b. cond b (Some first) None) f in absurd (cc)
      ]) refl

  -- no CTL card
  pub size_none : None ≡ position is_control cards → size_of cards ≡ Positions4000
  size_none e =
      (elim (nat_lt first (length cards)) as (λ b. nat_lt first (length cards) ≡ b → size_of cards ≡ Positions4000) [
        | true ↦ λ t. let some : None ≡ Some first = e ∙ ap (λ b. cond b (Some first) None) t in absurd (cc)
        | false ↦ λ f. size_past cards (ltb-false first (length cards) f)
      ]) refl
