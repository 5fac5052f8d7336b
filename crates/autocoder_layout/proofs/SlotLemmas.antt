-- for `lay_out` of `slots`: one more card of its loop
use Rattle.std.proofs.Common.{◌≡◌, ℕ, ◌+◌, ◌<◌, ◌≤◌, List, [], ◌∷◌, ◌++◌, length, drop, get_or, ap, sym, ◌∙◌}
use Rattle.std.proofs.lemmas.List.{at_drop_more, at_drop_all}
use Rattle.autocoder_layout.specs.Source.{Line}
use Rattle.autocoder_layout.specs.Slots.{slot_of, slots_from}
use Rattle.autocoder_layout.specs.declared.slots.Slot.{Slot}

slots_from-step : (size : ℕ) (earlier : List Slot) (lines : List Line) (i : ℕ) (d : Line) → i < length lines →
    slots_from size earlier (drop i lines) ≡ slots_from size (earlier ++ slot_of size earlier (get_or lines i d) ∷ []) (drop (i + 1) lines)
unfolding slots_from
slots_from-step size earlier lines i d h = at_drop_more (slots_from size earlier) lines i d h

pub slots_from-past : (size : ℕ) (earlier : List Slot) (lines : List Line) (i : ℕ) → length lines ≤ i → slots_from size earlier (drop i lines) ≡ earlier
unfolding slots_from
slots_from-past size earlier lines i h = at_drop_all (slots_from size earlier) lines i h

-- one slot more
pub laid : (size : ℕ) (lines : List Line) (i : ℕ) (line d : Line) (old seen pushed : List Slot) (new : Slot) → i < length lines →
    line ≡ get_or lines i d → seen ≡ old → new ≡ slot_of size seen line → pushed ≡ old ++ new ∷ [] →
    slots_from size pushed (drop (i + 1) lines) ≡ slots_from size old (drop i lines)
laid size lines i line d old seen pushed new h l e n p =
    let new_is : new ≡ slot_of size old (get_or lines i d) = n ∙ ap (λ t. slot_of size t line) e ∙ ap (slot_of size old) l in
    ap (λ s. slots_from size s (drop (i + 1) lines)) (p ∙ ap (λ s. old ++ s ∷ []) new_is) ∙ sym (slots_from-step size old lines i d h)
