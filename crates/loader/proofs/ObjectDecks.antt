-- a deck, stretch by stretch
use Rattle.std.proofs.Common.{◌≡◌, ℕ, ◌<◌, List, [], ◌∷◌, ◌++◌, length, map, take, drop, sym, ◌∙◌, ap, subst, arith, append_assoc}
use Rattle.std.specs.List.{All}
use Rattle.std.proofs.lemmas.List.{append-nil}
use Rattle.std.proofs.lemmas.List.Elements.{All-drop}
use Rattle.core_store.specs.declared.TheConstants.{LARGEST_SIZE}
use Rattle.autocoder_layout.specs.declared.cells.Cell.{Cell}
use Rattle.cards.specs.declared.decks.Card.{Card}
use Rattle.loader.specs.Stretches.{stretches_of}
use Rattle.loader.specs.Cards.{load_card}

pub push_step : (now new : List Card) (rest stretch behind : List Cell) (card : Card) (n : ℕ) → stretches_of rest ≡ take n rest ∷ stretches_of (drop n rest) → stretch ≡ take n rest → behind ≡ drop n rest →
    card ≡ load_card stretch → new ≡ now ++ card ∷ [] → new ++ map load_card (stretches_of behind) ≡ now ++ map load_card (stretches_of rest)
push_step now new rest stretch behind card n split front back made e =
    ap (λ t. t ++ map load_card (stretches_of behind)) (e ∙ ap (λ x. now ++ x ∷ []) (made ∙ ap load_card front))
    ∙ append_assoc now (load_card (take n rest) ∷ []) (map load_card (stretches_of behind))
    ∙ ap (λ t. now ++ load_card (take n rest) ∷ map load_card (stretches_of t)) back
    ∙ ap (λ t. now ++ map load_card t) (sym split)

pub below_behind : (rest behind : List Cell) (n : ℕ) → All (λ c. c.position < LARGEST_SIZE) rest → behind ≡ drop n rest → All (λ c. c.position < LARGEST_SIZE) behind
below_behind rest behind n all e =
    let P : List Cell → Type 0 = λ cells. All (λ c. c.position < LARGEST_SIZE) cells in
    subst P (sym e) (All-drop (λ (c : Cell). c.position < LARGEST_SIZE) n rest all)

pub pushed_all : (now all : List Card) (rest : List Cell) → length rest ≡ 0 → now ++ map load_card (stretches_of rest) ≡ all → now ≡ all
unfolding stretches_of
pushed_all now all [] h e = sym (append-nil now) ∙ e
pushed_all now all (c ∷ cells) h e = absurd (omega arith)
