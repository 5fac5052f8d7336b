-- cards that are taken one after another, where they are asked for
use Rattle.std.proofs.Common.{◌≡◌, ℕ, ◌+◌, ◌<◌, List, [], ◌∷◌, ◌++◌, length, filter, map, take, get_or, sym, ap, ◌∙◌}
use Rattle.std.proofs.lemmas.List.{map-append, take_more}
use Rattle.std.proofs.lemmas.List.Elements.{filter-append}
use Rattle.units.specs.declared.punch.Punched.{Punched}
use Rattle.office.specs.Stackers.{is_asked, cards_from}
use Rattle.office.specs.declared.stackers.Stacker.{Stacker}

from_both : (from : Stacker) (xs ys : List Punched) → cards_from from (xs ++ ys) ≡ cards_from from xs ++ cards_from from ys
unfolding cards_from
from_both from xs ys =
    let asked = λ (x : Punched). is_asked from x.pocket in
    ap (map (λ (x : Punched). x.card)) (filter-append asked xs ys) ∙ map-append (λ (x : Punched). x.card) (filter asked xs) (filter asked ys)

-- those of the cards up to one, and that one's
pub one_more : (from : Stacker) (cards : List Punched) (i : ℕ) (c : Punched) → i < length cards → c ≡ get_or cards i c → cards_from from (take i cards) ++ cards_from from (c ∷ []) ≡ cards_from from (take (i + 1) cards)
one_more from cards i c within is =
    sym (from_both from (take i cards) (c ∷ [])) ∙ ap (cards_from from) (sym (take_more cards i c within ∙ ap (λ (x : Punched). take i cards ++ x ∷ []) (sym is)))
