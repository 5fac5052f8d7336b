-- items that are read, one after the other
use Rattle.std.proofs.Common.{◌≡◌, ◌∙◌, ℕ, suc, ◌+◌, ◌<◌, ◌≤◌, arith, List, [], ◌∷◌, ◌++◌, length, drop, map, get_or, refl, sym, ap, Some, None}
use Rattle.std.specs.Prelude.{Option, option_and_then, option_map}
use Rattle.std.proofs.Math.Seq.{drop-cons}
use Rattle.std.proofs.lemmas.List.{append-nil, drop_all}
use Rattle.serde_json.specs.Data.{Data, Items}
use Rattle.serde_json.specs.View.{items_of}
use Rattle.queue_rounds.specs.Answers.{each_in}

-- what was read, and what the other items tell
abbrev pub read_with : {X : Type 0} → (Data → Option X) → List X → Items → Option (List X)
read_with rule found rest = option_map (λ more. found ++ more) (each_in rule rest)

pub behind : {X : Type 0} (found : List X) (x : X) (more : List X) → (found ++ x ∷ []) ++ more ≡ found ++ x ∷ more
behind [] x more = refl
behind (first ∷ found) x more = ap (λ rest. first ∷ rest) (behind found x more)

one_and : {X : Type 0} (found : List X) (x : X) (it : Option X) (rest : Option (List X)) → it ≡ Some x
    → option_map (λ more. (found ++ x ∷ []) ++ more) rest
    ≡ option_map (λ more. found ++ more) (option_and_then (λ one. option_map (λ more. one ∷ more) rest) it)
one_and found x None rest is = cc
one_and found x (Some n) None is = refl
one_and found x (Some n) (Some more) is =
    ap Some (behind found x more) ∙ ap (λ o. option_map (λ one. found ++ one ∷ more) o) (sym is)

none_and : {X : Type 0} (found : List X) (it : Option X) (rest : Option (List X)) → it ≡ None
    → option_map (λ more. found ++ more) (option_and_then (λ one. option_map (λ more. one ∷ more) rest) it) ≡ None
none_and found None rest is = refl
none_and found (Some n) rest is = cc

pub next_drop : {X : Type 0} (items : List X) (i : ℕ) (d : X) → i < length items → drop i items ≡ get_or items i d ∷ drop (i + 1) items
next_drop items i d within =
    let e : suc i ≡ i + 1 = omega arith in
    drop-cons items i d within ∙ ap (λ (n : ℕ). get_or items i d ∷ drop n items) e

-- one item more was read
pub one_more : {X Y : Type 0} (rule : Data → Option X) (view : Y → Data) (items : List Y) (i : ℕ) (d : Y) (found : List X) (x : X)
    → i < length items → Some x ≡ rule (view (get_or items i d))
    → read_with rule (found ++ x ∷ []) (items_of (map view (drop (i + 1) items))) ≡ read_with rule found (items_of (map view (drop i items)))
unfolding each_in
one_more rule view items i d found x within is =
    one_and found x _ (each_in rule (items_of (map view (drop (i + 1) items)))) (sym is)
    ∙ ap (λ rest. read_with rule found (items_of (map view rest))) (sym (next_drop items i d within))

-- an item of which nothing is read
pub none_more : {X Y : Type 0} (rule : Data → Option X) (view : Y → Data) (items : List Y) (i : ℕ) (d : Y) (found : List X)
    → i < length items → None ≡ rule (view (get_or items i d)) → read_with rule found (items_of (map view (drop i items))) ≡ None
unfolding each_in
none_more rule view items i d found within is =
    ap (λ rest. read_with rule found (items_of (map view rest))) (next_drop items i d within)
    ∙ none_and found _ (each_in rule (items_of (map view (drop (i + 1) items)))) (sym is)

-- after the last item all are read
pub all_read : {X Y : Type 0} (rule : Data → Option X) (view : Y → Data) (items : List Y) (i : ℕ) (found : List X) → length items ≤ i
    → read_with rule found (items_of (map view (drop i items))) ≡ Some found
unfolding each_in
all_read rule view items i found past =
    ap (λ rest. read_with rule found (items_of (map view rest))) (drop_all i items past) ∙ ap Some (append-nil found)
