-- what leaves a queue and what comes into it
use Rattle.std.proofs.Common.{◌≡◌, ◌∙◌, ℕ, ◌+◌, ◌<◌, ◌≤◌, ◌&&◌, ◌||◌, ◌==◌, Bool, true, false, not, cond, if◌then◌else◌, List, [], ◌∷◌, ◌++◌, drop, get_or, length, map, refl, sym, ap, ap₂}
use Rattle.std.specs.Prelude.{filter}
use Rattle.std.specs.Str.{bytes_eq}
use Rattle.std.proofs.lemmas.Bool.Decides.{Decides-eqb}
use Rattle.std.proofs.lemmas.List.{append-nil, drop_all, map-append}
use Rattle.std.proofs.lemmas.Slice.Eq.{bytes_eq-Decides}
use Rattle.queue_rounds.specs.Names.{Name, is_among, is_same, missing}
use Rattle.queue_rounds.proofs.AnswerLemmas.{behind, next_drop}
use Rattle.queue_rounds.proofs.EndLemmas.{both_true}

-- whether a name is the first of some or among the rest, where it is kept as the first is
kept : (b c d e : Bool) → (c ≡ true → b ≡ e) → (if b then c || (d && e) else d && e) ≡ ((c || d) && e)
kept true true d true same = refl
kept true true d false same = let no = same refl in cc
kept true false d e same = refl
kept false true d true same = let no = same refl in cc
kept false true true false same = refl
kept false true false false same = refl
kept false false d e same = refl

among_kept : (b : Bool) (first : Name) (rest : List Name) (name : Name)
    → is_among (cond b (first ∷ rest) rest) name ≡ (if b then is_same first name || is_among rest name else is_among rest name)
unfolding is_among
among_kept true first rest name = refl
among_kept false first rest name = refl

same_is : (one other : Name) → is_same one other ≡ true → one ≡ other
same_is one other is =
    let two = both_true (bytes_eq one.0 other.0) (one.1 == other.1) is in
    ap₂ (λ (customer : List ℕ) (number : ℕ). (customer, number)) ((bytes_eq-Decides one.0 other.0).0 two.0) ((Decides-eqb one.1 other.1).0 two.1)

among_filter : (test : Name → Bool) (names : List Name) (name : Name) → is_among (filter test names) name ≡ (is_among names name && test name)
unfolding is_among
among_filter test [] name = refl
among_filter test (first ∷ rest) name =
    among_kept (test first) first (filter test rest) name
    ∙ ap (λ (more : Bool). if test first then is_same first name || more else more) (among_filter test rest name)
    ∙ kept (test first) (is_same first name) (is_among rest name) (test name) (λ is. ap test (same_is first name is))

both_ways : (a b : Bool) → b ≡ ((a && not (a && not b)) || (b && not a))
both_ways true true = refl
both_ways true false = refl
both_ways false true = refl
both_ways false false = refl

pub leads : (before now : List Name) (name : Name)
    → is_among now name ≡ ((is_among before name && not (is_among (missing before now) name)) || is_among (missing now before) name)
leads before now name =
    both_ways (is_among before name) (is_among now name)
    ∙ ap₂ (λ (left came : Bool). (is_among before name && not left) || came)
    (sym (among_filter (λ (n : Name). not (is_among now n)) before name))
    (sym (among_filter (λ (n : Name). not (is_among before n)) now name))

-- ---- the loops

-- a job that is the first of the rest, or is not
pub among_more : {X : Type 0} (f : X → Name) (items : List X) (i : ℕ) (d : X) (name : Name) → i < length items
    → is_among (map f (drop i items)) name ≡ (is_same (f (get_or items i d)) name || is_among (map f (drop (i + 1) items)) name)
unfolding is_among
among_more f items i d name within = ap (λ rest. is_among (map f rest) name) (next_drop items i d within)

pub among_none : {X : Type 0} (f : X → Name) (items : List X) (i : ℕ) (name : Name) → length items ≤ i → is_among (map f (drop i items)) name ≡ false
unfolding is_among
among_none f items i name past = ap (λ rest. is_among (map f rest) name) (drop_all i items past)

-- the jobs that were found missing, and those of the rest
abbrev pub found_with : {X : Type 0} (f : X → Name) (gone items : List X) → ℕ → List Name → List Name
found_with f gone items i others = map f gone ++ missing (map f (drop i items)) others

-- one that is missing more
pub missing_more : {X : Type 0} (f : X → Name) (gone items : List X) (i : ℕ) (d copy : X) (others : List Name) → i < length items
    → f copy ≡ f (get_or items i d) → is_among others (f (get_or items i d)) ≡ false
    → found_with f (gone ++ copy ∷ []) items (i + 1) others ≡ found_with f gone items i others
missing_more f gone items i d copy others within is none =
    let rest : List Name = missing (map f (drop (i + 1) items)) others in
    let name : Name = f (get_or items i d) in
    ap (λ names. names ++ rest) (map-append f gone (copy ∷ []))
    ∙ behind (map f gone) (f copy) rest
    ∙ ap (λ (first : Name). map f gone ++ first ∷ rest) is
    ∙ ap (λ (b : Bool). map f gone ++ cond (not b) (name ∷ rest) rest) (sym none)
    ∙ ap (λ more. map f gone ++ missing (map f more) others) (sym (next_drop items i d within))

-- one that is not
pub missing_same : {X : Type 0} (f : X → Name) (gone items : List X) (i : ℕ) (d : X) (others : List Name) → i < length items
    → is_among others (f (get_or items i d)) ≡ true → found_with f gone items (i + 1) others ≡ found_with f gone items i others
missing_same f gone items i d others within there =
    let rest : List Name = missing (map f (drop (i + 1) items)) others in
    let name : Name = f (get_or items i d) in
    ap (λ (b : Bool). map f gone ++ cond (not b) (name ∷ rest) rest) (sym there)
    ∙ ap (λ more. map f gone ++ missing (map f more) others) (sym (next_drop items i d within))

-- after the last one all are found
pub missing_all : {X : Type 0} (f : X → Name) (gone items : List X) (i : ℕ) (others : List Name) → length items ≤ i
    → found_with f gone items i others ≡ map f gone
missing_all f gone items i others past =
    ap (λ more. map f gone ++ missing (map f more) others) (drop_all i items past) ∙ append-nil (map f gone)
