-- texts of numbered pieces, one piece more
use Rattle.std.proofs.Common.{◌≡◌, ℕ, zero, suc, ◌+◌, ◌-◌, ◌≤◌, List, [], ◌∷◌, ◌++◌, length, drop, Result, Ok, Err, OnOk, is_ok, if◌then◌else◌, ap, sym, ◌∙◌, arith, append_assoc, append-nil}
use Rattle.std.specs.List.{flat_map, range_with_len}
use Rattle.std.proofs.lemmas.List.{drop_all}
use Rattle.std.proofs.lemmas.List.Concat.{flat_map-append}
use Rattle.card_forms.specs.declared.images.CardImage.{CardImage}
use Rattle.pictures.specs.Decks.{figure, figures_from}

-- one piece more of a text that was added to another
pub more : (o x e before after : List ℕ) → before ≡ o ++ x → after ≡ before ++ e → after ≡ o ++ (x ++ e)
more o x e before after first second = second ∙ ap (λ all. all ++ e) first ∙ append_assoc o x e

-- a text and a number between two more
pub between : (o x b d a before after : List ℕ) → before ≡ o ++ x → after ≡ before ++ (b ++ d ++ a) → after ≡ o ++ (x ++ b ++ d ++ a)
between o x b d a before after first second =
    more o x (b ++ d ++ a) before after first second
    ∙ ap (λ rest. o ++ (x ++ rest)) (append_assoc b d a)
    ∙ ap (λ all. o ++ all) (sym (append_assoc (x ++ b) d a ∙ append_assoc x b (d ++ a)))

-- what holds after a call holds where that call is the last
pub at_end : {A E P Q : Type 0} (r : Result A E) → OnOk r P → (P → Q) → OnOk r Q
at_end (Ok a) is more = more is
at_end (Err e) is more = is

-- the last piece of a text that was added to another
pub last_piece : {A E : Type 0} (r : Result A E) (o x e before after : List ℕ) → before ≡ o ++ x → after ≡ (if is_ok r then before ++ e else before)
    → OnOk r (after ≡ o ++ (x ++ e))
last_piece (Ok a) o x e before after first second = more o x e before after first second
last_piece (Err e) o x rest before after first second = tt

-- one piece more of a text
pub onto : (x e before after : List ℕ) → before ≡ x → after ≡ before ++ e → after ≡ x ++ e
onto x e before after first second = second ∙ ap (λ all. all ++ e) first

range_more : (a n : ℕ) → range_with_len a (suc n) ≡ range_with_len a n ++ (a + n) ∷ []
range_more a zero = let same : a ≡ a + 0 = omega arith in ap (λ k. k ∷ []) same
range_more a (suc n) =
    let next : a + 1 + n ≡ a + suc n = omega arith in
    ap (λ r. a ∷ r) (range_more (a + 1) n ∙ ap (λ k. range_with_len (a + 1) n ++ k ∷ []) next)

-- one number more of a range
pub one_more : (f : ℕ → List ℕ) (start out new : List ℕ) (a k n next : ℕ) → k ≡ a + n → next ≡ n + 1
    → out ≡ start ++ flat_map f (range_with_len a n) → new ≡ out ++ f k → new ≡ start ++ flat_map f (range_with_len a next)
one_more f start out new a k n next place is_next before added =
    let more : next ≡ suc n = omega arith in
    let pieces : flat_map f (range_with_len a (suc n)) ≡ flat_map f (range_with_len a n) ++ f k =
    ap (flat_map f) (range_more a n) ∙ flat_map-append f (range_with_len a n) ((a + n) ∷ [])
    ∙ ap (λ piece. flat_map f (range_with_len a n) ++ piece) (append-nil (f (a + n)) ∙ ap f (sym place)) in
    added ∙ ap (λ all. all ++ f k) before ∙ append_assoc start (flat_map f (range_with_len a n)) (f k) ∙ ap (λ text. start ++ text) (sym pieces) ∙ ap (λ count. start ++ flat_map f (range_with_len a count)) (sym more)

-- all numbers of a range
pub at_last : (f : ℕ → List ℕ) (start out : List ℕ) (a k n : ℕ) → k ≡ a + n
    → out ≡ start ++ flat_map f (range_with_len a (k - a)) → out ≡ start ++ flat_map f (range_with_len a n)
at_last f start out a k n last before =
    let all : k - a ≡ n = omega arith in
    before ∙ ap (λ count. start ++ flat_map f (range_with_len a count)) all

-- where nothing is left all was done
pub all_done : {X Y : Type 0} (rest_of : List X → List Y) (xs : List X) (i : ℕ) (done whole : List Y) → length xs ≤ i
    → rest_of [] ≡ [] → done ++ rest_of (drop i xs) ≡ whole → done ≡ whole
all_done rest_of xs i done whole end none same =
    sym (append-nil done) ∙ ap (λ rest. done ++ rest) (sym none) ∙ ap (λ rest. done ++ rest_of rest) (sym (drop_all i xs end)) ∙ same

-- one figure more
pub figure_on : (number : ℕ) (card : CardImage) (rest all : List CardImage) (done : List ℕ) → all ≡ card ∷ rest
    → (done ++ figure number card) ++ figures_from (number + 1) rest ≡ done ++ figures_from number all
unfolding figures_from
figure_on number card rest all done first =
    rw first (append_assoc done (figure number card) (figures_from (number + 1) rest))
