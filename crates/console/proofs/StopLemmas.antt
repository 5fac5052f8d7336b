-- stops rise
use Rattle.std.proofs.Common.{◌≡◌, ℕ, suc, ◌<◌, true, List, [], ◌∷◌, ◌++◌, sym, subst, arith, append_assoc}
use Rattle.std.specs.Prelude.{All, filter, nat_lt, not, ◌==◌, slice_index_or}
use Rattle.std.proofs.lemmas.Bool.{ltb-true}
use Rattle.std.proofs.lemmas.List.Elements.{All-append, All-cons, All-head, All-tail, filter_passes}
use Rattle.std.proofs.lemmas.List.Kept.{AllPairs-cons, AllPairs-filter}
use Rattle.console.specs.Answers.{Rising, with_stop, without_stop}

pub less_rises : (stop : ℕ) (stops : List ℕ) → Rising stops → Rising (without_stop stop stops)
less_rises stop stops rise = AllPairs-filter (λ (a b : ℕ). a < b) (λ other. not (other == stop)) stops rise

head_below : (x : ℕ) (xs : List ℕ) → Rising (x ∷ xs) → All (λ y. x < y) xs
head_below x xs rise = λ k d within. rise 0 (suc k) d (omega arith) (omega arith)

tail_rises : (x : ℕ) (xs : List ℕ) → Rising (x ∷ xs) → Rising xs
tail_rises x xs rise = λ i j d less within. rise (suc i) (suc j) d (omega arith) (omega arith)

join_rises : (xs ys : List ℕ) → Rising xs → Rising ys → All (λ x. All (λ y. x < y) ys) xs → Rising (xs ++ ys)
join_rises [] ys one other between = other
join_rises (x ∷ xs) ys one other between =
    AllPairs-cons (λ (a b : ℕ). a < b) x (xs ++ ys)
    (All-append (λ y. x < y) xs ys (head_below x xs one) (All-head (λ z. All (λ y. z < y) ys) x xs between))
    (join_rises xs ys (tail_rises x xs one) other (All-tail (λ z. All (λ y. z < y) ys) x xs between))

rises_by : (stop : ℕ) (below above : List ℕ) → Rising below → Rising above → All (λ other. nat_lt other stop ≡ true) below → All (λ other. nat_lt stop other ≡ true) above
    → Rising ((below ++ stop ∷ []) ++ above)
rises_by stop below above below_rises above_rises under over =
    let behind : All (λ y. stop < y) above = λ k d within. ltb-true _ _ (over k d within) in
    let rest : Rising (stop ∷ above) = AllPairs-cons (λ (a b : ℕ). a < b) stop above behind above_rises in
    let between : All (λ x. All (λ y. x < y) (stop ∷ above)) below =
    λ k d within. let less : slice_index_or below k d < stop = ltb-true _ _ (under k d within) in
    All-cons (λ y. slice_index_or below k d < y) stop above less (λ j e inside. let more = behind j e inside in omega arith) in
    subst Rising (sym (append_assoc below (stop ∷ []) above)) (join_rises below (stop ∷ above) below_rises rest between)

pub more_rises : (stop : ℕ) (stops : List ℕ) → Rising stops → Rising (with_stop stop stops)
more_rises stop stops rise =
    rises_by stop (filter (λ other. nat_lt other stop) stops) (filter (λ other. nat_lt stop other) stops)
    (AllPairs-filter (λ (a b : ℕ). a < b) (λ other. nat_lt other stop) stops rise)
    (AllPairs-filter (λ (a b : ℕ). a < b) (λ other. nat_lt stop other) stops rise)
    (filter_passes (λ other. nat_lt other stop) stops)
    (filter_passes (λ other. nat_lt stop other) stops)
