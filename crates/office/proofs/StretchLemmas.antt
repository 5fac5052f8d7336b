-- the stretches of a job, and what is granted in the last
use Rattle.std.proofs.Common.{◌≡◌, ℕ, true, ltb, zero, suc, ◌+◌, ◌-◌, ◌<◌, ◌≤◌, List, [], ◌∷◌, ◌++◌, length, get_or, set, take, refl, ap, ◌∙◌, arith, length-append}
use Rattle.std.specs.List.{All}
use Rattle.std.proofs.lemmas.List.Elements.{All-nil, All-cons, All-head, All-tail, All-push}
use Rattle.std.proofs.lemmas.List.{take-append-le, take_all}
use Rattle.std.proofs.lemmas.List.Sums.{sum_by-cons, sum_by_push, get_or-le-sum_by}
use Rattle.units.specs.declared.switches.Switches.{Switches}
use Rattle.units.specs.Switches.{seven, AreSeven}
use Rattle.office.specs.declared.stretches.Stretch.{Stretch}
use Rattle.office.specs.Limits.{most_granted}
use Rattle.office.specs.Jobs.{granted, granted_more, one_more, HasSwitches, AreStretches}

-- ---- the last stretch

more_at : (stretches : List Stretch) (n : ℕ) (last : Stretch) (limit : ℕ) → suc n ≡ length stretches → last ≡ get_or stretches n last
    → set stretches n (record { switches = last.switches; granted = last.granted + limit }) ≡ granted_more limit stretches
more_at [] n last limit some is = absurd (omega arith)
more_at (s ∷ []) zero last limit some is = ap (λ (x : Stretch). let y : List Stretch = (record { switches = x.switches; granted = x.granted + limit }) ∷ [] in y) is
more_at (s ∷ []) (suc n) last limit some is = absurd (omega arith)
more_at (s ∷ t ∷ rest) zero last limit some is = absurd (omega arith)
more_at (s ∷ t ∷ rest) (suc n) last limit some is = ap (λ xs. s ∷ xs) (more_at (t ∷ rest) n last limit (omega arith) is)

-- a list that is not empty has a last stretch
pub some_of : (stretches : List Stretch) → true ≡ ltb 0 (length stretches) → 0 < length stretches
some_of [] some = absurd (let e = some in cc)
some_of (s ∷ stretches) some = omega arith

-- no more was granted in the last stretch than in all
pub last_granted : (stretches : List Stretch) (last : Stretch) → 0 < length stretches → last ≡ get_or stretches (length stretches - 1) last → last.granted ≤ granted stretches
last_granted stretches last some is =
    let f : Stretch → ℕ = λ s. s.granted in
    let same : last.granted ≡ f (get_or stretches (length stretches - 1) last) = ap f is in
    omega (arith, get_or-le-sum_by f stretches (length stretches - 1) last (omega arith), same)

-- the last stretch is put back with more
pub more_in_last : (stretches : List Stretch) (last : Stretch) (limit : ℕ) → 0 < length stretches → last ≡ get_or stretches (length stretches - 1) last
    → set stretches (length stretches - 1) (record { switches = last.switches; granted = last.granted + limit }) ≡ granted_more limit stretches
more_in_last stretches last limit some is = more_at stretches (length stretches - 1) last limit (omega arith) is

-- ---- what stretches stay

all_granted : (limit : ℕ) (stretches : List Stretch) → 0 < length stretches → granted (granted_more limit stretches) ≡ granted stretches + limit
all_granted limit [] some = absurd (omega (arith, some))
all_granted limit (s ∷ []) some = let one : 0 + (s.granted + limit) ≡ 0 + s.granted + limit = omega arith in one
all_granted limit (s ∷ t ∷ stretches) some =
    let f : Stretch → ℕ = λ s. s.granted in
    let rest : granted (granted_more limit (t ∷ stretches)) ≡ granted (t ∷ stretches) + limit = all_granted limit (t ∷ stretches) (omega arith) in
    let one : granted (s ∷ granted_more limit (t ∷ stretches)) ≡ s.granted + granted (granted_more limit (t ∷ stretches)) = sum_by-cons f s (granted_more limit (t ∷ stretches)) in
    let two : granted (s ∷ t ∷ stretches) ≡ s.granted + granted (t ∷ stretches) = sum_by-cons f s (t ∷ stretches) in
    omega (arith, rest, one, two)

switches_stay : (limit : ℕ) (stretches : List Stretch) → All HasSwitches stretches → All HasSwitches (granted_more limit stretches)
switches_stay limit [] all = all
switches_stay limit (s ∷ []) all = All-cons HasSwitches (record s { granted = s.granted + limit }) [] (All-head HasSwitches s [] all) (All-nil HasSwitches)
switches_stay limit (s ∷ t ∷ stretches) all =
    All-cons HasSwitches s (granted_more limit (t ∷ stretches)) (All-head HasSwitches s (t ∷ stretches) all) (switches_stay limit (t ∷ stretches) (All-tail HasSwitches s (t ∷ stretches) all))

length-granted_more : (limit : ℕ) (stretches : List Stretch) → length (granted_more limit stretches) ≡ length stretches
length-granted_more limit [] = refl
length-granted_more limit (s ∷ []) = refl
length-granted_more limit (s ∷ t ∷ stretches) = ap (λ n. suc n) (length-granted_more limit (t ∷ stretches))

-- so much more may be granted
pub more_fits : (limit : ℕ) (stretches : List Stretch) → AreStretches stretches → granted stretches + limit ≤ most_granted → AreStretches (granted_more limit stretches)
more_fits limit stretches are fits = record {
  begun = omega (arith, are.begun, length-granted_more limit stretches);
  switches = switches_stay limit stretches are.switches;
  most = omega (arith, fits, all_granted limit stretches are.begun);
}

-- one more stretch may begin
pub one_more_fits : (switches : Switches) (stretches : List Stretch) → AreSeven switches → AreStretches stretches → AreStretches (one_more switches stretches)
one_more_fits switches stretches seven are =
    let new : Stretch = record { switches = switches; granted = 0 } in
    let f : Stretch → ℕ = λ s. s.granted in
    let sum : granted (one_more switches stretches) ≡ granted stretches + 0 = sum_by_push f stretches new in
    record {
      begun = omega (arith, length-append stretches (new ∷ []));
      switches = All-push HasSwitches stretches new are.switches seven;
      most = omega (arith, sum, are.most);
    }

-- the first stretch may begin
pub first_fits : (switches : Switches) → AreSeven switches → AreStretches ((record { switches = switches; granted = 0 }) ∷ [])
first_fits switches seven = record {
  begun = omega arith;
  switches = All-cons HasSwitches (record { switches = switches; granted = 0 }) [] seven (All-nil HasSwitches);
  most = omega arith;
}

pub seven_are : (s : Switches) → AreSeven (seven s)
seven_are s = omega arith

-- what was granted in place is the list with more
pub put_back : (items new rest : List Stretch) (n limit : ℕ) → n ≡ length items → new ≡ granted_more limit items → take n (new ++ rest) ≡ granted_more limit items
put_back items new rest n limit whole is =
    let long : length new ≡ length items = ap length is ∙ length-granted_more limit items in
    take-append-le n new rest (omega arith) ∙ take_all n new (omega arith) ∙ is
