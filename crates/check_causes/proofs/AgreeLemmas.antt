-- tests that tell a cause beside the machine's tests, which give a check
use Rattle.std.proofs.Common.{◌≡◌, ◌&&◌, Bool, true, false, Option, Some, None, Result, Ok, Err, refl, sym, subst, ap, ◌∙◌, if◌then◌else◌}
use Rattle.core_store.specs.Checked.{require, find_or, and_then}
use Rattle.core_store.specs.declared.checks.Check.{Check}
use Rattle.check_causes.specs.declared.causes.Cause.{Cause}
use Rattle.check_causes.specs.Words.{check_of}
use Rattle.check_causes.specs.Tested.{passed, needs, finds, given, after}

-- ---- the same values, and the check of each cause

-- the same, with the check of a cause in its place
abbrev pub checked : {T : Type 0} → Result T Cause → Result T Check
checked (Ok x) = Ok x
checked (Err cause) = Err (check_of cause)

pub same_needs : {T : Type 0} (b : Bool) (c : Cause) (rest : Result T Check) (told : Result T Cause) → rest ≡ checked told → require b (check_of c) rest ≡ checked (needs b c told)
same_needs true c rest told h = h
same_needs false c rest told h = refl

pub same_finds : {S T : Type 0} (found : Option S) (c : Cause) (rest : S → Result T Check) (told : S → Result T Cause) → ((x : S) → rest x ≡ checked (told x)) →
    find_or found (check_of c) rest ≡ checked (finds found c told)
same_finds (Some x) c rest told h = h x
same_finds None c rest told h = refl

pub same_found : {S T : Type 0} (found : Option S) (c : Cause) (rest : S → Result T Check) (told : S → Result T Cause) → ((x : S) → rest x ≡ checked (told x)) →
    find_or found (check_of c) rest ≡ checked (given (finds found c (λ x. Ok x)) told)
same_found (Some x) c rest told h = h x
same_found None c rest told h = refl

pub same_given : {S T : Type 0} (one : Result S Check) (other : Result S Cause) (rest : S → Result T Check) (told : S → Result T Cause) → one ≡ checked other → ((x : S) → rest x ≡ checked (told x)) →
    and_then one rest ≡ checked (given other told)
same_given one (Ok x) rest told e h = ap (λ r. and_then r rest) e ∙ h x
same_given one (Err cause) rest told e h = ap (λ r. and_then r rest) e

pub same_if : {T : Type 0} (b : Bool) (one other : Result T Check) (told instead : Result T Cause) → one ≡ checked told → other ≡ checked instead → (if b then one else other) ≡ checked (if b then told else instead)
same_if true one other told instead h k = h
same_if false one other told instead h k = k

pub same_both : {T : Type 0} (x y : Bool) (c d : Cause) (rest : Result T Check) (told : Result T Cause) → check_of c ≡ check_of d → rest ≡ checked told →
    require (x && y) (check_of c) rest ≡ checked (after (after (needs x c passed) (needs y d passed)) told)
same_both true true c d rest told same h = h
same_both true false c d rest told same h = ap Err same
same_both false y c d rest told same h = refl

pub same_apart : {T : Type 0} (b : Bool) (c : Cause) (rest : Result T Check) (told : Result T Cause) → rest ≡ checked told →
    require b (check_of c) rest ≡ checked (after (needs b c passed) told)
same_apart true c rest told h = h
same_apart false c rest told h = refl

-- ---- the check of a cause, whatever the value without one

-- what is told agrees with what the machine does: a cause of its check, or nothing where it has none
abbrev pub Agrees : {S T : Type 0} → Result S Cause → Result T Check → Type 0
Agrees (Ok x) (Ok y) = Unit {0}
Agrees (Ok x) (Err check) = ⊥
Agrees (Err cause) (Ok y) = ⊥
Agrees (Err cause) (Err check) = check ≡ check_of cause

pub agrees_needs : {S T : Type 0} (b : Bool) (c : Cause) (rest : Result T Check) (told : Result S Cause) → Agrees told rest → Agrees (needs b c told) (require b (check_of c) rest)
agrees_needs true c rest told h = h
agrees_needs false c rest told h = refl

pub agrees_finds : {R S T : Type 0} (found : Option R) (c : Cause) (rest : R → Result T Check) (told : R → Result S Cause) → ((x : R) → found ≡ Some x → Agrees (told x) (rest x)) →
    Agrees (finds found c told) (find_or found (check_of c) rest)
agrees_finds (Some x) c rest told h = h x refl
agrees_finds None c rest told h = refl

pub agrees_found : {R S T : Type 0} (found : Option R) (c : Cause) (rest : R → Result T Check) (told : R → Result S Cause) → ((x : R) → found ≡ Some x → Agrees (told x) (rest x)) →
    Agrees (given (finds found c (λ x. Ok x)) told) (find_or found (check_of c) rest)
agrees_found (Some x) c rest told h = h x refl
agrees_found None c rest told h = refl

pub agrees_given : {R S T : Type 0} (one : Result R Check) (other : Result R Cause) (rest : R → Result T Check) (told : R → Result S Cause) → one ≡ checked other → ((x : R) → other ≡ Ok x → Agrees (told x) (rest x)) →
    Agrees (given other told) (and_then one rest)
agrees_given (Ok y) (Ok x) rest told e h = let it : x ≡ y = cc in subst (λ z. Agrees (told x) (rest z)) it (h x refl)
agrees_given (Ok y) (Err cause) rest told e h = absurd (cc)
agrees_given (Err check) (Ok x) rest told e h = absurd (cc)
agrees_given (Err check) (Err cause) rest told e h = cc

pub agrees_both : {S T : Type 0} (x y : Bool) (c d : Cause) (rest : Result T Check) (told : Result S Cause) → check_of c ≡ check_of d → (x ≡ true → y ≡ true → Agrees told rest) →
    Agrees (after (after (needs x c passed) (needs y d passed)) told) (require (x && y) (check_of c) rest)
agrees_both true true c d rest told same h = h refl refl
agrees_both true false c d rest told same h = same
agrees_both false y c d rest told same h = refl

pub agrees_apart : {S T : Type 0} (b : Bool) (c : Cause) (rest : Result T Check) (told : Result S Cause) → (b ≡ true → Agrees told rest) → Agrees (after (needs b c passed) told) (require b (check_of c) rest)
agrees_apart true c rest told h = h refl
agrees_apart false c rest told h = refl

pub agrees_if : {S T : Type 0} (b : Bool) (one other : Result T Check) (told instead : Result S Cause) → Agrees told one → Agrees instead other → Agrees (if b then told else instead) (if b then one else other)
agrees_if true one other told instead h k = h
agrees_if false one other told instead h k = k

-- a value is carried on
pub agrees_then : {R S T : Type 0} (one : Result R Check) (told : Result S Cause) (rest : R → Result T Check) → ((x : R) → (y : T) × (rest x ≡ Ok y)) → Agrees told one → Agrees told (and_then one rest)
agrees_then (Ok x) (Ok y) rest ok h = let (z, e) = ok x in subst (Agrees (Ok y)) (sym e) tt
agrees_then (Ok x) (Err cause) rest ok h = absurd h
agrees_then (Err check) (Ok y) rest ok h = absurd h
agrees_then (Err check) (Err cause) rest ok h = h

-- the same, told and done in other words
pub agrees_as : {S T : Type 0} {told as_told : Result S Cause} {done as_done : Result T Check} → told ≡ as_told → done ≡ as_done → Agrees as_told as_done → Agrees told done
agrees_as e f h = rw (e, f) h

-- a value is carried on in another form
pub agrees_mapped : {Q R S T : Type 0} (one : Result R Check) (other : Result R Cause) (form : R → Q) (rest : Q → Result T Check) (told : R → Result S Cause) → one ≡ checked other → ((x : R) → Agrees (told x) (rest (form x))) →
    Agrees (given other told) (and_then (and_then one (λ x. Ok (form x))) rest)
agrees_mapped (Ok y) (Ok x) form rest told e h = let it : x ≡ y = cc in subst (λ z. Agrees (told x) (rest (form z))) it (h x)
agrees_mapped (Ok y) (Err cause) form rest told e h = absurd (cc)
agrees_mapped (Err check) (Ok x) form rest told e h = absurd (cc)
agrees_mapped (Err check) (Err cause) form rest told e h = cc
