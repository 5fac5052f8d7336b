-- the texts that a bureau prints of standings
use Rattle.std.proofs.Common.{◌≡◌, ◌≢◌, ◌∙◌, ℕ, zero, suc, ◌<◌, ◌≤◌, ◌^◌, ◌||◌, Bool, true, false, List, [], ◌∷◌, ◌++◌, codes, decimal, get_or, refl, sym, ap, arith}
use Rattle.std.specs.Prelude.{⊤}
use Rattle.std.specs.Bool.{Decides, MatchBool}
use Rattle.std.specs.List.{list_any}
use Rattle.std.specs.Str.{bytes_eq}
use Rattle.std.proofs.Math.Decide.{dec_lt}
use Rattle.std.proofs.lemmas.Fmt.{decimal_digit}
use Rattle.std.proofs.lemmas.List.{append_cancel_left}
use Rattle.std.proofs.lemmas.List.Folds.{list_any_at}
use Rattle.std.proofs.lemmas.Slice.Eq.{bytes_eq-Decides}
use Rattle.core_store.specs.Storage.{largest_size}
use Rattle.core_store.specs.declared.checks.Check.TheVariants as check
use Rattle.machine.specs.Standings.{standing_words}
use Rattle.machine.specs.declared.standings.StandingAt.{StandingAt}
use Rattle.machine.specs.declared.standings.StandingAt.TheVariants.{Running, Halted, Checked}
use Rattle.queue_rounds.specs.StandingTexts.{IsAddress, IsInStorage, any_below, is_printed_at, is_standing, is_with_address, with_address}
use Rattle.queue_rounds.specs.declared.standing_texts.TheConstants.{BEFORE_ADDRESS}

-- ---- tests

left_is : (a b : Bool) → a ≡ true → (a || b) ≡ true
left_is true b is = refl
left_is false b is = cc

right_is : (a b : Bool) → b ≡ true → (a || b) ≡ true
right_is true b is = refl
right_is false b is = is

neither_is : (a b : Bool) → a ≡ false → b ≡ false → (a || b) ≡ false
neither_is true b one other = cc
neither_is false b one other = other

fails : (b : Bool) (P : Type 0) → Decides b P → ¬ P → b ≡ false
fails true P decides none = absurd (none (decides.0 refl))
fails false P decides none = refl

same : (text : List ℕ) → bytes_eq text text ≡ true
same text = (bytes_eq-Decides text text).1 refl

differs : (text other : List ℕ) → text ≢ other → bytes_eq text other ≡ false
differs text other none = fails (bytes_eq text other) (text ≡ other) (bytes_eq-Decides text other) none

-- ---- numbers below a bound

one_below : (test : ℕ → Bool) (bound n : ℕ) → n < bound → test n ≡ true → any_below test bound ≡ true
unfolding any_below
one_below test zero n low is = absurd (omega (arith, low))
one_below test (suc bound) n low is = elim (dec_lt n bound) [
  | yes lower ↦ right_is (test bound) (any_below test bound) (one_below test bound n lower is)
  | no other ↦ let here : n ≡ bound = omega arith in left_is (test bound) (any_below test bound) (ap test (sym here) ∙ is)
]

none_below : (test : ℕ → Bool) (bound : ℕ) → ((n : ℕ) → n < bound → test n ≡ false) → any_below test bound ≡ false
unfolding any_below
none_below test zero none = refl
none_below test (suc bound) none =
    neither_is (test bound) (any_below test bound) (none bound (omega arith)) (none_below test bound (λ n low. none n (omega (arith, low))))

-- a number below the bound that passes
abbrev Passing : (ℕ → Bool) → ℕ → Type 0
Passing test bound = (n : ℕ) × (n < bound) × (test n ≡ true)

found_below : (test : ℕ → Bool) (bound : ℕ) → any_below test bound ≡ true → Passing test bound
unfolding any_below
found_below test zero is = cc
found_below test (suc bound) is = by_test (test bound) (any_below test bound) refl (found_below test bound) is
  where
    by_test : (t r : Bool) → t ≡ test bound → (r ≡ true → Passing test bound) → (t || r) ≡ true → Passing test (suc bound)
    by_test true r here lower any = (bound, omega arith, sym here)
    by_test false r here lower any = let it = lower any in (it.0, omega (arith, it.1), it.2)

-- ---- addresses

pub zero_is : (text : List ℕ) → bytes_eq text (codes "0") ≡ true → IsAddress text
zero_is text is = (0, omega arith, (bytes_eq-Decides text (codes "0")).0 is ∙ sym (decimal_digit 0 (omega arith)))

pub none_is : (text : List ℕ) → bytes_eq text (codes "0") ≡ false → ((n : ℕ) → 0 < n → n < 10 ^ 9 → n ≤ 15999 → text ≢ decimal n) → ¬ (IsAddress text)
none_is text other none (zero, low, is) =
    let zero : bytes_eq text (codes "0") ≡ true = (bytes_eq-Decides text (codes "0")).1 (is ∙ decimal_digit 0 (omega arith)) in cc
none_is text other none (suc n, low, is) = none (suc n) (omega arith) (omega (arith, low)) (omega (arith, low)) is

-- ---- an address behind words

pub behind_is : (text words rest : List ℕ) (b : Bool) → text ≡ words ++ rest → MatchBool b (IsAddress rest) (¬ (IsAddress rest)) → b ≡ is_with_address text words
behind_is text words rest true e is =
    sym (one_below (λ n. bytes_eq text (words ++ decimal n)) largest_size is.0 is.1 ((bytes_eq-Decides text (words ++ decimal is.0)).1 (e ∙ ap (λ (r : List ℕ). words ++ r) is.2)))
behind_is text words rest false e none =
    sym (none_below (λ n. bytes_eq text (words ++ decimal n)) largest_size
    (λ n low. differs text (words ++ decimal n) (λ is. none (n, low, append_cancel_left words rest (decimal n) (sym e ∙ is)))))

pub behind_none : (text words : List ℕ) → ((rest : List ℕ) → text ≢ words ++ rest) → false ≡ is_with_address text words
behind_none text words none =
    sym (none_below (λ n. bytes_eq text (words ++ decimal n)) largest_size (λ n low. differs text (words ++ decimal n) (λ is. none (decimal n) is)))

-- ---- standings

-- the words of the code are those of the standings
pub standing_is : (text : List ℕ) → is_standing text ≡ (bytes_eq text (codes "running") || list_any (λ words. is_with_address text words.now) BEFORE_ADDRESS)
unfolding is_standing
standing_is text = refl

printed : (at : ℕ → StandingAt) (n : ℕ) → n < largest_size → is_printed_at (standing_words (at n)) at ≡ true
printed at n low = one_below (λ k. bytes_eq (standing_words (at n)) (standing_words (at k))) largest_size n low (same (standing_words (at n)))

at_place : (i n : ℕ) → i < 8 → n < largest_size → is_standing (standing_words (get_or with_address i (λ k. Running) n)) ≡ true
unfolding is_standing
at_place i n within low =
    let at = get_or with_address i (λ k. Running) in
    let text = standing_words (at n) in
    right_is (bytes_eq text (standing_words Running)) (list_any (is_printed_at text) with_address)
    (list_any_at (is_printed_at text) with_address i (λ k. Running) within (printed at n low))

pub taken : (s : StandingAt) → IsInStorage s → is_standing (standing_words s) ≡ true
unfolding is_standing
taken Running low = left_is (bytes_eq (standing_words Running) (standing_words Running)) (list_any (is_printed_at (standing_words Running)) with_address) (same (standing_words Running))
taken (Halted n) low = at_place 0 n (omega arith) low
taken (Checked check.Address n) low = at_place 1 n (omega arith) low
taken (Checked check.Instruction n) low = at_place 2 n (omega arith) low
taken (Checked check.Data n) low = at_place 3 n (omega arith) low
taken (Checked check.Overlap n) low = at_place 4 n (omega arith) low
taken (Checked check.ReaderEmpty n) low = at_place 5 n (omega arith) low
taken (Checked check.PunchFull n) low = at_place 6 n (omega arith) low
taken (Checked check.PrinterFull n) low = at_place 7 n (omega arith) low

-- a standing of the storage of which this text is printed
abbrev pub IsOfOne : List ℕ → Type 0
IsOfOne text = (s : StandingAt) × IsInStorage s × (text ≡ standing_words s)

-- each of these standings is of the storage where its address is
abbrev AreStored : List (ℕ → StandingAt) → Type 0
AreStored [] = ⊤
AreStored (at ∷ ats) = ((n : ℕ) → n < largest_size → IsInStorage (at n)) × AreStored ats

of_one : (text : List ℕ) (ats : List (ℕ → StandingAt)) → AreStored ats → list_any (is_printed_at text) ats ≡ true → IsOfOne text
of_one text [] stored any = cc
of_one text (at ∷ ats) stored any = by_test (is_printed_at text at) (list_any (is_printed_at text) ats) refl (of_one text ats stored.1) any
  where
    by_test : (t r : Bool) → t ≡ is_printed_at text at → (r ≡ true → IsOfOne text) → (t || r) ≡ true → IsOfOne text
    by_test true r here later any =
        let it = found_below (λ n. bytes_eq text (standing_words (at n))) largest_size (sym here) in
        (at it.0, stored.0 it.0 it.1, (bytes_eq-Decides text (standing_words (at it.0))).0 it.2)
    by_test false r here later any = later any

stored : AreStored with_address
stored = (λ n low. low, (λ n low. low, (λ n low. low, (λ n low. low, (λ n low. low, (λ n low. low, (λ n low. low, (λ n low. low, tt))))))))

pub others : (text : List ℕ) → is_standing text ≡ true → IsOfOne text
unfolding is_standing
others text is = by_test (bytes_eq text (standing_words Running)) (list_any (is_printed_at text) with_address) refl (of_one text with_address stored) is
  where
    by_test : (t r : Bool) → t ≡ bytes_eq text (standing_words Running) → (r ≡ true → IsOfOne text) → (t || r) ≡ true → IsOfOne text
    by_test true r here later any = (Running, tt, (bytes_eq-Decides text (standing_words Running)).0 (sym here))
    by_test false r here later any = later any
