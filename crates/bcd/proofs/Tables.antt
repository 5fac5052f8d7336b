-- a rule over the 64 codes, proved once by computation and then known at each
use Rattle.std.proofs.Common.{◌≡◌, ℕ, zero, suc, ◌<◌, Bool, true, false, ◌&&◌, refl, sym, ◌∙◌, ap, arith, eqb, ltb, cond, get_or}
use Rattle.std.proofs.Math.Decide.{dec_lt}
use Rattle.std.proofs.lemmas.Bool.{eqb-true, ltb-true}
use Rattle.bcd.specs.Table.{IsOneToOne, glyph_of, rank_of, punches_of, zone_of}
use Rattle.bcd.specs.declared.TheConstants.{GLYPHS, NUMBERS, RANKS, PUNCHES}

-- the test holds of each number below n
abbrev all_below : (ℕ → Bool) → ℕ → Bool
all_below test zero = true
all_below test (suc n) = test n && all_below test n

both : (a b : Bool) → (a && b) ≡ true → (a ≡ true) × (b ≡ true)
both true b h = (refl, h)
both false b h = absurd (cc)

pub at_each : (test : ℕ → Bool) (n : ℕ) → all_below test n ≡ true → (k : ℕ) → k < n → test k ≡ true
at_each test zero all k h = absurd (omega arith)
at_each test (suc n) all k h = let parts = both (test n) (all_below test n) all in
    elim (dec_lt k n) [ yes low ↦ at_each test n parts.1 k low | no high ↦ let same : k ≡ n = omega arith in rw same parts.0 ]

pub rank_at : (n : ℕ) → n < 64 → get_or RANKS n 0 ≡ rank_of n
unfolding rank_of glyph_of
rank_at n h = eqb-true _ _ (at_each (λ k. eqb (get_or RANKS k 0) (rank_of k)) 64 refl n h)

pub rank_below : (n : ℕ) → n < 64 → get_or RANKS n 0 < 64
rank_below n h = ltb-true _ _ (at_each (λ k. ltb (get_or RANKS k 0) 64) 64 refl n h)

pub punches_at : (n : ℕ) → n < 64 → get_or PUNCHES n 0 ≡ punches_of n
unfolding punches_of zone_of
punches_at n h = eqb-true _ _ (at_each (λ k. eqb (get_or PUNCHES k 0) (punches_of k)) 64 refl n h)

pub glyph_at : (n : ℕ) → n < 64 → get_or GLYPHS n 0 ≡ glyph_of n
unfolding glyph_of
glyph_at n h = eqb-true _ _ (at_each (λ k. eqb (get_or GLYPHS k 0) (glyph_of k)) 64 refl n h)

-- where a search among the 64 finds each code by what f gives it, no two are given the same
search_from : (ℕ → ℕ) → ℕ → ℕ → ℕ
search_from f x zero = 0
search_from f x (suc n) = cond (eqb (f n) x) n (search_from f x n)

pub one_to_one : (f g : ℕ → ℕ) → all_below (λ n. eqb (g (f n)) n) 64 ≡ true → IsOneToOne f
one_to_one f g all n m hn hm same =
    sym (eqb-true _ _ (at_each (λ k. eqb (g (f k)) k) 64 all n hn)) ∙ ap g same ∙ eqb-true _ _ (at_each (λ k. eqb (g (f k)) k) 64 all m hm)

pub glyphs_differ : IsOneToOne glyph_of
unfolding glyph_of search_from
glyphs_differ = one_to_one glyph_of (λ x. search_from glyph_of x 64) refl

pub ranks_differ : IsOneToOne rank_of
unfolding glyph_of rank_of search_from
ranks_differ = one_to_one rank_of (λ x. search_from rank_of x 64) refl

pub punches_differ : IsOneToOne punches_of
unfolding punches_of zone_of search_from
punches_differ = one_to_one punches_of (λ x. search_from punches_of x 64) refl

pub number_below : (byte : ℕ) → byte < 256 → get_or NUMBERS byte 0 < 64
number_below byte h = ltb-true _ _ (at_each (λ k. ltb (get_or NUMBERS k 0) 64) 256 refl byte h)

pub number_at : (n : ℕ) → n < 64 → get_or NUMBERS (glyph_of n) 0 ≡ n
unfolding glyph_of
number_at n h = eqb-true _ _ (at_each (λ k. eqb (get_or NUMBERS (glyph_of k) 0) k) 64 refl n h)
