-- zeros and commas that become blank from the left
use Rattle.std.proofs.Common.{zero, ◌≡◌, ℕ, suc, ◌+◌, ◌<◌, ◌≤◌, Bool, true, false, List, [], ◌∷◌, refl, sym, ◌∙◌, ap, arith, length, get_or, set, min, if◌then◌else◌, add-one}
use Rattle.core_store.specs.Storage.{Storage, code_at, put, put_codes, codes_from}
use Rattle.core_store.proofs.Fields.{put-put_codes, put_codes-codes_from, length-codes_from, code_at-put_codes, codes_from-put_codes, put_codes-put_codes}
use Rattle.moves.specs.Blanked.{leading, faded, blanked}

-- ---- blanks

pub length-blanked : (n : ℕ) (codes : List ℕ) → length (blanked n codes) ≡ length codes
unfolding blanked
length-blanked zero codes = refl
length-blanked (suc n) [] = refl
length-blanked (suc n) (c ∷ codes) = ap suc (length-blanked n codes)

get_or-blanked : (n : ℕ) (codes : List ℕ) → get_or (blanked n codes) n 0 ≡ get_or codes n 0
unfolding blanked
get_or-blanked zero codes = refl
get_or-blanked (suc n) [] = refl
get_or-blanked (suc n) (c ∷ codes) = get_or-blanked n codes

blanked_more : (n : ℕ) (codes : List ℕ) → n < length codes → set (blanked n codes) n (faded (get_or codes n 0)) ≡ blanked (suc n) codes
unfolding blanked
blanked_more n [] h = absurd (omega arith)
blanked_more zero (c ∷ codes) h = refl
blanked_more (suc n) (c ∷ codes) h = ap (λ xs. faded c ∷ xs) (blanked_more n codes (omega arith))

-- ---- the first code that passes a test

more_if : (b : Bool) (i n : ℕ) → suc i ≤ (if b then 0 else suc n) → (i ≤ n → suc i ≤ n) → suc (suc i) ≤ (if b then 0 else suc n)
more_if true i n h f = absurd (omega arith)
more_if false i n h f = let next : suc i ≤ n = f (omega arith) in omega arith

here_if : (b : Bool) (i n : ℕ) → suc i ≤ (if b then 0 else suc n) → (i ≤ n → n ≡ i) → (if b then 0 else suc n) ≡ suc i
here_if true i n h f = absurd (omega arith)
here_if false i n h f = ap suc (f (omega arith))

module _ (test : ℕ → Bool) where
  pub leading_more : (codes : List ℕ) (i : ℕ) → i < length codes → i ≤ leading test codes → test (get_or codes i 0) ≡ false → i + 1 ≤ leading test codes
  unfolding leading
  leading_more [] i h le differs = absurd (omega arith)
  leading_more (c ∷ codes) zero h le differs =
      let e : leading test (c ∷ codes) ≡ suc (leading test codes) = ap (λ b. if b then 0 else suc (leading test codes)) differs in omega arith
  leading_more (c ∷ codes) (suc i) h le differs =
      let r : suc (suc i) ≤ leading test (c ∷ codes) = more_if (test c) i (leading test codes) le (λ l. let r = leading_more codes i (omega arith) l differs in omega arith) in omega arith

  pub leading_here : (codes : List ℕ) (i : ℕ) → i < length codes → i ≤ leading test codes → test (get_or codes i 0) ≡ true → leading test codes ≡ i
  unfolding leading
  leading_here [] i h le passes = absurd (omega arith)
  leading_here (c ∷ codes) zero h le passes = ap (λ b. if b then 0 else suc (leading test codes)) passes
  leading_here (c ∷ codes) (suc i) h le passes = here_if (test c) i (leading test codes) le (λ l. leading_here codes i (omega arith) l passes)

-- ---- one step in storage

module _ (s : Storage) (first count i : ℕ) (within : first + count ≤ length s) (i_in : i < count) (now : Storage) (is : now ≡ put_codes s first (blanked i (codes_from s first count))) where
  long : length (codes_from s first count) ≡ count
  long = length-codes_from s first count within

  pub read_is : code_at now (first + i) ≡ get_or (codes_from s first count) i 0
  read_is =
      let same = length-blanked i (codes_from s first count) in
      ap (λ t. code_at t (first + i)) is
      ∙ code_at-put_codes s first (blanked i (codes_from s first count)) i (omega (arith, long)) (omega (arith, long))
      ∙ get_or-blanked i (codes_from s first count)

  pub blank_step : put now (first + i) (faded (code_at now (first + i))) ≡ put_codes s first (blanked (i + 1) (codes_from s first count))
  blank_step =
      let same = length-blanked i (codes_from s first count) in
      ap (λ c. put now (first + i) (faded c)) read_is
      ∙ ap (λ t. put t (first + i) (faded (get_or (codes_from s first count) i 0))) is
      ∙ put-put_codes s first (blanked i (codes_from s first count)) i (faded (get_or (codes_from s first count) i 0)) (omega (arith, long))
      ∙ ap (put_codes s first) (blanked_more i (codes_from s first count) (omega (arith, long)) ∙ ap (λ n. blanked n (codes_from s first count)) (sym (add-one i)))

pub blank_none : (s : Storage) (first count : ℕ) → first + count ≤ length s → s ≡ put_codes s first (blanked 0 (codes_from s first count))
unfolding blanked
blank_none s first count within = sym (put_codes-codes_from s first count within)

pub leading_within : (test : ℕ → Bool) (codes : List ℕ) → leading test codes ≤ length codes
unfolding leading
leading_within test [] = omega arith
leading_within test (c ∷ codes) = within_if (test c) (leading test codes) (length codes) (leading_within test codes) where
  within_if : (b : Bool) (n m : ℕ) → n ≤ m → (if b then 0 else suc n) ≤ suc m
  within_if true n m le = omega arith
  within_if false n m le = omega arith

-- blanks in codes that were put just before
pub blank_after : (s : Storage) (first count limit : ℕ) (test : ℕ → Bool) (codes : List ℕ) → length codes ≡ count → first + count ≤ length s →
    put_codes (put_codes s first codes) first (blanked (min limit (leading test (codes_from (put_codes s first codes) first count))) (codes_from (put_codes s first codes) first count))
    ≡ put_codes s first (blanked (min limit (leading test codes)) codes)
blank_after s first count limit test codes long within =
    let same : codes_from (put_codes s first codes) first count ≡ codes =
    ap (codes_from (put_codes s first codes) first) (sym long) ∙ codes_from-put_codes s first codes (omega arith) in
    ap (λ xs. put_codes (put_codes s first codes) first (blanked (min limit (leading test xs)) xs)) same
    ∙ put_codes-put_codes s first codes (blanked (min limit (leading test codes)) codes) (sym (length-blanked (min limit (leading test codes)) codes))

-- the steps of the loop, of what the calls answered
module _ (s : Storage) (first count limit i : ℕ) (within : first + count ≤ length s) (i_in : i < limit) (limit_in : limit ≤ count) (test : ℕ → Bool) (now : Storage)
    (is : now ≡ put_codes s first (blanked i (codes_from s first count))) (none : i ≤ leading test (codes_from s first count))
    (code : ℕ) (code_is : code ≡ code_at now (first + i)) (met : Bool) (met_is : met ≡ test code) where
  inside : i < length (codes_from s first count)
  inside = let long = length-codes_from s first count within in omega arith

  tested : test (get_or (codes_from s first count) i 0) ≡ met
  tested = sym (met_is ∙ ap test (code_is ∙ read_is s first count i within (omega arith) now is))

  pub stopped_on : met ≡ true → now ≡ put_codes s first (blanked (min limit (leading test (codes_from s first count))) (codes_from s first count))
  stopped_on passes =
      let here = leading_here test (codes_from s first count) i inside none (tested ∙ passes) in
      let least : i ≡ min limit (leading test (codes_from s first count)) = omega arith in
      is ∙ ap (λ n. put_codes s first (blanked n (codes_from s first count))) least

  pub none_on : met ≡ false → i + 1 ≤ leading test (codes_from s first count)
  none_on differs = leading_more test (codes_from s first count) i inside none (tested ∙ differs)

pub blanked_on : (s : Storage) (first count i : ℕ) → first + count ≤ length s → i < count → (now : Storage) → now ≡ put_codes s first (blanked i (codes_from s first count)) →
    (code : ℕ) → code ≡ code_at now (first + i) → (made : ℕ) → made ≡ faded code → (new : Storage) → new ≡ put now (first + i) made → new ≡ put_codes s first (blanked (i + 1) (codes_from s first count))
blanked_on s first count i within i_in now is code code_is made made_is new new_is =
    new_is ∙ ap (put now (first + i)) (made_is ∙ ap faded code_is) ∙ blank_step s first count i within i_in now is
