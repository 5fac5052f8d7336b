-- characters of an area, written one by one from the right and read one by one from the left
use Rattle.std.proofs.Common.{All, List, [], ◌∷◌, ◌++◌, take, drop, set, replicate, length-set, ◌≡◌, ℕ, suc, ◌+◌, ◌<◌, ◌≤◌, refl, sym, ◌∙◌, ap, arith, length, get_or}
use Rattle.std.proofs.lemmas.List.{take-append-drop, drop-drop, drop_all, get_or-drop, length-drop, length-replicate, length-take-le, take_all, take_more, take_more_set}
use Rattle.std.proofs.lemmas.List.Elements.{All-replicate, All-set}
use Rattle.core_store.specs.Storage.{Storage, code_at, codes_from, put, put_codes}
use Rattle.core_store.proofs.Fields.{length-put_codes, codes_from_none, codes_from_more}

-- ---- characters written sixteen at a time from the right

put_codes_joined : (s : Storage) (first : ℕ) (xs ys : List ℕ) → put_codes (put_codes s (first + length xs) ys) first xs ≡ put_codes s first (xs ++ ys)
unfolding put_codes
put_codes_joined s first [] ys = let here : first + 0 ≡ first = omega arith in ap (λ n. put_codes s n ys) here
put_codes_joined s first (x ∷ xs) ys =
    let next : first + suc (length xs) ≡ first + 1 + length xs = omega arith in
    ap (λ t. put t first x) (ap (λ n. put_codes (put_codes s n ys) (first + 1) xs) next ∙ put_codes_joined s (first + 1) xs ys)

-- the codes from place p on, written into an area
pub record IsWritten (s : Storage) (codes : List ℕ) (first p : ℕ) (now : Storage) : Type 0 where
  pub written : now ≡ put_codes s (first + p) (drop p codes)
  pub size : length now ≡ length s

pub write_none : (s : Storage) (codes : List ℕ) (first p : ℕ) → length codes ≤ p → IsWritten s codes first p s
unfolding put_codes
write_none s codes first p h = record { written = rw (drop_all p codes h) refl; size = refl }

pub write_block : (s now new : Storage) (codes lanes : List ℕ) (first p q : ℕ) → q ≡ p + 16 → q ≤ length codes → lanes ≡ take 16 (drop p codes) → IsWritten s codes first q now →
    new ≡ put_codes now (first + p) lanes → IsWritten s codes first p new
write_block s now new codes lanes first p q block within are before put_is =
    let whole : p ≤ q = omega arith in
    let long : 16 ≤ length (drop p codes) = omega (arith, length-drop p codes) in
    let sixteen : length lanes ≡ 16 = ap length are ∙ length-take-le 16 (drop p codes) long in
    let up : first + q ≡ first + p + length lanes = omega arith in
    let rest : lanes ++ drop q codes ≡ drop p codes =
    ap (λ l. l ++ drop q codes) are ∙ ap (λ l. take 16 (drop p codes) ++ l) (ap (λ n. drop n codes) block ∙ sym (drop-drop 16 p codes)) ∙ take-append-drop 16 (drop p codes) in
    record {
      written =
          put_is
          ∙ ap (λ t. put_codes t (first + p) lanes) (before.written ∙ ap (λ n. put_codes s n (drop q codes)) up)
          ∙ put_codes_joined s (first + p) lanes (drop q codes)
          ∙ ap (put_codes s (first + p)) rest;
      size = ap length put_is ∙ length-put_codes now (first + p) lanes ∙ before.size;
    }

pub write_all : (s now : Storage) (codes : List ℕ) (first p : ℕ) → p ≤ 0 → IsWritten s codes first p now → now ≡ put_codes s first codes
write_all s now codes first p h so_far =
    let none : p ≡ 0 = omega arith in
    let at : first + 0 ≡ first = omega arith in
    so_far.written ∙ ap (λ n. put_codes s (first + n) (drop n codes)) none ∙ ap (λ n. put_codes s n codes) at

-- the first p of sixteen characters from a place on, in as many lanes
pub record IsCopied (codes : List ℕ) (first p : ℕ) (lanes : List ℕ) : Type 0 where
  pub copied : take p lanes ≡ take p (drop first codes)
  pub size : length lanes ≡ 16
  pub below : All (λ code. code < 64) lanes

pub copy_none : (codes : List ℕ) (first : ℕ) → IsCopied codes first 0 (replicate 16 0)
copy_none codes first = record { copied = refl; size = length-replicate {A = ℕ} 16 0; below = All-replicate (λ code. code < 64) 16 0 (omega arith) }

pub copy_step : (codes lanes : List ℕ) (first p code d : ℕ) → p < 16 → first + 16 ≤ length codes → code ≡ get_or codes (first + p) d → code < 64 → IsCopied codes first p lanes →
    IsCopied codes first (p + 1) (set lanes p code)
copy_step codes lanes first p code d lt within is few before =
    let here : p < length lanes = omega (arith, before.size) in
    let there : p < length (drop first codes) = omega (arith, length-drop first codes) in
    record {
      copied =
          take_more_set lanes p code here
          ∙ ap (λ l. l ++ code ∷ []) before.copied
          ∙ ap (λ x. take p (drop first codes) ++ x ∷ []) (is ∙ sym (get_or-drop first codes p d))
          ∙ sym (take_more (drop first codes) p d there);
      size = length-set lanes p code ∙ before.size;
      below = All-set (λ n. n < 64) lanes p code few before.below;
    }

pub copy_all : (codes : List ℕ) (first p : ℕ) (lanes : List ℕ) → 16 ≤ p → p ≤ 16 → IsCopied codes first p lanes → lanes ≡ take 16 (drop first codes)
copy_all codes first p lanes not_before not_behind so_far =
    let whole : p ≡ 16 = omega arith in
    let long : length lanes ≤ p = omega (arith, so_far.size) in
    sym (take_all p lanes long) ∙ so_far.copied ∙ ap (λ n. take n (drop first codes)) whole

-- ---- characters read one by one from the left

-- the first p of an area's characters, in a list of its length
pub record IsRead (s : Storage) (first count p : ℕ) (codes : List ℕ) : Type 0 where
  pub read : take p codes ≡ codes_from s first p
  pub size : length codes ≡ count

pub read_none : (s : Storage) (first count : ℕ) (blank : ℕ) → IsRead s first count 0 (replicate count blank)
read_none s first count blank = record { read = sym (codes_from_none s first); size = length-replicate count blank }

pub read_step : (s : Storage) (first count p code : ℕ) (codes : List ℕ) → p < count → first + count ≤ length s → code ≡ code_at s (first + p) →
    IsRead s first count p codes → IsRead s first count (p + 1) (set codes p code)
read_step s first count p code codes lt within is before =
    let here : p < length codes = omega (arith, before.size) in
    let inside : first + p < length s = omega arith in
    record {
      read =
          take_more_set codes p code here
          ∙ ap (λ xs. xs ++ code ∷ []) before.read
          ∙ ap (λ x. codes_from s first p ++ x ∷ []) is
          ∙ sym (codes_from_more s first p inside);
      size = length-set codes p code ∙ before.size;
    }

pub read_all : (s : Storage) (first count p : ℕ) (codes : List ℕ) → count ≤ p → p ≤ count → IsRead s first count p codes → codes ≡ codes_from s first count
read_all s first count p codes not_before not_behind so_far =
    let whole : p ≡ count = omega arith in
    let long : length codes ≤ p = omega (arith, so_far.size) in
    sym (take_all p codes long) ∙ so_far.read ∙ ap (codes_from s first) whole
