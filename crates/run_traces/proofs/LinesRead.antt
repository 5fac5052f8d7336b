-- lines that are read back
use Rattle.std.proofs.Common.{◌≡◌, ℕ, zero, suc, ◌+◌, ◌-◌, ◌≤◌, ◌==◌, ◌&&◌, not, Bool, true, false, if◌then◌else◌, List, [], ◌∷◌, ◌++◌, length, length-append, take, drop, reverse, replicate, refl, sym, ap, ◌∙◌, arith, append_assoc, subst}
use Rattle.std.specs.List.{list_all, prefix_len, suffix_len}
use Rattle.std.proofs.lemmas.Bool.{eqb-true}
use Rattle.std.proofs.lemmas.List.{length-replicate, reverse-append, reverse-reverse, replicate-append-replicate, take_at}
use Rattle.std.proofs.lemmas.List.Sums.{suffix_len-le-length}
use Rattle.autocoder.specs.Listing.{blank, line_text}
use Rattle.run_traces.specs.Reading.{behind_line, first_line, whole_line}

-- no line feed among bytes
abbrev pub clean : List ℕ → Bool
clean bytes = list_all (λ byte. not (byte == 10)) bytes

head_clean : (byte : ℕ) (bytes : List ℕ) (b : Bool) → (byte == 10) ≡ b → clean (byte ∷ bytes) ≡ true → (b ≡ false) × (clean bytes ≡ true)
head_clean byte bytes true is h = absurd (let e : not true && clean bytes ≡ true = ap (λ c. not c && clean bytes) (sym is) ∙ h in cc)
head_clean byte bytes false is h = (refl, ap (λ c. not c && clean bytes) (sym is) ∙ h)

-- a line that has no line feed is read whole
pub line_read : (line rest : List ℕ) → clean line ≡ true → first_line (line ++ 10 ∷ rest) ≡ line
unfolding first_line
line_read [] rest h = refl
line_read (byte ∷ line) rest h =
    let cleaned = head_clean byte line (byte == 10) refl h in
    ap (λ b. if b then [] else byte ∷ first_line (line ++ 10 ∷ rest)) cleaned.0 ∙ ap (λ l. byte ∷ l) (line_read line rest cleaned.1)

pub rest_read : (line rest : List ℕ) → clean line ≡ true → behind_line (line ++ 10 ∷ rest) ≡ rest
unfolding behind_line
rest_read [] rest h = refl
rest_read (byte ∷ line) rest h =
    let cleaned = head_clean byte line (byte == 10) refl h in
    ap (λ b. if b then line ++ 10 ∷ rest else behind_line (line ++ 10 ∷ rest)) cleaned.0 ∙ rest_read line rest cleaned.1

pub clean_take : (n : ℕ) (line : List ℕ) → clean line ≡ true → clean (take n line) ≡ true
clean_take zero line h = refl
clean_take (suc n) [] h = refl
clean_take (suc n) (byte ∷ line) h =
    let cleaned = head_clean byte line (byte == 10) refl h in
    ap (λ b. not b && clean (take n line)) cleaned.0 ∙ clean_take n line cleaned.1

-- blanks at the front of a list are so many blanks
front_by : (x : ℕ) (xs : List ℕ) (b : Bool) → (x == blank) ≡ b → xs ≡ replicate (prefix_len (λ g. g == blank) xs) blank ++ drop (prefix_len (λ g. g == blank) xs) xs
    → x ∷ xs ≡ replicate (if b then 1 + prefix_len (λ g. g == blank) xs else 0) blank ++ drop (if b then 1 + prefix_len (λ g. g == blank) xs else 0) (x ∷ xs)
front_by x xs true is rest =
    let one : 1 + prefix_len (λ g. g == blank) xs ≡ suc (prefix_len (λ g. g == blank) xs) = omega arith in
    subst (λ n. x ∷ xs ≡ replicate n blank ++ drop n (x ∷ xs)) (sym one) (ap (λ y. y ∷ xs) (eqb-true x blank is) ∙ ap (λ ys. blank ∷ ys) rest)
front_by x xs false is rest = refl

fronts : (xs : List ℕ) → xs ≡ replicate (prefix_len (λ g. g == blank) xs) blank ++ drop (prefix_len (λ g. g == blank) xs) xs
fronts [] = refl
fronts (x ∷ xs) = front_by x xs (x == blank) refl (fronts xs)

blanks_turned : (n : ℕ) → reverse (replicate n blank) ≡ replicate n blank
blanks_turned zero = refl
blanks_turned (suc n) =
    let one : suc n ≡ n + 1 = omega arith in
    reverse-append (blank ∷ []) (replicate n blank) ∙ ap (λ xs. xs ++ blank ∷ []) (blanks_turned n) ∙ replicate-append-replicate n 1 blank ∙ ap (λ k. replicate k blank) (sym one)

-- a line is what is left of it, and then the blanks that are cut
pub cut_whole : (line : List ℕ) → line ≡ take (length line - suffix_len (λ g. g == blank) line) line ++ replicate (suffix_len (λ g. g == blank) line) blank
cut_whole line =
    let n = suffix_len (λ g. g == blank) line in
    let kept = reverse (drop n (reverse line)) in
    let split : line ≡ kept ++ replicate n blank =
    sym (reverse-reverse line) ∙ ap reverse (fronts (reverse line)) ∙ reverse-append (replicate n blank) (drop n (reverse line)) ∙ ap (λ xs. kept ++ xs) (blanks_turned n) in
    let long : length kept ≡ length line - n = omega (arith, ap length split, length-append kept (replicate n blank), length-replicate n blank) in
    split ∙ ap (λ xs. xs ++ replicate n blank) (sym (ap (take (length line - n)) split ∙ take_at kept (replicate n blank) (length line - n) long))

-- a line that was cut has all its columns again
pub columns_again : (columns : ℕ) (line : List ℕ) → length line ≡ columns → whole_line columns (take (length line - suffix_len (λ g. g == blank) line) line) ≡ line
unfolding whole_line
columns_again columns line long =
    let n = suffix_len (λ g. g == blank) line in
    let kept = take (length line - n) line in
    let few : n ≤ length line = suffix_len-le-length (λ g. g == blank) line in
    let split : n + (columns - n) ≡ columns = omega arith in
    ap (λ k. take columns (kept ++ replicate k blank)) (sym split)
    ∙ ap (λ xs. take columns (kept ++ xs)) (sym (replicate-append-replicate n (columns - n) blank))
    ∙ ap (take columns) (sym (append_assoc kept (replicate n blank) (replicate (columns - n) blank)))
    ∙ ap (λ xs. take columns (xs ++ replicate (columns - n) blank)) (sym (cut_whole line))
    ∙ take_at line (replicate (columns - n) blank) columns long

-- the line of a text is read with all its columns, and what is behind it
pub line_again : (columns : ℕ) (line rest : List ℕ) → length line ≡ columns → clean line ≡ true → whole_line columns (first_line (line_text line ++ rest)) ≡ line
unfolding line_text
line_again columns line rest long h =
    let kept = take (length line - suffix_len (λ g. g == blank) line) line in
    ap (λ text. whole_line columns (first_line text)) (append_assoc kept (10 ∷ []) rest)
    ∙ ap (whole_line columns) (line_read kept rest (clean_take _ line h))
    ∙ columns_again columns line long

pub behind_again : (line rest : List ℕ) → clean line ≡ true → behind_line (line_text line ++ rest) ≡ rest
unfolding line_text
behind_again line rest h =
    let kept = take (length line - suffix_len (λ g. g == blank) line) line in
    ap behind_line (append_assoc kept (10 ∷ []) rest) ∙ rest_read kept rest (clean_take _ line h)
