-- Bytes cut in two, and the words of a line.
use Rattle.std.proofs.Common.{◌≡◌, ◌≢◌, ◌∙◌, ℕ, ◌+◌, ◌<◌, Bool, true, false, List, [], ◌∷◌, ◌++◌, length, map, take, set, refl, sym, ap, subst, arith, append_assoc, eqb, IfNone, IfSome}
use Rattle.std.specs.Prelude.{Option, Some, None}
use Rattle.std.specs.Borrow.{Bor}
use Rattle.std.proofs.lemmas.Bool.{ne_eqb}
use Rattle.std.proofs.lemmas.List.{take_more_set, map-append, length-append, length-map, length-take-le, append-nil}
use Rattle.std.proofs.lemmas.List.Elements.{All-head, All-tail, All-push}
use Rattle.scripts.specs.Lines.{IsWithout}
use Rattle.scripts.specs.Words.{AreFewWords, AreWords, words_of}

-- the words of a line with a blank
pub words_more : (word rest : List ℕ) → IsWithout 32 word → words_of (word ++ 32 ∷ rest) ≡ word ∷ words_of rest
unfolding words_of
words_more [] rest none = refl
words_more (byte ∷ word) rest none =
    let other : eqb byte 32 ≡ false = ne_eqb byte 32 (All-head (λ b. b ≢ 32) byte word none) in
    let more : words_of (word ++ 32 ∷ rest) ≡ word ∷ words_of rest = words_more word rest (All-tail (λ b. b ≢ 32) byte word none) in
    rw (other, more) refl

-- .. and of one without
pub words_alone : (word : List ℕ) → IsWithout 32 word → words_of word ≡ word ∷ []
unfolding words_of
words_alone [] none = refl
words_alone (byte ∷ word) none =
    let other : eqb byte 32 ≡ false = ne_eqb byte 32 (All-head (λ b. b ≢ 32) byte word none) in
    let more : words_of word ≡ word ∷ [] = words_alone word (All-tail (λ b. b ≢ 32) byte word none) in
    rw (other, more) refl

-- the first word of a line with a blank, and how long the rest is
pub word_found : (line word rest : List ℕ) → IsWithout 32 word → line ≡ word ++ 32 ∷ rest
    → (length rest < length line) × (words_of line ≡ word ∷ words_of rest)
word_found line word rest none is = (omega (arith, ap length is, length-append word (32 ∷ rest)), ap words_of is ∙ words_more word rest none)

-- a line has a word at least
some_word : (line : List ℕ) → 0 < length (words_of line)
unfolding words_of
some_word [] = omega arith
some_word (byte ∷ line) = go (eqb byte 32) refl (words_of line) refl
  where
    go : (b : Bool) → eqb byte 32 ≡ b → (words : List (List ℕ)) → words_of line ≡ words → 0 < length (words_of (byte ∷ line))
    go true is words same = rw is (omega arith)
    go false is [] same = rw (is, same) (omega arith)
    go false is (word ∷ words) same = rw (is, same) (omega arith)

-- after seven words there is no room for another
pub too_many : (words : List (Bor (List ℕ))) (line rest : List ℕ) → length words ≡ 7
    → words_of line ≡ map (λ (word : Bor (List ℕ)). word.now) (take 7 words) ++ words_of rest → ¬ AreFewWords line
too_many words line rest width are few =
    let front : length (map (λ (word : Bor (List ℕ)). word.now) (take 7 words)) ≡ 7 =
    length-map (take 7 words) (λ (w : Bor (List ℕ)). w.now) ∙ length-take-le 7 words (omega (arith, width)) in
    omega (arith, ap length are, length-append (map (λ (word : Bor (List ℕ)). word.now) (take 7 words)) (words_of rest), front, few.1, some_word rest)

no_empty : (front more : List (List ℕ)) → ¬ AreWords (front ++ [] ∷ more)
no_empty [] more are = All-head (λ (w : List ℕ). w ≢ []) [] more are refl
no_empty (word ∷ front) more are = no_empty front more (All-tail (λ (w : List ℕ). w ≢ []) word (front ++ [] ∷ more) are)

-- the first word of a line, whatever follows it
word_first : (line : List ℕ) (word : List ℕ) (rest : Option (Bor (List ℕ))) → IfNone rest (words_of line ≡ word ∷ [])
    → IfSome rest (λ r. (length r.now < length line) × (words_of line ≡ word ∷ words_of r.now)) → (more : List (List ℕ)) × (words_of line ≡ word ∷ more)
word_first line word None alone more = ([], alone)
word_first line word (Some r) alone more = (words_of r.now, more.1)

-- an empty word is none
pub empty_word : (front : List (List ℕ)) (line left word : List ℕ) (rest : Option (Bor (List ℕ))) → words_of line ≡ front ++ words_of left → word ≡ []
    → IfNone rest (words_of left ≡ word ∷ []) → IfSome rest (λ r. (length r.now < length left) × (words_of left ≡ word ∷ words_of r.now)) → ¬ AreFewWords line
empty_word front line left word rest are none alone more few =
    let first = word_first left word rest alone more in
    let same : words_of line ≡ front ++ [] ∷ first.0 = are ∙ ap (λ (ws : List (List ℕ)). front ++ ws) first.1 ∙ ap (λ (w : List ℕ). front ++ w ∷ first.0) none in
    no_empty front first.0 (subst AreWords same few.0)

-- one more word
pub one_more : (words : List (Bor (List ℕ))) (i : ℕ) (word : Bor (List ℕ)) → i < length words
    → map (λ (w : Bor (List ℕ)). w.now) (take (i + 1) (set words i word)) ≡ map (λ (w : Bor (List ℕ)). w.now) (take i words) ++ word.now ∷ []
one_more words i word inside =
    ap (map (λ (w : Bor (List ℕ)). w.now)) (take_more_set words i word inside) ∙ map-append (λ (w : Bor (List ℕ)). w.now) (take i words) (word ∷ [])

pub words_each : (words : List (Bor (List ℕ))) (i : ℕ) (word : Bor (List ℕ)) → i < length words → AreWords (map (λ (w : Bor (List ℕ)). w.now) (take i words)) → word.now ≢ []
    → AreWords (map (λ (w : Bor (List ℕ)). w.now) (take (i + 1) (set words i word)))
words_each words i word inside each some =
    subst AreWords (sym (one_more words i word inside)) (All-push (λ (w : List ℕ). w ≢ []) (map (λ (w : Bor (List ℕ)). w.now) (take i words)) word.now each some)

pub words_all : (words : List (Bor (List ℕ))) (i : ℕ) (word : Bor (List ℕ)) (line left : List ℕ) (more : List (List ℕ)) → i < length words
    → words_of line ≡ map (λ (w : Bor (List ℕ)). w.now) (take i words) ++ words_of left → words_of left ≡ word.now ∷ more
    → words_of line ≡ map (λ (w : Bor (List ℕ)). w.now) (take (i + 1) (set words i word)) ++ more
words_all words i word line left more inside are next =
    are ∙ ap (λ (ws : List (List ℕ)). map (λ (w : Bor (List ℕ)). w.now) (take i words) ++ ws) next
    ∙ sym (append_assoc (map (λ (w : Bor (List ℕ)). w.now) (take i words)) (word.now ∷ []) more)
    ∙ ap (λ (ws : List (List ℕ)). ws ++ more) (sym (one_more words i word inside))

-- the words are at most seven
pub few_words : (words : List (Bor (List ℕ))) (i : ℕ) (word : Bor (List ℕ)) (line left : List ℕ) → i < 7 → length words ≡ 7
    → AreWords (map (λ (w : Bor (List ℕ)). w.now) (take i words)) → word.now ≢ []
    → words_of line ≡ map (λ (w : Bor (List ℕ)). w.now) (take i words) ++ words_of left → words_of left ≡ word.now ∷ []
    → AreFewWords line × (map (λ (w : Bor (List ℕ)). w.now) (take (i + 1) (set words i word)) ≡ words_of line)
few_words words i word line left below width each some are next =
    let inside : i < length words = omega (arith, width, below) in
    let all : words_of line ≡ map (λ (w : Bor (List ℕ)). w.now) (take (i + 1) (set words i word)) =
    words_all words i word line left [] inside are next ∙ append-nil (map (λ (w : Bor (List ℕ)). w.now) (take (i + 1) (set words i word))) in
    let long : length (words_of line) ≡ i + 1 =
    ap length all ∙ length-map (take (i + 1) (set words i word)) (λ (w : Bor (List ℕ)). w.now)
    ∙ ap length (take_more_set words i word inside) ∙ length-append (take i words) (word ∷ []) ∙ ap (λ (n : ℕ). n + 1) (length-take-le i words (omega (arith, inside))) in
    ((subst AreWords (sym all) (words_each words i word inside each some), omega (arith, long, below)), sym all)
