-- for the law `a_word_names_one_operation`
use Rattle.std.proofs.Common.{◌≡◌, ℕ, ◌+◌, ◌<◌, ◌==◌, Bool, true, false, ◌&&◌, List, [], ◌∷◌, length, get_or, if◌then◌else◌, refl, sym, ◌∙◌, ap, arith, eqb}
use Rattle.std.proofs.lemmas.Bool.{eqb-true}
use Rattle.bcd.proofs.Tables.{at_each}
use Rattle.bcd.specs.Table.{glyph_of}
use Rattle.autocoder_statements.specs.Characters.{begins}
use Rattle.autocoder_statements.specs.Mnemonics.{orders, mnemonics}
use Rattle.autocoder_statements.specs.Laws.{names, IsOneOperation}
use Rattle.autocoder_statements.proofs.Tests.{both}

begins_same : (a b word : List ℕ) → length a ≡ length b → begins a word ≡ true → begins b word ≡ true → a ≡ b
unfolding begins
begins_same [] [] word e h k = refl
begins_same [] (y ∷ b) word e h k = absurd (omega arith)
begins_same (x ∷ a) [] word e h k = absurd (omega arith)
begins_same (x ∷ a) (y ∷ b) [] e h k = absurd (cc)
begins_same (x ∷ a) (y ∷ b) (code ∷ word) e h k =
    let p = both (glyph_of code == x) (begins a word) h in
    let q = both (glyph_of code == y) (begins b word) k in
    let first : x ≡ y = sym (eqb-true (glyph_of code) x p.0) ∙ eqb-true (glyph_of code) y q.0 in
    let rest : a ≡ b = begins_same a b word (omega arith) p.1 q.1 in
    cc

same : List ℕ → List ℕ → Bool
same [] [] = true
same [] (y ∷ ys) = false
same (x ∷ xs) [] = false
same (x ∷ xs) (y ∷ ys) = (x == y) && same xs ys

-- the place of the first name that is this one
place : List (List ℕ) → List ℕ → ℕ
place [] name = 0
place (other ∷ others) name = if same other name then 0 else 1 + place others name

length_at : (i : ℕ) → i < length names → length (get_or names i []) ≡ 5
unfolding names orders mnemonics
length_at i h = eqb-true _ _ (at_each (λ k. eqb (length (get_or names k [])) 5) (length names) refl i h)

place_at : (i : ℕ) → i < length names → place names (get_or names i []) ≡ i
unfolding names orders mnemonics place same
place_at i h = eqb-true _ _ (at_each (λ k. eqb (place names (get_or names k [])) k) (length names) refl i h)

pub one_operation : (word : List ℕ) → IsOneOperation word
one_operation word i j h k p q =
    let e : get_or names i [] ≡ get_or names j [] = begins_same _ _ word (length_at i h ∙ sym (length_at j k)) p q in
    sym (place_at i h) ∙ ap (place names) e ∙ place_at j k
