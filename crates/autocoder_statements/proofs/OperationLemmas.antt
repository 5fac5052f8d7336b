-- for `entry`, `order_named` and `row_named` of `operations`: how the tables are searched
use Rattle.std.proofs.Common.{◌≡◌, ℕ, suc, ◌+◌, ◌<◌, true, false, List, ◌∷◌, length, get_or, drop, Some, None, refl, ap, sym, ◌∙◌, add-one, drop-cons}
use Rattle.std.proofs.Math.Seq.{drop-length}
use Rattle.std.proofs.lemmas.List.{get_or_read}
use Rattle.autocoder_statements.specs.Characters.{begins}
use Rattle.autocoder_statements.specs.Mnemonics.{entry, orders}
use Rattle.autocoder_statements.specs.declared.operations.TheConstants.{ORDERS}

met : {A : Type 0} (row : List ℕ × A) (rows : List (List ℕ × A)) (word : List ℕ) → begins row.0 word ≡ true → entry (row ∷ rows) word ≡ Some row.1
unfolding entry
met row rows word t = rw t refl

pub entry_at : {A : Type 0} (table : List (List ℕ × A)) (word : List ℕ) (i : ℕ) (row other : List ℕ × A) → i < length table →
    row ≡ get_or table i row → begins (get_or table i row).0 word ≡ true → entry (drop i table) word ≡ Some (get_or table i other).1
entry_at table word i row other h e t =
    ap (λ rows. entry rows word) (drop-cons table i row h) ∙ met (get_or table i row) (drop (suc i) table) word t
    ∙ ap (λ r. Some r.1) (sym e ∙ get_or_read table i row h e other)

pub entry_past : {A : Type 0} (table : List (List ℕ × A)) (word : List ℕ) (i : ℕ) (row : List ℕ × A) → i < length table →
    begins (get_or table i row).0 word ≡ false → entry (drop i table) word ≡ entry (drop (i + 1) table) word
unfolding entry
entry_past table word i row h t = rw (add-one, drop-cons table i row, t) refl

pub entry_ends : {A : Type 0} (table : List (List ℕ × A)) (word : List ℕ) → entry (drop (length table) table) word ≡ None
unfolding entry
entry_ends table word = rw (drop-length table) refl

pub orders_are : ORDERS ≡ orders
unfolding orders
orders_are = refl
