-- for `empty_table`, `fill` and `cells_in` of `tables`: a table of what is filled
use Rattle.std.proofs.Common.{◌≡◌, ◌≢◌, ℕ, zero, suc, ◌+◌, ◌<◌, ◌≤◌, true, false, ◌||◌, List, [], ◌∷◌, ◌++◌, length, drop, set, get_or, Option, Some, None, refl, sym, ◌∙◌, ap, arith, append_assoc, get_or-set_same, get_or-set_other, length-set, nat_eq, nat_le, eq-eqb, inl, inr, if◌then◌else◌}
use Rattle.std.proofs.lemmas.List.{at_drop_more, at_drop_all, append-nil}
use Rattle.std.specs.Bool.{if◌then◌else◌}
use Rattle.std.proofs.lemmas.Bool.{leb-false, ne_eqb}
use Rattle.std.proofs.lemmas.Bool.Decides.{eqb_tells}
use Rattle.std.specs.Option.{is_some}
use Rattle.std.specs.List.{All}
use Rattle.autocoder_layout.specs.declared.cells.Cell.{Cell}
use Rattle.autocoder_layout.specs.Judging.{is_filled, fills_outside, is_overlapping, IsCut}
use Rattle.autocoder_layout.specs.Image.{cell_at, cells_from, cons_some}
use Rattle.autocoder_layout.specs.Tables.{IsTableOf, filled_with, filled_table, cells_in, is_taken}
use Rattle.autocoder_statements.proofs.Tests.{neither}

abbrev or_else : Option Cell → Option Cell → Option Cell
or_else (Some c) rest = Some c
or_else None rest = rest

cell_at-append : (xs ys : List Cell) (p : ℕ) → cell_at (xs ++ ys) p ≡ or_else (cell_at xs p) (cell_at ys p)
unfolding cell_at
cell_at-append [] ys p = refl
cell_at-append (c ∷ xs) ys p =
    elim (nat_eq c.position p) as (λ b. (if b then Some c else cell_at (xs ++ ys) p) ≡ or_else (if b then Some c else cell_at xs p) (cell_at ys p)) [
      | true ↦ refl
      | false ↦ cell_at-append xs ys p
    ]

-- ---- one cell more

cell_at-one_here : (c : Cell) (p : ℕ) → c.position ≡ p → cell_at (c ∷ []) p ≡ Some c
unfolding cell_at
cell_at-one_here c p e = rw (eq-eqb c.position p e) refl

cell_at-one_other : (c : Cell) (p : ℕ) → c.position ≢ p → cell_at (c ∷ []) p ≡ None
unfolding cell_at
cell_at-one_other c p ne = rw (ne_eqb c.position p ne) refl

or_else_none : (o : Option Cell) → or_else o None ≡ o
or_else_none (Some c) = refl
or_else_none None = refl

not_some : (o : Option Cell) → is_some o ≡ false → o ≡ None
not_some (Some c) e = absurd (cc)
not_some None e = refl

kept_some : (o rest : Option Cell) → is_some o ≡ true → or_else o rest ≡ o
kept_some (Some c) rest e = refl
kept_some None rest e = absurd (cc)

module _ (limit : ℕ) (table : List (Option Cell)) (filled : List Cell) (c : Cell) (held : IsTableOf limit table filled) (size : length table ≡ limit) where
  stays_taken : is_some (get_or table c.position None) ≡ true → IsTableOf limit table (filled ++ c ∷ [])
  stays_taken taken p h =
      elim (eqb_tells c.position p) [
        | inl same ↦
            let e : c.position ≡ p = same.1 in
            held p h
            ∙ sym (kept_some (cell_at filled p) (cell_at (c ∷ []) p) (ap is_some (sym (held p h)) ∙ ap (λ x. is_some (get_or table x None)) (sym e) ∙ taken))
            ∙ sym (cell_at-append filled (c ∷ []) p)
        | inr other ↦
            held p h
            ∙ sym (or_else_none (cell_at filled p))
            ∙ ap (or_else (cell_at filled p)) (sym (cell_at-one_other c p other.1))
            ∙ sym (cell_at-append filled (c ∷ []) p)
      ]

  takes : is_some (get_or table c.position None) ≡ false → IsTableOf limit (set table c.position (Some c)) (filled ++ c ∷ [])
  takes free p h =
      elim (eqb_tells c.position p) [
        | inl same ↦
            let e : c.position ≡ p = same.1 in
            let within : c.position < length table = omega arith in
            let none : cell_at filled p ≡ None = sym (held p h) ∙ ap (λ x. get_or table x None) (sym e) ∙ not_some (get_or table c.position None) free in
            ap (λ x. get_or (set table c.position (Some c)) x None) (sym e)
            ∙ get_or-set_same table c.position (Some c) None within
            ∙ sym (cell_at-one_here c p e)
            ∙ ap (λ o. or_else o (cell_at (c ∷ []) p)) (sym none)
            ∙ sym (cell_at-append filled (c ∷ []) p)
        | inr other ↦
            get_or-set_other table c.position p (Some c) None (λ e. other.1 (sym e))
            ∙ held p h
            ∙ sym (or_else_none (cell_at filled p))
            ∙ ap (or_else (cell_at filled p)) (sym (cell_at-one_other c p other.1))
            ∙ sym (cell_at-append filled (c ∷ []) p)
      ]

  table_with : IsTableOf limit (filled_with table c) (filled ++ c ∷ [])
  table_with =
      (elim (is_some (get_or table c.position None)) as (λ b. is_some (get_or table c.position None) ≡ b → IsTableOf limit (if b then table else set table c.position (Some c)) (filled ++ c ∷ [])) [
        | true ↦ λ e. stays_taken e
        | false ↦ λ e. takes e
      ]) refl

length-filled_with : (table : List (Option Cell)) (c : Cell) → length (filled_with table c) ≡ length table
length-filled_with table c =
    elim (is_some (get_or table c.position None)) as (λ b. length (if b then table else set table c.position (Some c)) ≡ length table) [
      | true ↦ refl
      | false ↦ length-set table c.position (Some c)
    ]

pub length-filled_table : (table : List (Option Cell)) (cells : List Cell) → length (filled_table table cells) ≡ length table
unfolding filled_table
length-filled_table table [] = refl
length-filled_table table (c ∷ cells) = length-filled_table (filled_with table c) cells ∙ length-filled_with table c

pub table_more : (limit : ℕ) (table : List (Option Cell)) (filled cells : List Cell) → IsTableOf limit table filled → length table ≡ limit → IsTableOf limit (filled_table table cells) (filled ++ cells)
unfolding filled_table
table_more limit table filled [] held size = λ p h. held p h ∙ ap (λ f. cell_at f p) (sym (append-nil filled))
table_more limit table filled (c ∷ cells) held size = λ p h.
    table_more limit (filled_with table c) (filled ++ c ∷ []) cells (table_with limit table filled c held size) (length-filled_with table c ∙ size) p h
    ∙ ap (λ f. cell_at f p) (append_assoc filled (c ∷ []) cells)

-- cells that are not in storage fill nothing there
none_beyond : (limit : ℕ) (rest : List Cell) (p : ℕ) → p < limit → All (λ c. limit ≤ c.position) rest → cell_at rest p ≡ None
unfolding cell_at
none_beyond limit [] p h beyond = refl
none_beyond limit (c ∷ rest) p h beyond =
    let here : limit ≤ c.position = beyond 0 c (omega arith) in
    rw (ne_eqb c.position p (λ e. absurd (omega arith))) (none_beyond limit rest p h (λ k d lt. beyond (suc k) d (omega arith)))

pub table_cut : (limit : ℕ) (table : List (Option Cell)) (filled cells built : List Cell) → IsTableOf limit table filled → length table ≡ limit → IsCut limit cells built → IsTableOf limit (filled_table table built) (filled ++ cells)
table_cut limit table filled cells built held size cut = λ p h.
    table_more limit table filled built held size p h
    ∙ sym (or_else_none (cell_at (filled ++ built) p))
    ∙ ap (or_else (cell_at (filled ++ built) p)) (sym (none_beyond limit cut.rest p h cut.beyond))
    ∙ sym (cell_at-append (filled ++ built) cut.rest p)
    ∙ ap (λ f. cell_at f p) (append_assoc filled built cut.rest ∙ ap (λ x. filled ++ x) (sym cut.all))

-- ---- what the code tests

is_filled_is : (filled : List Cell) (p : ℕ) → is_filled filled p ≡ is_some (cell_at filled p)
unfolding cell_at
is_filled_is [] p = refl
is_filled_is (c ∷ filled) p =
    elim (nat_eq c.position p) as (λ b. (b || is_filled filled p) ≡ is_some (if b then Some c else cell_at filled p)) [
      | true ↦ refl
      | false ↦ is_filled_is filled p
    ]

pub is_taken_is : (limit : ℕ) (table : List (Option Cell)) (filled cells : List Cell) → IsTableOf limit table filled → fills_outside limit cells ≡ false → is_taken table cells ≡ is_overlapping filled cells
is_taken_is limit table filled [] held inside = refl
is_taken_is limit table filled (c ∷ cells) held inside =
    let both : (nat_le limit c.position ≡ false) × (fills_outside limit cells ≡ false) = neither (nat_le limit c.position) (fills_outside limit cells) inside in
    let below : c.position < limit = leb-false limit c.position both.0 in
    ap (λ b. b || is_taken table cells) (ap is_some (held c.position below) ∙ sym (is_filled_is filled c.position))
    ∙ ap (λ b. is_filled filled c.position || b) (is_taken_is limit table filled cells held both.1)

-- ---- steps of the loops

pub filled_table-at : (table : List (Option Cell)) (cells : List Cell) (i : ℕ) (d : Cell) → i < length cells → filled_table table (drop i cells) ≡ filled_table (filled_with table (get_or cells i d)) (drop (i + 1) cells)
unfolding filled_table
filled_table-at table cells i d h = at_drop_more (filled_table table) cells i d h

pub filled_table-past : (table : List (Option Cell)) (cells : List Cell) (i : ℕ) → length cells ≤ i → filled_table table (drop i cells) ≡ table
unfolding filled_table
filled_table-past table cells i h = at_drop_all (filled_table table) cells i h

pub cells_in-none : (table : List (Option Cell)) (i : ℕ) (d : Option Cell) → i < length table → get_or table i d ≡ None → cells_in (drop i table) ≡ cells_in (drop (i + 1) table)
unfolding cells_in
cells_in-none table i d h e = at_drop_more cells_in table i d h ∙ ap (λ o. cons_some o (cells_in (drop (i + 1) table))) e

pub cells_in-some : (table : List (Option Cell)) (i : ℕ) (d : Option Cell) (c : Cell) → i < length table → get_or table i d ≡ Some c → cells_in (drop i table) ≡ c ∷ cells_in (drop (i + 1) table)
unfolding cells_in
cells_in-some table i d c h e = at_drop_more cells_in table i d h ∙ ap (λ o. cons_some o (cells_in (drop (i + 1) table))) e

pub cells_in-past : (table : List (Option Cell)) (i : ℕ) → length table ≤ i → cells_in (drop i table) ≡ []
unfolding cells_in
cells_in-past table i h = at_drop_all cells_in table i h

-- ---- the image

cells_in-at : (table : List (Option Cell)) (i : ℕ) (d : Option Cell) → i < length table → cells_in (drop i table) ≡ cons_some (get_or table i d) (cells_in (drop (i + 1) table))
unfolding cells_in
cells_in-at table i d h = at_drop_more cells_in table i d h

pub cells_in_is : (limit : ℕ) (table : List (Option Cell)) (filled : List Cell) (n p : ℕ) → IsTableOf limit table filled → length table ≡ limit → p + n ≡ limit → cells_in (drop p table) ≡ cells_from filled p n
unfolding cells_from
cells_in_is limit table filled zero p held size e = cells_in-past table p (omega arith)
cells_in_is limit table filled (suc n) p held size e =
    cells_in-at table p None (omega arith)
    ∙ ap (λ o. cons_some o (cells_in (drop (p + 1) table))) (held p (omega arith))
    ∙ ap (cons_some (cell_at filled p)) (cells_in_is limit table filled n (p + 1) held size (omega arith))

-- ---- the table at first

pub none_push : (table : List (Option Cell)) → ((k : ℕ) → get_or table k None ≡ None) → (k : ℕ) → get_or (table ++ None ∷ []) k None ≡ None
none_push [] none zero = refl
none_push [] none (suc k) = refl
none_push (entry ∷ table) none zero = none 0
none_push (entry ∷ table) none (suc k) = none_push table (λ j. none (suc j)) k

pub table_empty : (limit : ℕ) (table : List (Option Cell)) → ((k : ℕ) → get_or table k None ≡ None) → IsTableOf limit table []
unfolding cell_at
table_empty limit table none = λ p h. none p
