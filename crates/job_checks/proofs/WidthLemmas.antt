-- Each row of a table has as many columns as the table, all of them with values.
use Rattle.std.proofs.Common.{◌≡◌, ◌+◌, ℕ, zero, suc, List, [], ◌∷◌, map, drop, length, get_or, true, None, refl, sym, ap, subst, ◌∙◌, arith, true≢false}
use Rattle.std.proofs.lemmas.Bool.{and_parts}
use Rattle.std.proofs.lemmas.List.{get_or-drop}
use Rattle.std.specs.List.{AllByRecursion}
use Rattle.sqlite.specs.Order.{Row, column}
use Rattle.sqlite.specs.declared.types.Value.TheVariants.{Null}
use Rattle.sqlite_schema.specs.Rules.{are_present, are_typed}
use Rattle.sqlite_schema.specs.declared.schema.Column.{Column}
use Rattle.ledger_tables.specs.Tables.{cells}
use Rattle.ledger_tables.proofs.LookupKeys.{view}

-- each column always has a value
abbrev pub AreRequired : List Column → Type 0
AreRequired = AllByRecursion (λ c. c.not_null ≡ true)

-- so many numbers that rise by one from the first
abbrev pub upto : ℕ → ℕ → List ℕ
upto first zero = []
upto first (suc count) = first ∷ upto (first + 1) count

column_there : (row : Row) (at : ℕ) → column row at ≡ get_or (drop at row) 0 Null
column_there row at = let same : at + 0 ≡ at = omega arith in sym (get_or-drop at row 0 Null ∙ ap (column row) same)

drop_on : (row : Row) (at : ℕ) (v : _) (vs : Row) → v ∷ vs ≡ drop at row → vs ≡ drop (at + 1) row
drop_on row zero v vs is = ap (drop 1) is
drop_on [] (suc at) v vs is = absurd (let e = is in cc)
drop_on (x ∷ row) (suc at) v vs is = let same : suc at + 1 ≡ suc (at + 1) = omega arith in drop_on row at v vs is ∙ ap (λ n. drop n (x ∷ row)) (sym same)

-- a row whose columns are typed and present has as many as the table
long : (cs : List Column) (at : ℕ) (row r : Row) → r ≡ drop (at + 1) row → AreRequired cs → are_typed None at cs r ≡ true → are_present None at cs row ≡ true → length r ≡ length cs
long [] at row [] is required typed present = refl
long [] at row (v ∷ vs) is required typed present = absurd (true≢false (sym typed))
long (c ∷ cs) at row [] is required typed present =
    let none : column row (at + 1) ≡ Null = column_there row (at + 1) ∙ ap (λ xs. get_or xs 0 Null) (sym is) in
    absurd (let no = rw (none, required.0) at present in true≢false (sym no))
long (c ∷ cs) at row (v ∷ vs) is required typed present =
    ap suc (long cs (at + 1) row vs (drop_on row (at + 1) v vs is) required.1 (and_parts _ _ typed).1 (and_parts _ _ present).1)

view_from : (whole : Row) (first : ℕ) (r : Row) → r ≡ drop first whole → view (upto first (length r)) whole ≡ r
view_from whole first [] is = refl
view_from whole first (v ∷ vs) is =
    let here : column whole first ≡ v = column_there whole first ∙ ap (λ xs. get_or xs 0 Null) (sym is) in
    ap (λ x. x ∷ view (upto (first + 1) (length vs)) whole) here ∙ ap (λ xs. v ∷ xs) (view_from whole (first + 1) vs (drop_on whole first v vs is))

pub in_full : (cs : List Column) (rows : List Row) → AreRequired cs → AllByRecursion (λ row. are_typed None 0 cs (drop 1 row) ≡ true) rows → AllByRecursion (λ row. are_present None 0 cs row ≡ true) rows → map (view (upto 0 (length cs))) (cells rows) ≡ cells rows
in_full cs [] required typed present = refl
in_full cs (row ∷ rows) required typed present =
    let wide : length (drop 1 row) ≡ length cs = long cs 0 row (drop 1 row) refl required typed.0 present.0 in
    let all : view (upto 0 (length cs)) (drop 1 row) ≡ drop 1 row = subst (λ n. view (upto 0 n) (drop 1 row) ≡ drop 1 row) wide (view_from (drop 1 row) 0 (drop 1 row) refl) in
    ap (λ x. x ∷ map (view (upto 0 (length cs))) (cells rows)) all ∙ ap (λ xs. drop 1 row ∷ xs) (in_full cs rows required typed.1 present.1)
