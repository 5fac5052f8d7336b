-- punched cards that are read with the rows of their pockets
use Rattle.std.proofs.Common.{◌≡◌, ◌≢◌, ◌⊎◌, inl, inr, ℕ, zero, suc, ◌+◌, ◌-◌, ◌<◌, ◌≤◌, ◌==◌, Bool, true, false, if◌then◌else◌, List, [], ◌∷◌, ◌++◌, length, map, set, take, get_or, All, Contains, Option, Some, None, refl, sym, ◌∙◌, ap, subst, arith}
use Rattle.std.specs.List.{AllByRecursion}
use Rattle.std.specs.Prelude.{IfSome, IsSome}
use Rattle.std.proofs.lemmas.Bool.{cases_Bool}
use Rattle.std.proofs.lemmas.Bool.Decides.{nat_tests}
use Rattle.std.proofs.lemmas.List.{ext_get_or, get_or-map, length-map, take-append-le, take_all}
use Rattle.std.proofs.lemmas.List.Elements.{All-more, recursion_from_All}
use Rattle.std.proofs.lemmas.List.Sums.{fold_more}
use Rattle.cards.specs.Decks.{IsCard}
use Rattle.cards.specs.declared.decks.Card.{Card}
use Rattle.units.specs.declared.pockets.Pocket.{Pocket}
use Rattle.units.specs.declared.pockets.Pocket.TheVariants.{Normal, Four, Eight}
use Rattle.units.specs.declared.punch.Punched.{Punched}
use Rattle.ledger_tables.specs.Named.{ArePockets}
use Rattle.ledger_tables.specs.declared.rows.PocketRow.{PocketRow}
use Rattle.ledger_rows.specs.Pockets.{in_normal, named_pocket, pocket_cell, pocket_rows_from, pocket_rows_of, put_behind, punched_bytes, with_pocket, with_pockets, ArePunched, IsPocketOf, IsPunched}

-- a card without columns, which stands where there is no card
abbrev none : Punched
none = record { card = record { 0 = [] }; pocket = Normal }

-- ---- one card put into a pocket

pub set_is_put : (cards : List Punched) (i : ℕ) (pocket : Pocket) (d : Punched) → i < length cards → set cards i (record (get_or cards i d) { pocket = pocket }) ≡ put_behind i pocket cards
set_is_put [] i pocket d less = absurd (omega (arith, less))
set_is_put (c ∷ cards) zero pocket d less = refl
set_is_put (c ∷ cards) (suc i) pocket d less = ap (λ (xs : List Punched). c ∷ xs) (set_is_put cards i pocket d (omega (arith, less)))

pub put_long : (i : ℕ) (pocket : Pocket) (cards : List Punched) → length (put_behind i pocket cards) ≡ length cards
put_long i pocket [] = refl
put_long zero pocket (c ∷ cards) = refl
put_long (suc i) pocket (c ∷ cards) = ap suc (put_long i pocket cards)

put_here : (i : ℕ) (pocket : Pocket) (cards : List Punched) → i < length cards → get_or (put_behind i pocket cards) i none ≡ record (get_or cards i none) { pocket = pocket }
put_here i pocket [] less = absurd (omega (arith, less))
put_here zero pocket (c ∷ cards) less = refl
put_here (suc i) pocket (c ∷ cards) less = put_here i pocket cards (omega (arith, less))

put_elsewhere : (i j : ℕ) (pocket : Pocket) (cards : List Punched) → i ≢ j → get_or (put_behind i pocket cards) j none ≡ get_or cards j none
put_elsewhere i j pocket [] other = refl
put_elsewhere zero zero pocket (c ∷ cards) other = absurd (other refl)
put_elsewhere zero (suc j) pocket (c ∷ cards) other = refl
put_elsewhere (suc i) zero pocket (c ∷ cards) other = refl
put_elsewhere (suc i) (suc j) pocket (c ∷ cards) other = put_elsewhere i j pocket cards (λ same. other (ap suc same))

-- ---- the rows of pockets

-- the row of a card's place tells its pocket
row_there : (first : ℕ) (cards : List Punched) (i : ℕ) → i < length cards → pocket_rows_from first cards (first + i) ≡ pocket_cell (get_or cards i none).pocket
row_there first [] i less = absurd (omega (arith, less))
row_there first (c ∷ cards) zero less = go (first == first + zero) refl
  where
    go : (b : Bool) → first == first + zero ≡ b → (if b then pocket_cell c.pocket else pocket_rows_from (first + 1) cards (first + zero)) ≡ pocket_cell c.pocket
    go true same = refl
    go false other = absurd (grind (arith, nat_tests))
row_there first (c ∷ cards) (suc i) less = go (row_there (first + 1) cards i (omega (arith, less))) (first == first + suc i) refl
  where
    on : first + 1 + i ≡ first + suc i
    on = omega arith

    go : pocket_rows_from (first + 1) cards (first + 1 + i) ≡ pocket_cell (get_or cards i none).pocket → (b : Bool) → first == first + suc i ≡ b
        → (if b then pocket_cell c.pocket else pocket_rows_from (first + 1) cards (first + suc i)) ≡ pocket_cell (get_or cards i none).pocket
    go rest true same = absurd (grind (arith, nat_tests))
    go rest false other = ap (pocket_rows_from (first + 1) cards) (sym on) ∙ rest

-- a row has the place of a card
row_within : (first : ℕ) (cards : List Punched) (place number : ℕ) → pocket_rows_from first cards place ≡ Some number → (first ≤ place) × (place < first + length cards)
row_within first [] place number is = absurd (let no = is in cc)
row_within first (c ∷ cards) place number is = go (row_within (first + 1) cards place number) (first == place) refl is
  where
    go : (pocket_rows_from (first + 1) cards place ≡ Some number → (first + 1 ≤ place) × (place < first + 1 + length cards))
        → (b : Bool) → first == place ≡ b → (if b then pocket_cell c.pocket else pocket_rows_from (first + 1) cards place) ≡ Some number → (first ≤ place) × (place < first + length (c ∷ cards))
    go more true same h = (grind (arith, nat_tests), grind (arith, nat_tests))
    go more false other h = let rest = more h in (omega (arith, rest.0), omega (arith, rest.1))

named_so : (pocket : Pocket) (number : ℕ) → pocket_cell pocket ≡ Some number → (named_pocket number ≡ pocket) × ((number ≡ 4) ⊎ (number ≡ 8))
named_so Normal number is = absurd (let no = is in cc)
named_so Four number is = let four : 4 ≡ number = cc in (subst (λ n. named_pocket n ≡ Four) four refl, inl (sym four))
named_so Eight number is = let eight : 8 ≡ number = cc in (subst (λ n. named_pocket n ≡ Eight) eight refl, inr (sym eight))

normal_so : (pocket : Pocket) → pocket_cell pocket ≡ None → pocket ≡ Normal
normal_so Normal is = refl
normal_so Four is = absurd (let no = is in cc)
normal_so Eight is = absurd (let no = is in cc)

same_or_other : (j k : ℕ) → (j ≡ k) ⊎ (j ≢ k)
same_or_other j k = elim (cases_Bool (j == k)) [
  | inl yes_it ↦ inl (grind (arith, nat_tests))
  | inr not_it ↦ inr (λ same. absurd (grind (arith, nat_tests)))
]

-- ---- all rows

module _ (punched : List Punched) where
  -- a row of a pocket of these cards
  abbrev IsRow : PocketRow → Type 0
  IsRow row = pocket_rows_of punched row.place ≡ Some row.pocket

  abbrev right : ℕ → Punched
  right j = get_or punched j none

  within : (row : PocketRow) → IsRow row → (1 ≤ row.place) × (row.place < 1 + length punched)
  within row is = row_within 1 punched row.place row.pocket is

  -- the row's number is that of the card's pocket
  told : (row : PocketRow) → IsRow row → pocket_cell (right (row.place - 1)).pocket ≡ Some row.pocket
  told row is =
      let at = within row is in
      let on : 1 + (row.place - 1) ≡ row.place = omega (arith, at.0) in
      sym (row_there 1 punched (row.place - 1) (omega (arith, at.0, at.1))) ∙ ap (pocket_rows_of punched) on ∙ is

  pub is_pocket : (row : PocketRow) → IsRow row → IsPocketOf (length punched) row
  is_pocket row is =
      let at = within row is in
      record { first = at.0; last = omega (arith, at.1); pocket = (named_so (right (row.place - 1)).pocket row.pocket (told row is)).1 }

  pub all_pockets : (rows : List PocketRow) (count : ℕ) → count ≡ length punched → ArePockets rows (pocket_rows_of punched) → All (IsPocketOf count) rows
  all_pockets rows count many are = subst (λ n. All (IsPocketOf n) rows) (sym many) (λ k d less. is_pocket (get_or rows k d) (are.only k d less))

  abbrev HasCard : List Punched → ℕ → Type 0
  HasCard u j = (get_or u j none).card ≡ (right j).card

  -- the card at the row's place comes into its pocket
  here : (u : List Punched) (row : PocketRow) (j : ℕ) → length u ≡ length punched → IsRow row → row.place - 1 ≡ j → HasCard u j → get_or (with_pocket u row) j none ≡ right j
  here u row j long is at card =
      let place = within row is in
      let less : row.place - 1 < length u = omega (arith, place.0, place.1, long) in
      let named : named_pocket row.pocket ≡ (right j).pocket = (named_so (right (row.place - 1)).pocket row.pocket (told row is)).0 ∙ ap (λ n. (right n).pocket) at in
      ap (λ n. get_or (with_pocket u row) n none) (sym at) ∙ put_here (row.place - 1) (named_pocket row.pocket) u less
      ∙ ap (λ n. let c : Punched = record (get_or u n none) { pocket = named_pocket row.pocket } in c) at
      ∙ ap (λ p. let c : Punched = record (get_or u j none) { pocket = p } in c) named
      ∙ ap (λ k. let c : Punched = record { card = k; pocket = (right j).pocket } in c) card

  card_stays : (u : List Punched) (row : PocketRow) (j : ℕ) → length u ≡ length punched → IsRow row → HasCard u j → HasCard (with_pocket u row) j
  card_stays u row j long is card = elim (same_or_other (row.place - 1) j) [
    | inl at ↦ ap (λ (c : Punched). c.card) (here u row j long is at card)
    | inr other ↦ ap (λ (c : Punched). c.card) (put_elsewhere (row.place - 1) j (named_pocket row.pocket) u other) ∙ card
  ]

  long_after : (u : List Punched) (row : PocketRow) → length u ≡ length punched → length (with_pocket u row) ≡ length punched
  long_after u row long = put_long (row.place - 1) (named_pocket row.pocket) u ∙ long

  all_long : (rows : List PocketRow) (u : List Punched) → length u ≡ length punched → length (with_pockets u rows) ≡ length punched
  all_long [] u long = long
  all_long (row ∷ rows) u long = all_long rows (with_pocket u row) (long_after u row long)

  stays_right : (rows : List PocketRow) (u : List Punched) (j : ℕ) → length u ≡ length punched → AllByRecursion IsRow rows → get_or u j none ≡ right j → get_or (with_pockets u rows) j none ≡ right j
  stays_right [] u j long all same = same
  stays_right (row ∷ rows) u j long all same = elim (same_or_other (row.place - 1) j) [
    | inl at ↦ stays_right rows (with_pocket u row) j (long_after u row long) all.1 (here u row j long all.0 at (ap (λ (c : Punched). c.card) same))
    | inr other ↦ stays_right rows (with_pocket u row) j (long_after u row long) all.1 (put_elsewhere (row.place - 1) j (named_pocket row.pocket) u other ∙ same)
  ]

  is_put : (rows : List PocketRow) (row : PocketRow) (u : List Punched) (j : ℕ) → length u ≡ length punched → AllByRecursion IsRow rows → HasCard u j → Contains rows row → row.place - 1 ≡ j → get_or (with_pockets u rows) j none ≡ right j
  is_put [] row u j long all card (i, less, is) at = absurd (omega (arith, less))
  is_put (first ∷ rows) row u j long all card (zero, less, is) at =
      let same : first.place - 1 ≡ j = ap (λ (r : PocketRow). r.place - 1) is ∙ at in
      stays_right rows (with_pocket u first) j (long_after u first long) all.1 (here u first j long all.0 same card)
  is_put (first ∷ rows) row u j long all card (suc i, less, is) at =
      is_put rows row (with_pocket u first) j (long_after u first long) all.1 (card_stays u first j long all.0 card) (i, omega (arith, less), is) at

  not_put : (rows : List PocketRow) (u : List Punched) (j : ℕ) → AllByRecursion (λ row. row.place - 1 ≢ j) rows → get_or (with_pockets u rows) j none ≡ get_or u j none
  not_put [] u j others = refl
  not_put (row ∷ rows) u j others = not_put rows (with_pocket u row) j others.1 ∙ put_elsewhere (row.place - 1) j (named_pocket row.pocket) u others.0

  none_has : (rows : List PocketRow) (j : ℕ) → AllByRecursion IsRow rows → pocket_rows_of punched (1 + j) ≡ None → AllByRecursion (λ row. row.place - 1 ≢ j) rows
  none_has [] j all missing = tt
  none_has (row ∷ rows) j all missing = (
    λ at. (
        let place = within row all.0 in
        let on : 1 + j ≡ row.place = omega (arith, at, place.0) in
        let a : pocket_rows_of punched row.place ≡ None = subst (λ n. pocket_rows_of punched n ≡ None) on missing in
        let b = all.0 in
        absurd (cc)
        ),
    none_has rows j all.1 missing,
  )

  -- the cards, all in the normal pocket, with those of the rows put into theirs are these cards
  pub pockets_are_all : (rows : List PocketRow) → ArePockets rows (pocket_rows_of punched) → with_pockets (map in_normal punched) rows ≡ punched
  pockets_are_all rows are =
      let all : AllByRecursion IsRow rows = recursion_from_All IsRow rows are.only in
      let base : List Punched = map in_normal punched in
      let base_long : length base ≡ length punched = length-map punched in_normal in
      ext_get_or none (with_pockets base rows) punched (all_long rows base base_long) (λ j less.
      let inside : j < length punched = omega (arith, less, all_long rows base base_long) in
      let put : get_or base j none ≡ in_normal (right j) = get_or-map in_normal punched j none none inside in
      at_each j all inside put base_long (pocket_cell (right j).pocket) refl)
    where
      at_each : (j : ℕ) → AllByRecursion IsRow rows → j < length punched → get_or (map in_normal punched) j none ≡ in_normal (right j) → length (map in_normal punched) ≡ length punched
          → (o : Option ℕ) → pocket_cell (right j).pocket ≡ o → get_or (with_pockets (map in_normal punched) rows) j none ≡ right j
      at_each j all inside put base_long (Some number) is =
          let row : PocketRow = record { place = 1 + j; pocket = number } in
          is_put rows row (map in_normal punched) j base_long all (ap (λ (c : Punched). c.card) put) (are.all (1 + j) number (row_there 1 punched j inside ∙ is)) (omega arith)
      at_each j all inside put base_long None is =
          not_put rows (map in_normal punched) j (none_has rows j all (row_there 1 punched j inside ∙ is)) ∙ put
          ∙ ap (λ p. let c : Punched = record (right j) { pocket = p } in c) (sym (normal_so (right j).pocket is))

-- ---- rows that are put in turn

pub one_pocket_more : (s u : List Punched) (rows : List PocketRow) (i : ℕ) (row d : PocketRow) → i < length rows → row ≡ get_or rows i d → u ≡ with_pockets s (take i rows) → with_pocket u row ≡ with_pockets s (take (i + 1) rows)
one_pocket_more s u rows i row d within row_is is =
    ap (λ x. with_pocket x row) is ∙ ap (with_pocket (with_pockets s (take i rows))) row_is ∙ sym (fold_more with_pocket s rows i d within)

abbrev pub no_row : PocketRow
no_row = record { place = 0; pocket = 0 }

pub one_row : (s u next : List Punched) (rows : List PocketRow) (i : ℕ) (row : PocketRow) → i < length rows → row ≡ get_or rows i no_row → u ≡ with_pockets s (take i rows) → All (IsPocketOf (length s)) (take i rows) → length u ≡ length s
    → next ≡ with_pocket u row → IsPocketOf (length u) row → (next ≡ with_pockets s (take (i + 1) rows)) × All (IsPocketOf (length s)) (take (i + 1) rows)
one_row s u next rows i row within row_is put are size did is = (
  did ∙ one_pocket_more s u rows i row no_row within row_is put,
  All-more (IsPocketOf (length s)) rows i no_row within are (subst (IsPocketOf (length s)) row_is (subst (λ n. IsPocketOf n row) size is)),
)

-- cards that were read, in their pockets
pub normal_held : (punched : List Punched) → All IsPunched punched → All (λ c. IsCard c.card × (c.pocket ≡ Normal)) (map in_normal punched)
normal_held punched held k d less =
    let within : k < length punched = omega (arith, less, length-map punched in_normal) in
    let is : get_or (map in_normal punched) k d ≡ in_normal (get_or punched k none) = get_or-map in_normal punched k none d within in
    subst (λ (c : Punched). IsCard c.card × (c.pocket ≡ Normal)) (sym is) (held k none within, refl)

pub normal_bytes : (punched : List Punched) → map punched_bytes (map in_normal punched) ≡ map punched_bytes punched
normal_bytes [] = refl
normal_bytes (c ∷ punched) = ap (λ xs. c.card.0 ∷ xs) (normal_bytes punched)

-- what was read is told by its rows
put_same_bytes : (i : ℕ) (pocket : Pocket) (cards : List Punched) → map punched_bytes (put_behind i pocket cards) ≡ map punched_bytes cards
put_same_bytes i pocket [] = refl
put_same_bytes zero pocket (c ∷ cards) = refl
put_same_bytes (suc i) pocket (c ∷ cards) = ap (λ xs. c.card.0 ∷ xs) (put_same_bytes i pocket cards)

put_same_normal : (i : ℕ) (pocket : Pocket) (cards : List Punched) → map in_normal (put_behind i pocket cards) ≡ map in_normal cards
put_same_normal i pocket [] = refl
put_same_normal zero pocket (c ∷ cards) = refl
put_same_normal (suc i) pocket (c ∷ cards) = ap (λ (xs : List Punched). in_normal c ∷ xs) (put_same_normal i pocket cards)

all_same_bytes : (rows : List PocketRow) (cards : List Punched) → map punched_bytes (with_pockets cards rows) ≡ map punched_bytes cards
all_same_bytes [] cards = refl
all_same_bytes (row ∷ rows) cards = all_same_bytes rows (with_pocket cards row) ∙ put_same_bytes (row.place - 1) (named_pocket row.pocket) cards

all_same_normal : (rows : List PocketRow) (cards : List Punched) → map in_normal (with_pockets cards rows) ≡ map in_normal cards
all_same_normal [] cards = refl
all_same_normal (row ∷ rows) cards = all_same_normal rows (with_pocket cards row) ∙ put_same_normal (row.place - 1) (named_pocket row.pocket) cards

already_normal : (cards : List Punched) → All (λ c. IsCard c.card × (c.pocket ≡ Normal)) cards → map in_normal cards ≡ cards
already_normal cards held = ext_get_or none (map in_normal cards) cards (length-map cards in_normal) (λ k less.
    let within : k < length cards = omega (arith, less, length-map cards in_normal) in
    get_or-map in_normal cards k none none within ∙ ap (λ p. let c : Punched = record (get_or cards k none) { pocket = p } in c) (sym (held k none within).1))

by_bytes : (cards made : List Punched) → map punched_bytes made ≡ map punched_bytes cards → All (λ c. IsCard c.card × (c.pocket ≡ Normal)) cards → All IsPunched made
by_bytes cards made same held k d less =
    let many : length made ≡ length cards = sym (length-map made punched_bytes) ∙ ap length same ∙ length-map cards punched_bytes in
    let within : k < length cards = omega (arith, less, many) in
    let bytes : (get_or made k d).card.0 ≡ (get_or cards k none).card.0 = sym (get_or-map punched_bytes made k d [] less) ∙ ap (λ xs. get_or xs k []) same ∙ get_or-map punched_bytes cards k none [] within in
    subst IsCard (ap (λ bs. let card : Card = record { 0 = bs } in card) (sym bytes)) (held k none within).0

pub are_punched : (bytes : List (List ℕ)) (rows : List PocketRow) (cards made : List Punched) → map punched_bytes cards ≡ bytes → All (λ c. IsCard c.card × (c.pocket ≡ Normal)) cards → length made ≡ length cards → All (IsPocketOf (length cards)) rows → made ≡ with_pockets cards rows
    → ArePunched bytes rows made
are_punched bytes rows cards made is held many are put =
    let same : map punched_bytes made ≡ map punched_bytes cards = ap (map punched_bytes) put ∙ all_same_bytes rows cards in
    let normal : map in_normal made ≡ cards = ap (map in_normal) put ∙ all_same_normal rows cards ∙ already_normal cards held in
    record {
      bytes = same ∙ is;
      held = by_bytes cards made same held;
      are_pockets = subst (λ n. All (IsPocketOf n) rows) (sym many) are;
      pockets = put ∙ ap (λ (xs : List Punched). with_pockets xs rows) (sym normal);
    }

-- what was lent of a list and given back
pub given_back : (new rest : List Punched) (n : ℕ) → n ≡ length new → take n (new ++ rest) ≡ new
given_back new rest n is = take-append-le n new rest (omega (arith, is)) ∙ take_all n new (omega (arith, is))

pub not_none : {X : Type 0} (o : Option X) → IsSome o → ((x : X) → o ≡ Some x → ⊥) → ⊥
not_none None some not = absurd (let no = some in cc)
not_none (Some x) some not = not x refl

pub at_some : {X : Type 0} (P : X → Type 0) (o : Option X) (x : X) → o ≡ Some x → IfSome o P → P x
at_some P o x is h = subst (λ q. IfSome q P) is h
