-- the tables of the forms
use Rattle.std.proofs.Common.{◌≡◌, ℕ, zero, suc, ◌/◌, ◌%◌, ◌^◌, ◌<◌, ◌≤◌, ◌≢◌, ◌==◌, ◌&&◌, ◌||◌, not, Bool, true, false, List, [], ◌∷◌, Option, Some, None, refl, sym, ap, ◌∙◌, arith, if◌then◌else◌, get_or, is_some, leb, ltb}
use Rattle.std.specs.Option.{option_map, option_and_then}
use Rattle.std.proofs.lemmas.Bool.{eqb-true, leb-true, ltb-true, ne_eqb, eq-eqb, lt-ltb, le-ltb}
use Rattle.bcd.specs.Table.{glyph_of}
use Rattle.std.proofs.Math.Decide.{dec_lt}
use Rattle.bcd.proofs.Tables.{at_each}
use Rattle.units.specs.Carriages.{order_of}
use Rattle.units.specs.Pockets.{pocket_of}
use Rattle.machine.specs.declared.forms.TheConstants.{FORMS, CONDITIONS, TESTS, ORDERS, POCKETS}
use Rattle.machine.specs.declared.named.Modifier.TheVariants.{OnCondition, OnTest, ByOrder, ToPocket}
use Rattle.machine.specs.Branches.{condition_of, test_of}
use Rattle.machine.specs.Instructions.{addresses_by, is_form, is_last}
use Rattle.machine.specs.Operations.{Last, says_nothing, names_condition, is_compared, names_test, names_order, names_pocket, Form, Row, operations, row_among, row_of, form_among, form_of, meant}

-- ---- two truths are the same

abbrev pub same : Bool → Bool → Bool
same true b = b
same false b = not b

pub same_is : (a b : Bool) → same a b ≡ true → a ≡ b
same_is true true h = refl
same_is true false h = absurd (cc)
same_is false true h = absurd (cc)
same_is false false h = refl

both : (a b : Bool) → (a && b) ≡ true → (a ≡ true) × (b ≡ true)
both true b h = (refl, h)
both false b h = absurd (cc)

-- ---- a rule of each form in the table, by computation

-- whether a last character is looked for at the second address
abbrev pub looks : Last → Bool
looks says_nothing = false
looks names_condition = false
looks is_compared = true
looks names_test = true
looks names_order = false
looks names_pocket = false

-- a form has at most eight characters, and a second address where one is looked at
abbrev is_sound : Form → Bool
is_sound form = leb form.length 8 && (not (looks form.last) || ltb 1 form.addresses)

abbrev are_sound : List Form → Bool
are_sound [] = true
are_sound (form ∷ forms) = is_sound form && are_sound forms

abbrev have_sound : List Row → Bool
have_sound [] = true
have_sound (row ∷ rows) = are_sound row.forms && have_sound rows

-- what is found among the forms is one of them, and has the length that is looked for
found_form : (forms : List Form) (count : ℕ) (form : Form) → are_sound forms ≡ true → form_among forms count ≡ Some form → (is_sound form ≡ true) × (count ≡ form.length)
found_form [] count form all found = absurd (cc)
found_form (first ∷ rest) count form all found = go (count == first.length) refl (found_form rest count form (both (is_sound first) _ all).1) found
  where
    go : (b : Bool) → (count == first.length) ≡ b → (form_among rest count ≡ Some form → (is_sound form ≡ true) × (count ≡ form.length)) →
        (if b then Some first else form_among rest count) ≡ Some form → (is_sound form ≡ true) × (count ≡ form.length)
    go true e later found =
        let it : first ≡ form = cc in
        (ap is_sound (sym it) ∙ (both _ _ all).0, eqb-true count first.length e ∙ ap (λ (f : Form). f.length) it)
    go false e later found = later found

found_row : (rows : List Row) (code : ℕ) (row : Row) → have_sound rows ≡ true → row_among rows code ≡ Some row → are_sound row.forms ≡ true
found_row [] code row all found = absurd (cc)
found_row (first ∷ rest) code row all found = go _ (found_row rest code row (both (are_sound first.forms) _ all).1) found
  where
    go : (b : Bool) → (row_among rest code ≡ Some row → are_sound row.forms ≡ true) → (if b then Some first else row_among rest code) ≡ Some row → are_sound row.forms ≡ true
    go true later found = let it : first ≡ row = cc in ap (λ (r : Row). are_sound r.forms) (sym it) ∙ (both _ _ all).0
    go false later found = later found

sound_row : (code : ℕ) (row : Row) → row_of code ≡ Some row → are_sound row.forms ≡ true
unfolding row_of operations
sound_row code row found = found_row operations code row refl found

-- the row and the form of an instruction
pub record IsFormed (first count : ℕ) : Type 0 where
  pub row : Row
  pub form : Form
  pub named : row_of first ≡ Some row
  pub formed : form_among row.forms count ≡ Some form

pub formed : (first count : ℕ) → is_form first count ≡ true → IsFormed first count
unfolding is_form
formed first count h = by_row (row_of first) refl h
  where
    by_form : (row : Row) → row_of first ≡ Some row → (found : Option Form) → form_among row.forms count ≡ found → is_some found ≡ true → IsFormed first count
    by_form row named (Some form) e h = record { row = row; form = form; named = named; formed = e }
    by_form row named None e h = absurd (cc)

    by_row : (found : Option Row) → row_of first ≡ found → is_some (option_and_then (λ row. form_among row.forms count) found) ≡ true → IsFormed first count
    by_row (Some row) e h = by_form row e (form_among row.forms count) refl h
    by_row None e h = absurd (cc)

module _ (first count : ℕ) (f : IsFormed first count) where
  pub form_is : form_of first count ≡ Some f.form
  form_is = rw f.named f.formed

  of_table : (is_sound f.form ≡ true) × (count ≡ f.form.length)
  of_table = found_form f.row.forms count f.form (sound_row first f.row f.named) f.formed

  pub looks_at : looks f.form.last ≡ true → 1 < f.form.addresses
  looks_at h =
      let rule : (not (looks f.form.last) || ltb 1 f.form.addresses) ≡ true = (both _ _ of_table.0).1 in
      let more : ltb 1 f.form.addresses ≡ true = rw h at rule in
      ltb-true _ _ more

  pub is_short : count ≤ 8
  is_short = let few : f.form.length ≤ 8 = leb-true _ _ (both _ _ of_table.0).0 in omega (arith, of_table.1)

-- ---- the test holds of each number below n

abbrev pub each_below : (ℕ → Bool) → ℕ → Bool
each_below test zero = true
each_below test (suc n) = test n && each_below test n

pub at_one : (test : ℕ → Bool) (n : ℕ) → each_below test n ≡ true → (k : ℕ) → k < n → test k ≡ true
at_one test zero all k h = absurd (omega arith)
at_one test (suc n) all k h = let parts = both (test n) (each_below test n) all in
    elim (dec_lt k n) [ yes low ↦ at_one test n parts.1 k low | no high ↦ let same : k ≡ n = omega arith in rw same parts.0 ]

-- ---- the code's table of forms beside the table of operations, by computation

abbrev pub bit : ℕ → ℕ → Bool
bit set place = set / 2 ^ place % 2 == 1

-- what a last character says, as a number
abbrev number_of : Last → ℕ
number_of says_nothing = 0
number_of names_condition = 1
number_of is_compared = 2
number_of names_test = 3
number_of names_order = 4
number_of names_pocket = 5

-- what the code takes a last character to say
abbrev sort_of : ℕ → ℕ → ℕ
sort_of first count =
    if first == 37 then 0
    else (if bit 146 count then 0
    else (if count == 5 then 1 else (if count == 2 then (if first == 34 then 5 else 4) else (if first == 21 then 3 else 2))))

-- how many addresses the code reads
abbrev read_by : ℕ → ℕ → ℕ
read_by first count =
    if first == 37 then 0 else (if ltb count 4 then 0 else (if ltb count 7 then 1 else 2))

-- whether the code takes a form as the table gives it
abbrev agrees : Bool → ℕ → ℕ → Option Form → Bool
agrees has first count None = not has
agrees has first count (Some form) = has && (number_of form.last == sort_of first count && form.addresses == read_by first count)

abbrev all_agree : ℕ → ℕ → Option Row → Bool
all_agree lengths first found = each_below (λ count. agrees (bit lengths count) first count (option_and_then (λ row. form_among row.forms count) found)) 9

agrees_at : (first count : ℕ) → first < 64 → count ≤ 8 → agrees (bit (get_or FORMS first 0) count) first count (form_of first count) ≡ true
unfolding row_of operations glyph_of
agrees_at first count low short =
    at_one (λ k. agrees (bit (get_or FORMS first 0) k) first k (form_of first k)) 9
    (at_each (λ n. all_agree (get_or FORMS n 0) n (row_of n)) 64 refl first low) count (omega arith)

has_form : (has : Bool) (first count : ℕ) (found : Option Form) → agrees has first count found ≡ true → has ≡ is_some found
has_form true first count None h = absurd (cc)
has_form false first count None h = refl
has_form has first count (Some form) h = (both has _ h).0

pub form_at : (first count : ℕ) → first < 64 → count ≤ 8 → bit (get_or FORMS first 0) count ≡ is_form first count
unfolding is_form
form_at first count low short = has_form _ first count (form_of first count) (agrees_at first count low short)

taken_as : (has : Bool) (first count : ℕ) (form : Form) → agrees has first count (Some form) ≡ true → (number_of form.last ≡ sort_of first count) × (form.addresses ≡ read_by first count)
taken_as has first count form h =
    let rules = both _ _ (both has _ h).1 in (eqb-true _ _ rules.0, eqb-true _ _ rules.1)

-- ---- the last characters

some_map : {S T : Type 0} (f : S → T) (found : Option S) → is_some (option_map f found) ≡ is_some found
some_map f (Some x) = refl
some_map f None = refl

-- what is allowed as the last character, by what it says
abbrev allowed : ℕ → ℕ → Bool
allowed sort last =
    if sort == 1 then is_some (condition_of last) else (if sort == 3 then is_some (test_of last) else (if sort == 4 then is_some (order_of last) else (if sort == 5 then is_some (pocket_of last) else true)))

is_allowed : (says : Last) (last : ℕ) → is_some (meant says last) ≡ allowed (number_of says) last
is_allowed says_nothing last = refl
is_allowed names_condition last = some_map (λ condition. OnCondition condition) (condition_of last)
is_allowed is_compared last = refl
is_allowed names_test last = some_map (λ test. OnTest test) (test_of last)
is_allowed names_order last = some_map (λ order. ByOrder order) (order_of last)
is_allowed names_pocket last = some_map (λ pocket. ToPocket pocket) (pocket_of last)

module _ (first count last : ℕ) (low : first < 64) (short : count ≤ 8) (form : is_form first count ≡ true) where
  last_at : is_last first count last ≡ allowed (sort_of first count) last
  unfolding is_last
  last_at =
      let f = formed first count form in
      let here = taken_as _ first count f.form (ap (agrees (bit (get_or FORMS first 0) count) first count) (sym (form_is first count f)) ∙ agrees_at first count low short) in
      ap (λ found. is_some (option_and_then (λ (x : Form). meant x.last last) found)) (form_is first count f)
      ∙ is_allowed f.form.last last ∙ ap (λ sort. allowed sort last) here.0

  pub no_operation_last : first ≡ 37 → true ≡ is_last first count last
  no_operation_last none = sym (last_at ∙ rw (eq-eqb first 37 none) refl)

  pub free_last : first ≢ 37 → 146 / 2 ^ count % 2 ≡ 1 → true ≡ is_last first count last
  free_last some free = sym (last_at ∙ rw (ne_eqb first 37 some, eq-eqb (146 / 2 ^ count % 2) 1 free) refl)

  pub condition_last : first ≢ 37 → 146 / 2 ^ count % 2 ≢ 1 → count ≡ 5 → is_some (condition_of last) ≡ is_last first count last
  condition_last some bound five = sym (last_at ∙ rw (ne_eqb first 37 some, ne_eqb (146 / 2 ^ count % 2) 1 bound, eq-eqb count 5 five) refl)

  pub pocket_last : first ≢ 37 → 146 / 2 ^ count % 2 ≢ 1 → count ≢ 5 → count ≡ 2 → first ≡ 34 → is_some (pocket_of last) ≡ is_last first count last
  pocket_last some bound not_five pair on_pocket =
      sym (last_at ∙ rw (ne_eqb first 37 some, ne_eqb (146 / 2 ^ count % 2) 1 bound, ne_eqb count 5 not_five, eq-eqb count 2 pair, eq-eqb first 34 on_pocket) refl)

  pub order_last : first ≢ 37 → 146 / 2 ^ count % 2 ≢ 1 → count ≢ 5 → count ≡ 2 → first ≢ 34 → is_some (order_of last) ≡ is_last first count last
  order_last some bound not_five pair no_pocket =
      sym (last_at ∙ rw (ne_eqb first 37 some, ne_eqb (146 / 2 ^ count % 2) 1 bound, ne_eqb count 5 not_five, eq-eqb count 2 pair, ne_eqb first 34 no_pocket) refl)

  pub test_last : first ≢ 37 → 146 / 2 ^ count % 2 ≢ 1 → count ≢ 5 → count ≢ 2 → first ≡ 21 → is_some (test_of last) ≡ is_last first count last
  test_last some bound not_five not_two on_test =
      sym (last_at ∙ rw (ne_eqb first 37 some, ne_eqb (146 / 2 ^ count % 2) 1 bound, ne_eqb count 5 not_five, ne_eqb count 2 not_two, eq-eqb first 21 on_test) refl)

  pub character_last : first ≢ 37 → 146 / 2 ^ count % 2 ≢ 1 → count ≢ 5 → count ≢ 2 → first ≢ 21 → true ≡ is_last first count last
  character_last some bound not_five not_two no_test =
      sym (last_at ∙ rw (ne_eqb first 37 some, ne_eqb (146 / 2 ^ count % 2) 1 bound, ne_eqb count 5 not_five, ne_eqb count 2 not_two, ne_eqb first 21 no_test) refl)

-- ---- the addresses that are read

module _ (first count : ℕ) (low : first < 64) (form : is_form first count ≡ true) where
  read_at : addresses_by first count ≡ read_by first count
  unfolding addresses_by
  read_at =
      let f = formed first count form in
      let here = taken_as _ first count f.form (ap (agrees (bit (get_or FORMS first 0) count) first count) (sym (form_is first count f)) ∙ agrees_at first count low (is_short first count f)) in
      rw (form_is first count f) here.1

  pub none_read : first ≡ 37 → 0 ≡ addresses_by first count
  none_read none = sym (read_at ∙ rw (eq-eqb first 37 none) refl)

  pub few_read : first ≢ 37 → count < 4 → 0 ≡ addresses_by first count
  few_read some few = sym (read_at ∙ rw (ne_eqb first 37 some, lt-ltb count 4 few) refl)

  pub one_read : first ≢ 37 → 4 ≤ count → count < 7 → 1 ≡ addresses_by first count
  one_read some four below = sym (read_at ∙ rw (ne_eqb first 37 some, le-ltb count 4 four, lt-ltb count 7 below) refl)

  pub two_read : first ≢ 37 → 4 ≤ count → 7 ≤ count → 2 ≡ addresses_by first count
  two_read some four seven = sym (read_at ∙ rw (ne_eqb first 37 some, le-ltb count 4 four, le-ltb count 7 seven) refl)

-- ---- the sets of characters, by computation

pub condition_at : (last : ℕ) → last < 64 → bit CONDITIONS last ≡ is_some (condition_of last)
unfolding condition_of glyph_of
condition_at last low = same_is _ _ (at_each (λ n. same (bit CONDITIONS n) (is_some (condition_of n))) 64 refl last low)

pub test_at : (last : ℕ) → last < 64 → bit TESTS last ≡ is_some (test_of last)
unfolding test_of glyph_of
test_at last low = same_is _ _ (at_each (λ n. same (bit TESTS n) (is_some (test_of n))) 64 refl last low)

pub order_at : (last : ℕ) → last < 64 → bit ORDERS last ≡ is_some (order_of last)
unfolding order_of glyph_of
order_at last low = same_is _ _ (at_each (λ n. same (bit ORDERS n) (is_some (order_of n))) 64 refl last low)

pub pocket_at : (last : ℕ) → last < 64 → bit POCKETS last ≡ is_some (pocket_of last)
unfolding pocket_of glyph_of
pocket_at last low = same_is _ _ (at_each (λ n. same (bit POCKETS n) (is_some (pocket_of n))) 64 refl last low)
