-- What parts and joins of offices hold of each customer, and who has jobs in them.
use Rattle.std.proofs.Common.{◌≡◌, ◌≢◌, ◌⊎◌, inl, inr, ◌++◌, ◌||◌, ℕ, List, [], ◌∷◌, map, filter, zero, suc, arith, ◌<◌, length, get_or, Bool, true, false, not, bytes_eq, cond, Option, Some, None, refl, sym, ap, subst, ◌∙◌, true≢false}
use Rattle.std.specs.Borrow.{Bor}
use Rattle.std.specs.List.{AllByRecursion}
use Rattle.std.proofs.lemmas.List.{append-nil}
use Rattle.std.proofs.lemmas.List.Elements.{filter-append}
use Rattle.std.proofs.lemmas.Slice.Eq.{bytes_eq-Decides}
use Rattle.sqlite_keyed.proofs.ListLemmas.{filter-filter}
use Rattle.sqlite.specs.Order.{Row, column}
use Rattle.sqlite.specs.declared.types.Value.{Value}
use Rattle.sqlite.specs.declared.types.Value.TheVariants.{Text}
use Rattle.office.specs.Office.{Entry, Office, own}
use Rattle.job_archives.specs.Names.{name_row}
use Rattle.job_archives.specs.Parts.{begins_with, has_row, is_among, is_text, names_in, part_of, HasJobs, HasNoJobs, IsShared, IsSharedAmong, IsUnknown, IsUnknownAmong, IsWholeInOne}
use Rattle.job_archives.specs.declared.customers.Customers.{Customers}
use Rattle.job_archives.specs.declared.customers.Customers.TheVariants.{Named, Others}

-- two tests that no thing passes
none_both : {X : Type 0} (p q : X → Bool) → ((x : X) → p x ≡ true → q x ≡ false) → (xs : List X) → filter p (filter q xs) ≡ []
none_both p q apart [] = refl
none_both {X} p q apart (x ∷ xs) = go (q x) refl (p x) refl (none_both p q apart xs)
  where
    go : (b : Bool) → q x ≡ b → (a : Bool) → p x ≡ a → filter p (filter q xs) ≡ [] → filter p (cond (q x) (x ∷ filter q xs) (filter q xs)) ≡ []
    go true two true one rest = absurd (true≢false (sym two ∙ apart x one))
    go true two false one rest = rw (two, one) rest
    go false two a one rest = rw two rest

module _ (customers : Customers) (customer : List ℕ) where
  his : (e : Entry) → bytes_eq e.customer customer ≡ true → is_among customers e.customer ≡ is_among customers customer
  his e is = ap (is_among customers) ((bytes_eq-Decides e.customer customer).0 is)

  pub own_in_part : is_among customers customer ≡ true → (office : Office) → own customer (part_of customers office) ≡ own customer office
  own_in_part here office = filter-filter (λ e. bytes_eq e.customer customer) (λ e. is_among customers e.customer) (λ e is. his e is ∙ here) office

  pub own_gone : is_among customers customer ≡ false → (office : Office) → own customer (part_of customers office) ≡ []
  own_gone gone office = none_both (λ e. bytes_eq e.customer customer) (λ e. is_among customers e.customer) (λ e is. his e is ∙ gone) office

pub whole_in_one : (names : Bor (List (Bor (List ℕ)))) (customer : List ℕ) (office : Office) → IsWholeInOne names customer office
whole_in_one names customer office = record {
  named = λ is. own_in_part (Named names) customer is office;
  not_others = λ is. own_gone (Others names) customer (ap not is) office;
  others = λ is. own_in_part (Others names) customer (ap not is) office;
  not_named = λ is. own_gone (Named names) customer is office;
}

pub own_of_first : (customer : List ℕ) (office more : Office) → HasNoJobs more customer → own customer (office ++ more) ≡ own customer office
own_of_first customer office more none = filter-append _ office more ∙ ap (λ es. own customer office ++ es) none ∙ append-nil (own customer office)

pub own_of_second : (customer : List ℕ) (office more : Office) → HasNoJobs office customer → own customer (office ++ more) ≡ own customer more
own_of_second customer office more none = filter-append _ office more ∙ ap (λ es. es ++ own customer more) none

-- ---- who has jobs

no_row : (customer : List ℕ) (office : Office) → has_row customer (map name_row office) ≡ false → own customer office ≡ []
no_row customer [] none = refl
no_row customer (e ∷ office) none = go (bytes_eq e.customer customer) refl none (no_row customer office)
  where
    go : (b : Bool) → bytes_eq e.customer customer ≡ b → (b || has_row customer (map name_row office)) ≡ false → (has_row customer (map name_row office) ≡ false → own customer office ≡ []) → cond (bytes_eq e.customer customer) (e ∷ own customer office) (own customer office) ≡ []
    go true is none rest = absurd (true≢false none)
    go false is none rest = rw is (rest none)

some_row : (customer : List ℕ) (office : Office) → has_row customer (map name_row office) ≡ true → own customer office ≢ []
some_row customer [] some = absurd (true≢false (sym some))
some_row customer (e ∷ office) some = go (bytes_eq e.customer customer) refl some (some_row customer office)
  where
    go : (b : Bool) → bytes_eq e.customer customer ≡ b → (b || has_row customer (map name_row office)) ≡ true → (has_row customer (map name_row office) ≡ true → own customer office ≢ []) → cond (bytes_eq e.customer customer) (e ∷ own customer office) (own customer office) ≢ []
    go true is some rest = rw is (λ none. let it : e ∷ own customer office ≡ [] = none in cc)
    go false is some rest = rw is (rest some)

all_have : (names : List (Bor (List ℕ))) (office : Office) → AllByRecursion (λ it. has_row it.now (map name_row office) ≡ true) names → AllByRecursion (λ it. HasJobs office it.now) names
all_have [] office all = tt
all_have (name ∷ names) office all = (some_row name.now office all.0, all_have names office all.1)

pub unknown_of : (customers : Customers) (rows : List Row) (office : Office) (found : Option (Bor (List ℕ))) → rows ≡ map name_row office → IsUnknownAmong (names_in customers) rows found → IsUnknown customers office found
unknown_of customers rows office None are among = all_have (names_in customers) office (subst (λ (xs : List Row). AllByRecursion (λ it. has_row it.now xs ≡ true) (names_in customers)) are among)
unknown_of customers rows office (Some name) are among = (among.0, no_row name.now office (sym (ap (has_row name.now) are) ∙ among.1))

-- a customer with a job in the one has none in the other
apart_of : (customer : List ℕ) (office more : Office) → AllByRecursion (λ (row : Row). (name : List ℕ) → column row 0 ≡ Text name → has_row name (map name_row more) ≡ false) (map name_row office) → HasNoJobs office customer ⊎ HasNoJobs more customer
apart_of customer [] more apart = inl refl
apart_of customer (e ∷ office) more apart = go (bytes_eq e.customer customer) refl (apart_of customer office more apart.1)
  where
    go : (b : Bool) → bytes_eq e.customer customer ≡ b → HasNoJobs office customer ⊎ HasNoJobs more customer → HasNoJobs (e ∷ office) customer ⊎ HasNoJobs more customer
    go true is rest = inr (no_row customer more (apart.0 customer (ap Text ((bytes_eq-Decides e.customer customer).0 is))))
    go false is (inl none) = inl (rw is none)
    go false is (inr none) = inr none

pub shared_none : (rows others : List Row) (office more : Office) → rows ≡ map name_row office → others ≡ map name_row more → IsSharedAmong rows others None → IsShared office more None
shared_none rows others office more are are' among = λ customer. apart_of customer office more
    (subst (λ (xs : List Row). AllByRecursion (λ (row : Row). (name : List ℕ) → column row 0 ≡ Text name → has_row name xs ≡ false) (map name_row office)) are'
    (subst (AllByRecursion (λ (row : Row). (name : List ℕ) → column row 0 ≡ Text name → has_row name others ≡ false)) are among))

pub shared_some : (rows others : List Row) (office more : Office) (name : Bor (List ℕ)) → rows ≡ map name_row office → others ≡ map name_row more → IsSharedAmong rows others (Some name) → (customer : List ℕ) → customer ≡ name.now → HasJobs office customer × HasJobs more customer
shared_some rows others office more name are are' among customer same = (
  subst (HasJobs office) (sym same) (some_row name.now office (sym (ap (has_row name.now) are) ∙ among.0)),
  subst (HasJobs more) (sym same) (some_row name.now more (sym (ap (has_row name.now) are') ∙ among.1)),
)

-- a row with the name of a customer is among these
pub row_there : (rows : List Row) (i : ℕ) (d : Row) (customer : List ℕ) → i < length rows → column (get_or rows i d) 0 ≡ Text customer → has_row customer rows ≡ true
row_there [] i d customer less is = absurd (omega (arith, less))
row_there (row ∷ rows) zero d customer less is =
    let here : begins_with customer row ≡ true = ap (is_text (λ name. bytes_eq name customer)) is ∙ (bytes_eq-Decides customer customer).1 refl in
    rw here refl
row_there (row ∷ rows) (suc i) d customer less is = or_later (begins_with customer row) (has_row customer rows) (row_there rows i d customer (omega (arith, less)) is)
  where
    or_later : (a b : Bool) → b ≡ true → (a || b) ≡ true
    or_later true b is = refl
    or_later false b is = is

-- two names in one column are one name
pub same_name : (rows : List Row) (name customer : List ℕ) {value : Value} → value ≡ Text name → value ≡ Text customer → has_row name rows ≡ false → has_row customer rows ≡ false
same_name rows name customer one other none =
    let both : Text name ≡ Text customer = sym one ∙ other in
    let same : name ≡ customer = cc in
    subst (λ (it : List ℕ). has_row it rows ≡ false) same none
