-- some of a bureau's customers, and their part of an office
use Rattle.std.specs.Prelude.{◌≡◌, ◌≢◌, ◌⊎◌, ℕ, Bool, true, false, not, bytes_eq, Contains, List, [], Option, Some, None, filter}
use Rattle.std.specs.List.{AllByRecursion, list_any}
use Rattle.std.specs.Borrow.{Bor}
use Rattle.office.specs.Office.{Office, own}
use Rattle.sqlite.specs.Order.{Row, column}
use Rattle.sqlite.specs.declared.types.Value.{Value}
use Rattle.sqlite.specs.declared.types.Value.TheVariants.{Text}
use Rattle.job_archives.specs.declared.customers.Customers.{Customers}
use Rattle.job_archives.specs.declared.customers.Customers.TheVariants.{All, Named, Others}

-- whether a customer has one of these names
abbrev pub is_named : List (Bor (List ℕ)) → List ℕ → Bool
is_named names customer = list_any (λ it. bytes_eq it.now customer) names

-- whether a customer is one of these
abbrev pub is_among : Customers → List ℕ → Bool
is_among All customer = true
is_among (Named names) customer = is_named names.now customer
is_among (Others names) customer = not (is_named names.now customer)

-- the part of an office that these customers have, in its order
abbrev pub part_of : Customers → Office → Office
part_of customers = filter (λ e. is_among customers e.customer)

-- whether a value is a text that passes this test
abbrev pub is_text : (List ℕ → Bool) → Value → Bool
is_text test (Text name) = test name
is_text test _ = false

-- whether a row begins with the name of one of these customers; of all customers each row does
abbrev pub is_theirs : Customers → Row → Bool
is_theirs All row = true
is_theirs (Named names) row = is_text (is_named names.now) (column row 0)
is_theirs (Others names) row = is_text (λ name. not (is_named names.now name)) (column row 0)

-- each customer is one of these in exactly one way: named, or one of the others. What the customer
-- has of an office is whole in that part, and the other part has nothing of it
pub record IsWholeInOne (names : Bor (List (Bor (List ℕ)))) (customer : List ℕ) (office : Office)
    : Type 0 where
  pub named : is_named names.now customer ≡ true
      → own customer (part_of (Named names) office) ≡ own customer office
  pub not_others : is_named names.now customer ≡ true
      → own customer (part_of (Others names) office) ≡ []
  pub others : is_named names.now customer ≡ false
      → own customer (part_of (Others names) office) ≡ own customer office
  pub not_named : is_named names.now customer ≡ false
      → own customer (part_of (Named names) office) ≡ []

-- ---- who has jobs

-- the customer has a job in the office
abbrev pub HasJobs : Office → List ℕ → Type 0
HasJobs office customer = own customer office ≢ []

-- the customer has no job in the office
abbrev pub HasNoJobs : Office → List ℕ → Type 0
HasNoJobs office customer = own customer office ≡ []

-- the names by which these customers are chosen
abbrev pub names_in : Customers → List (Bor (List ℕ))
names_in All = []
names_in (Named names) = names.now
names_in (Others names) = names.now

-- this is a name by which a customer without a job is chosen; none, if each has one
abbrev pub IsUnknown : Customers → Office → Option (Bor (List ℕ)) → Type 0
IsUnknown customers office None = AllByRecursion (λ it. HasJobs office it.now) (names_in customers)
IsUnknown customers office (Some name) =
    Contains (names_in customers) name × HasNoJobs office name.now

-- this is a customer who has jobs in both; none, if each has none in the one or in the other
abbrev pub IsShared : Office → Office → Option (List ℕ) → Type 0
IsShared first second None =
    (customer : List ℕ) → HasNoJobs first customer ⊎ HasNoJobs second customer
IsShared first second (Some customer) = HasJobs first customer × HasJobs second customer

-- whether a row begins with the name of this customer
abbrev pub begins_with : List ℕ → Row → Bool
begins_with customer row = is_text (λ name. bytes_eq name customer) (column row 0)

-- whether one of these rows begins with the name of this customer
abbrev pub has_row : List ℕ → List Row → Bool
has_row customer = list_any (begins_with customer)

-- this is one of these names, with which no row begins; none, if a row begins with each
abbrev pub IsUnknownAmong : List (Bor (List ℕ)) → List Row → Option (Bor (List ℕ)) → Type 0
IsUnknownAmong names rows None = AllByRecursion (λ it. has_row it.now rows ≡ true) names
IsUnknownAmong names rows (Some name) = Contains names name × (has_row name.now rows ≡ false)

-- this is a name with which rows of both begin; none, if no row of the second begins with the name
-- of one of the first
abbrev pub IsSharedAmong : List Row → List Row → Option (Bor (List ℕ)) → Type 0
IsSharedAmong first second None = AllByRecursion (λ row. (customer : List ℕ)
    → column row 0 ≡ Text customer → has_row customer second ≡ false) first
IsSharedAmong first second (Some name) =
    (has_row name.now first ≡ true) × (has_row name.now second ≡ true)
