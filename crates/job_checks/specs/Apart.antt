-- what is told of a value that is not the one that is wanted
use Rattle.std.specs.Prelude.{ℕ, ℤ, ◌≡◌, ◌≢◌, ◌-◌, ◌^◌, ◌<◌, List, [], ◌∷◌, codes, get_or, length, slice_index}
use Rattle.sqlite.specs.Order.{Row, column}
use Rattle.sqlite.specs.declared.types.Value.{Value}
use Rattle.sqlite.specs.declared.types.Value.TheVariants.{Blob, Int}
use Rattle.job_checks.specs.declared.differences.Found.{Found}
use Rattle.job_checks.specs.declared.differences.Found.TheVariants as found
use Rattle.job_checks.specs.declared.differences.Place.{Place}
use Rattle.job_checks.specs.declared.differences.Place.TheVariants as place

-- two texts of one length have the same bytes before this place, counted from 0, and there the one
-- has this byte and the other that, which is another
pub record IsFirstApart (is wanted : List ℕ) (at one other : ℕ) : Type 0 where
  pub same_length : length is ≡ length wanted
  pub within : at < length is
  pub before : (k : ℕ) → k < at → slice_index is k ≡ slice_index wanted k
  pub one_is : slice_index is at ≡ one
  pub other_is : slice_index wanted at ≡ other
  pub differs : one ≢ other

-- what is told of bytes that are not those that are wanted: the first that differs; or their column
-- alone, if these are more or fewer, or far more than a row holds and only the last ones differ
abbrev pub AreApart : List ℕ → List ℕ → Found → Type 0
AreApart is wanted (found.Byte name at one other) = IsFirstApart is wanted at one other
AreApart is wanted (found.Value name) = length is ≡ length wanted → (k : ℕ) → k < 2 ^ 32 - 1
    → k < length is → slice_index is k ≡ slice_index wanted k
AreApart is wanted other = ⊥

-- what is told of a value that is not the one that is wanted: of numbers both, of bytes the first
-- that differs, and of others their column alone
abbrev pub IsApart : Value → Value → Found → Type 0
IsApart is wanted (found.Number name one other) = (is ≡ Int one) × (wanted ≡ Int other)
IsApart is wanted (found.Byte name at one other) = (xs ys : List ℕ) × (is ≡ Blob xs)
    × (wanted ≡ Blob ys) × IsFirstApart xs ys at one other
IsApart is wanted (found.Value name) =
    ((one other : ℤ) → is ≡ Int one → wanted ≡ Int other → ⊥)
    × ((xs ys : List ℕ) → is ≡ Blob xs → wanted ≡ Blob ys → AreApart xs ys (found.Value name))
IsApart is wanted other = ⊥

-- the names of the columns of a row
abbrev pub columns_of : Place → List (List ℕ)
columns_of place.Job = codes "customer" ∷ codes "number" ∷ codes "kind" ∷ codes "size"
    ∷ codes "deck" ∷ codes "loaded" ∷ codes "held" ∷ codes "collected" ∷ []
columns_of (place.Stretch at) = codes "customer" ∷ codes "number" ∷ codes "place"
    ∷ codes "switches" ∷ codes "granted" ∷ []
columns_of place.State = codes "customer" ∷ codes "number" ∷ codes "i" ∷ codes "a" ∷ codes "b"
    ∷ codes "compare" ∷ codes "overflow" ∷ codes "channel" ∷ codes "waiting" ∷ codes "form"
    ∷ codes "line" ∷ codes "taken" ∷ codes "cards" ∷ codes "lines" ∷ codes "standing" ∷ []
columns_of (place.Page page) = codes "customer" ∷ codes "number" ∷ codes "page"
    ∷ codes "storage" ∷ []
columns_of (place.Card at) = codes "customer" ∷ codes "number" ∷ codes "place" ∷ codes "card" ∷ []
columns_of (place.Pocket at) = codes "customer" ∷ codes "number" ∷ codes "place"
    ∷ codes "pocket" ∷ []
columns_of (place.Line at) = codes "customer" ∷ codes "number" ∷ codes "place" ∷ codes "form"
    ∷ codes "line" ∷ codes "image" ∷ []
columns_of place.Profile = codes "customer" ∷ codes "number" ∷ codes "profile"
    ∷ codes "chosen" ∷ []

-- the name of a column of a row
abbrev pub column_name : Place → ℕ → List ℕ
column_name place at = get_or (columns_of place) at (codes "row")

-- what is told names this column
abbrev pub NamesColumn : List ℕ → Found → Type 0
NamesColumn column (found.Number name is wanted) = name.now ≡ column
NamesColumn column (found.Byte name at is wanted) = name.now ≡ column
NamesColumn column (found.Value name) = name.now ≡ column
NamesColumn column other = ⊥

-- what is told of a row in a column, where another row is wanted: how the values there differ, and
-- the name of the column
unfoldable pub TellsApart : Place → Row → Row → ℕ → Found → Type 0
TellsApart place is wanted at it =
    IsApart (column is at) (column wanted at) it × NamesColumn (column_name place at) it
