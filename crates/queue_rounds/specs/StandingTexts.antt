-- the texts that a bureau prints of the standing of a job
use Rattle.std.specs.Prelude.{ℕ, zero, suc, ◌≡◌, ◌<◌, ◌++◌, ◌||◌, ⊤, Bool, false, List, [], ◌∷◌, decimal}
use Rattle.std.specs.List.{list_any}
use Rattle.std.specs.Str.{bytes_eq}
use Rattle.core_store.specs.Storage.{largest_size}
use Rattle.core_store.specs.declared.checks.Check.TheVariants as check
use Rattle.machine.specs.Standings.{standing_words}
use Rattle.machine.specs.declared.standings.StandingAt.{StandingAt}
use Rattle.machine.specs.declared.standings.StandingAt.TheVariants.{Running, Halted, Checked}

-- the address of a standing, if it has one, is one of the largest storage
abbrev pub IsInStorage : StandingAt → Type 0
IsInStorage Running = ⊤
IsInStorage (Halted next) = next < largest_size
IsInStorage (Checked check at) = at < largest_size

-- the standings that have an address, each by it: at a halt, and at each of the checks
abbrev pub with_address : List (ℕ → StandingAt)
with_address =
    (λ next. Halted next) ∷ (λ at. Checked check.Address at)
    ∷ (λ at. Checked check.Instruction at) ∷ (λ at. Checked check.Data at)
    ∷ (λ at. Checked check.Overlap at) ∷ (λ at. Checked check.ReaderEmpty at)
    ∷ (λ at. Checked check.PunchFull at) ∷ (λ at. Checked check.PrinterFull at) ∷ []

-- whether a number below this one passes a test
unfoldable pub any_below : (ℕ → Bool) → ℕ → Bool
any_below test zero = false
any_below test (suc n) = test n || any_below test n

-- a text is an address of the largest storage
abbrev pub IsAddress : List ℕ → Type 0
IsAddress text = (n : ℕ) × (n < largest_size) × (text ≡ decimal n)

-- whether a text is these words, and behind them an address of the largest storage
abbrev pub is_with_address : List ℕ → List ℕ → Bool
is_with_address text words = any_below (λ n. bytes_eq text (words ++ decimal n)) largest_size

-- whether a text is what is printed of such a standing at an address of the largest storage
abbrev pub is_printed_at : List ℕ → (ℕ → StandingAt) → Bool
is_printed_at text at = any_below (λ n. bytes_eq text (standing_words (at n))) largest_size

-- whether a text is what a bureau prints of a standing
unfoldable pub is_standing : List ℕ → Bool
is_standing text =
    bytes_eq text (standing_words Running) || list_any (is_printed_at text) with_address
