-- numbers as they are spelled
use Rattle.std.specs.Prelude.{ℕ, ◌≡◌, ◌<◌, ◌≤◌, ◌^◌, List, length}
use Rattle.autocoder_statements.specs.Laws.{digits_of}

-- a number spelled in one to five digits, the highest first; zeros may come before it
pub record IsNumber (n : ℕ) (text : List ℕ) : Type 0 where
  pub some : 0 < length text
  pub few : length text ≤ 5
  pub below : n < 10 ^ length text
  pub said : text ≡ digits_of (length text) n

-- a number other than 0, so spelled
pub record IsPositive (n : ℕ) (text : List ℕ) : Type 0 where
  pub positive : 0 < n
  pub number : IsNumber n text
