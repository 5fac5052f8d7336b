-- names as they are spelled
use Rattle.std.specs.Prelude.{ℕ, ◌≡◌, ◌≢◌, ◌≤◌, ◌-◌, ◌||◌, true, List, ◌++◌, length, slice_index, replicate, codes}
use Rattle.std.specs.List.{list_all}
use Rattle.autocoder_statements.specs.declared.names.Name.{Name}
use Rattle.autocoder_laws.specs.Texts.{characters, blank, is_one_of, letters, digits}

-- a name spelled in one to six letters and digits, a letter first; the words that name the index
-- locations are no names
pub record IsName (name : Name) (text : List ℕ) : Type 0 where
  pub letter : is_one_of letters (slice_index text 0) ≡ true
  pub others : list_all (λ code. is_one_of letters code || is_one_of digits code) text ≡ true
  pub few : length text ≤ 6
  pub not_first : text ≢ characters (codes "X1")
  pub not_second : text ≢ characters (codes "X2")
  pub not_third : text ≢ characters (codes "X3")
  pub padded : name.characters ≡ text ++ replicate (6 - length text) blank
